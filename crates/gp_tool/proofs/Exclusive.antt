-- Of the endings without a fault one alone may come, with one text.
use Rattle.std.proofs.Common.{◌≡◌, ◌⊎◌, ℕ, ◌+◌, ◌<◌, ◌≤◌, Bool, true, false, List, [], ◌∷◌, ◌++◌, length, refl, sym, ap, subst, ◌∙◌, inl, inr, arith, length-append}
use Rattle.std.specs.List.{concat}
use Rattle.io_edge.proofs.NextLine.{line_not_cut, one_cut, one_line}
use Rattle.io_edge.specs.Lines.{IsCut, IsNextLine}
use Rattle.io_edge.specs.declared.line.TheConstants.{INPUT_LIMIT, LINE_LIMIT}
use Rattle.policy_machine.specs.State.{State}
use Rattle.line_runs.proofs.ComeFirst.{room_further, room_left, room_whole}
use Rattle.gp_tool.proofs.One.{line_once, plays_form}
use Rattle.gp_tool.proofs.RunsMore.{runs_once}
use Rattle.gp_tool.specs.Effects.{LineEffect, LinePlace}
use Rattle.gp_tool.specs.Ends.{Course, IsBad, with_bad_line}
use Rattle.line_runs.specs.Outside.{Outside}
use Rattle.line_runs.specs.Taken.{AreAllTaken, ComeFirst, IsShortCut}
use Rattle.gp_tool.specs.Going.{AreShort}
use Rattle.gp_tool.specs.Laws.{EndsTold, IsFaultless}
use Rattle.gp_tool.specs.RunsLines.{HasForm, Memory, PlaysLine, RunsLines, start}
use Rattle.line_runs.specs.declared.exit.Ending.{Ending}
use Rattle.line_runs.specs.declared.exit.Ending.TheVariants.{Finished, Differs, BadLine, Failed, ReadFault, WriteFault, InputTooLong}
use Rattle.gp_tool.specs.declared.verb.Verb.{Verb}

-- nothing stands ahead, and there is room
abbrev IsOver : ℕ → List ℕ → Type 0
IsOver room ahead = (ahead ≡ []) × (0 < room)

-- no line can be given
abbrev Halts : (verb : Verb) → Memory verb → ℕ → List ℕ → Type 0
Halts verb memory room ahead = IsBad verb memory room ahead ⊎ IsShortCut room ahead ⊎ IsOver room ahead

-- nothing is no line
no_line_of_nothing : (room : ℕ) (line after : List ℕ) → IsNextLine room [] line after → ⊥
no_line_of_nothing room line after (inl whole) =
    let none = ap length whole.is ∙ length-append whole.piece (10 ∷ after) in
    omega (arith, none)
no_line_of_nothing room line after (inr last) = (let some = last.some in omega (arith, some))

module _ (verb : Verb) where
  not_good : (memory : Memory verb) (room : ℕ) (ahead line after : List ℕ) → Halts verb memory room ahead → IsNextLine room ahead line after
      → HasForm verb line memory → length line ≤ LINE_LIMIT → ⊥
  not_good memory room ahead line after (inl (text, inl none)) next form fits =
      let same = one_line room ahead line text after none.0 next none.1 in
      none.2 (subst (λ (l : List ℕ). HasForm verb l memory) same.0 form)
  not_good memory room ahead line after (inl (text, inr (inl whole, long))) next form fits =
      let same = one_line room ahead line text after whole.0 next whole.1 in
      let len = ap length same.0 in
      omega (arith, long, fits, len)
  not_good memory room ahead line after (inl (text, inr (inr cut, long))) next form fits = line_not_cut room ahead line after text next cut
  not_good memory room ahead line after (inr (inl (text, cut, short))) next form fits = line_not_cut room ahead line after text next cut
  not_good memory room ahead line after (inr (inr over)) next form fits =
      no_line_of_nothing room line after (subst (λ (bytes : List ℕ). IsNextLine room bytes line after) over.0 next)

  bad_not_cut : (memory : Memory verb) (room : ℕ) (ahead : List ℕ) → IsBad verb memory room ahead → IsShortCut room ahead → ⊥
  bad_not_cut memory room ahead (text, inl none) (cut, is_cut, short) = line_not_cut room ahead text none.0 cut none.1 is_cut
  bad_not_cut memory room ahead (text, inr (inl whole, long)) (cut, is_cut, short) = line_not_cut room ahead text whole.0 cut whole.1 is_cut
  bad_not_cut memory room ahead (text, inr (inr other, long)) (cut, is_cut, short) =
      let len = ap length (one_cut room ahead text cut other is_cut) in
      omega (arith, long, short, len)

  cut_not_over : (room : ℕ) (ahead text : List ℕ) → IsCut room ahead text → IsOver room ahead → ⊥
  cut_not_over room ahead text cut over =
      let none = sym (ap length over.0) ∙ ap length cut.is ∙ length-append cut.piece cut.rest in
      let full = cut.full in
      let some = over.1 in
      omega (arith, none, full, some)

  bad_not_over : (memory : Memory verb) (room : ℕ) (ahead : List ℕ) → IsBad verb memory room ahead → IsOver room ahead → ⊥
  bad_not_over memory room ahead (text, inl none) over =
      no_line_of_nothing room text none.0 (subst (λ (bytes : List ℕ). IsNextLine room bytes text none.0) over.0 none.1)
  bad_not_over memory room ahead (text, inr (inl whole, long)) over =
      no_line_of_nothing room text whole.0 (subst (λ (bytes : List ℕ). IsNextLine room bytes text whole.0) over.0 whole.1)
  bad_not_over memory room ahead (text, inr (inr cut, long)) over = cut_not_over room ahead text cut over

  -- where no line can be given
  record HaltsAfter (number room : ℕ) (input : List ℕ) (at : LinePlace (Memory verb)) (given : List (List ℕ)) (effect : LineEffect) (last : LinePlace (Memory verb)) (ahead : List ℕ) : Type 0 where
    pub come : ComeFirst room input given ahead
    pub fits : AreShort given
    pub runs : RunsLines verb number given at effect last
    pub halts : Halts verb last.memory (room_left room input ahead) ahead

  halts_here : (number room : ℕ) (input : List ℕ) (at : LinePlace (Memory verb)) (effect : LineEffect) (last : LinePlace (Memory verb)) (ahead : List ℕ)
      → HaltsAfter number room input at [] effect last ahead → Halts verb at.memory room input
  halts_here number room input at effect last ahead behind =
      let runs = behind.runs in
      let come : ahead ≡ input = behind.come in
      let here : Halts verb last.memory room ahead = subst (λ (n : ℕ). Halts verb last.memory n ahead) (room_whole room input ahead come) behind.halts in
      let there : Halts verb last.memory room input = subst (λ (bytes : List ℕ). Halts verb last.memory room bytes) come here in
      subst (λ (place : LinePlace (Memory verb)). Halts verb place.memory room input) runs.1 there

  -- it is after the first line too
  halts_after : (number room : ℕ) (input : List ℕ) (at : LinePlace (Memory verb)) (line : List ℕ) (given : List (List ℕ)) (effect : LineEffect) (last : LinePlace (Memory verb)) (ahead : List ℕ)
      → (behind : HaltsAfter number room input at (line ∷ given) effect last ahead)
      → HaltsAfter (number + 1) (room_left room input behind.come.0) behind.come.0 behind.runs.1 given behind.runs.2 last ahead
  halts_after number room input at line given effect last ahead behind =
      let come = behind.come in
      let fits = behind.fits in
      let runs = behind.runs in
      record {
        come = come.2;
        fits = fits.1;
        runs = runs.4;
        halts = subst (λ (n : ℕ). Halts verb last.memory n ahead) (room_further room input line come.0 ahead given come.1 come.2) behind.halts;
      }

  not_here : (number room : ℕ) (input : List ℕ) (at : LinePlace (Memory verb)) (line : List ℕ) (given : List (List ℕ)) (effect : LineEffect) (last : LinePlace (Memory verb)) (ahead : List ℕ)
      → HaltsAfter number room input at (line ∷ given) effect last ahead → Halts verb at.memory room input → ⊥
  not_here number room input at line given effect last ahead behind halts =
      let come = behind.come in
      let fits = behind.fits in
      let runs = behind.runs in
      not_good at.memory room input line come.0 halts come.1 (plays_form verb number line at runs.1 runs.0 runs.3) fits.0

  -- there is one such place
  halts_once : (number room : ℕ) (input : List ℕ) (at : LinePlace (Memory verb)) (given others : List (List ℕ)) (effect other : LineEffect) (last another : LinePlace (Memory verb)) (ahead beyond : List ℕ)
      → HaltsAfter number room input at given effect last ahead → HaltsAfter number room input at others other another beyond → (given ≡ others) × (ahead ≡ beyond)
  halts_once number room input at [] [] effect other last another ahead beyond halts again = (refl, halts.come ∙ sym again.come)
  halts_once number room input at [] (line ∷ others) effect other last another ahead beyond halts again =
      absurd (not_here number room input at line others other another beyond again (halts_here number room input at effect last ahead halts))
  halts_once number room input at (line ∷ given) [] effect other last another ahead beyond halts again =
      absurd (not_here number room input at line given effect last ahead halts (halts_here number room input at other another beyond again))
  halts_once number room input at (line ∷ given) (l ∷ others) effect other last another ahead beyond halts again =
      let come = halts.come in
      let come' = again.come in
      let runs = halts.runs in
      let runs' = again.runs in
      let same = one_line room input line l come.0 come'.0 come.1 come'.1 in
      let played = line_once verb number l at runs.1 runs'.1 runs.0 runs'.0 (subst (λ (t : List ℕ). PlaysLine verb number t at runs.0 runs.1) same.0 runs.3) runs'.3 in
      let further = halts_after number room input at l others other another beyond again in
      let there : HaltsAfter (number + 1) (room_left room input come.0) come.0 runs.1 others runs'.2 another beyond
      = subst (λ (bytes : List ℕ). HaltsAfter (number + 1) (room_left room input bytes) bytes runs.1 others runs'.2 another beyond) (sym same.1)
      (subst (λ (place : LinePlace (Memory verb)). HaltsAfter (number + 1) (room_left room input come'.0) come'.0 place others runs'.2 another beyond) (sym played.1) further) in
      let more = halts_once (number + 1) (room_left room input come.0) come.0 runs.1 given others runs.2 runs'.2 last another ahead beyond
      (halts_after number room input at line given effect last ahead halts) there in
      (ap (λ t. t ∷ given) same.0 ∙ ap (λ ls. l ∷ ls) more.0, more.1)

  -- what an ending without a fault says of the place where no line can be given, and of the replies before it
  abbrev Own : Ending → Memory verb → ℕ → List ℕ → Bool → Type 0
  Own Finished memory room ahead differs = (differs ≡ false) × IsOver room ahead
  Own Differs memory room ahead differs = (differs ≡ true) × IsOver room ahead
  Own BadLine memory room ahead differs = IsBad verb memory room ahead
  Own InputTooLong memory room ahead differs = IsShortCut room ahead
  Own _ memory room ahead differs = ⊥

  own_halts : (ending : Ending) (memory : Memory verb) (room : ℕ) (ahead : List ℕ) (differs : Bool) → Own ending memory room ahead differs → Halts verb memory room ahead
  own_halts Finished memory room ahead differs own = inr (inr own.1)
  own_halts Differs memory room ahead differs own = inr (inr own.1)
  own_halts BadLine memory room ahead differs own = inl own
  own_halts InputTooLong memory room ahead differs own = inr (inl own)
  own_halts _ memory room ahead differs own = absurd own

  -- of two such endings at one place there is one
  own_once : (ending another : Ending) (memory : Memory verb) (room : ℕ) (ahead : List ℕ) (differs : Bool)
      → Own ending memory room ahead differs → Own another memory room ahead differs → ending ≡ another
  own_once Finished Finished memory room ahead differs own again = refl
  own_once Finished Differs memory room ahead differs own again = cc (own.0, again.0)
  own_once Finished BadLine memory room ahead differs own again = absurd (bad_not_over memory room ahead again own.1)
  own_once Finished InputTooLong memory room ahead differs own again = absurd (cut_not_over room ahead again.0 again.1 own.1)
  own_once Differs Finished memory room ahead differs own again = cc (own.0, again.0)
  own_once Differs Differs memory room ahead differs own again = refl
  own_once Differs BadLine memory room ahead differs own again = absurd (bad_not_over memory room ahead again own.1)
  own_once Differs InputTooLong memory room ahead differs own again = absurd (cut_not_over room ahead again.0 again.1 own.1)
  own_once BadLine Finished memory room ahead differs own again = absurd (bad_not_over memory room ahead own again.1)
  own_once BadLine Differs memory room ahead differs own again = absurd (bad_not_over memory room ahead own again.1)
  own_once BadLine BadLine memory room ahead differs own again = refl
  own_once BadLine InputTooLong memory room ahead differs own again = absurd (bad_not_cut memory room ahead own again)
  own_once InputTooLong Finished memory room ahead differs own again = absurd (cut_not_over room ahead own.0 own.1 again.1)
  own_once InputTooLong Differs memory room ahead differs own again = absurd (cut_not_over room ahead own.0 own.1 again.1)
  own_once InputTooLong BadLine memory room ahead differs own again = absurd (bad_not_cut memory room ahead again own)
  own_once InputTooLong InputTooLong memory room ahead differs own again = refl
  own_once ending Failed memory room ahead differs own again = absurd again
  own_once ending ReadFault memory room ahead differs own again = absurd again
  own_once ending WriteFault memory room ahead differs own again = absurd again
  own_once _ another memory room ahead differs own again = absurd own

  -- the texts that are written
  abbrev texts_at : Ending → List (List ℕ) → LineEffect → List (List ℕ)
  texts_at BadLine given effect = with_bad_line given effect
  texts_at _ given effect = effect.texts

  is_over : (input : List ℕ) (given : List (List ℕ)) (ahead : List ℕ) → AreAllTaken input given ahead → IsOver (room_left INPUT_LIMIT input ahead) ahead
  is_over input given ahead read = (let short = read.2 in (read.1, omega (arith, short)))

  module _ (first : State) (old : Outside) where
    -- the course of a run, and what its ending says
    record Ended (ending : Ending) (new : Outside) : Type 0 where
      pub given : List (List ℕ)
      pub effect : LineEffect
      pub last : LinePlace (Memory verb)
      pub ahead : List ℕ
      pub come : ComeFirst INPUT_LIMIT old.source.left given ahead
      pub fits : AreShort given
      pub runs : RunsLines verb 1 given (start verb first) effect last
      pub own : Own ending last.memory (room_left INPUT_LIMIT old.source.left ahead) ahead effect.differs
      pub written : new.sink.written ≡ old.sink.written ++ concat (texts_at ending given effect)

    ended_by : (ending : Ending) (new : Outside) (course : Course verb (Unit {0}) first old.source.left new.source.left)
        → Own ending course.last.memory (room_left INPUT_LIMIT old.source.left course.ahead) course.ahead course.effect.differs
        → new.sink.written ≡ old.sink.written ++ concat (texts_at ending course.given course.effect) → Ended ending new
    ended_by ending new course own written = record {
      given = course.given;
      effect = course.effect;
      last = course.last;
      ahead = course.ahead;
      come = course.reached tt;
      fits = course.fits;
      runs = course.plays;
      own = own;
      written = written;
    }

    ended : (ending : Ending) (new : Outside) → IsFaultless ending → EndsTold verb first ending old new → Ended ending new
    ended Finished new clean ends =
        let course = ends.course in
        let at = ends.ends in
        ended_by Finished new course (at.0, is_over old.source.left course.given course.ahead (at.1 tt)) (at.2 tt)
    ended Differs new clean ends =
        let course = ends.course in
        let at = ends.ends in
        ended_by Differs new course (at.0, is_over old.source.left course.given course.ahead (at.1 tt)) (at.2 tt)
    ended BadLine new clean ends = (let at = ends.ends in ended_by BadLine new ends.course (at.0 tt) (at.1 tt))
    ended InputTooLong new clean ends = (let at = ends.ends in ended_by InputTooLong new ends.course (at.0 tt) (at.1 tt))
    ended _ new clean ends = absurd clean

    behind : (ending : Ending) (new : Outside) → (ends : Ended ending new)
        → HaltsAfter 1 INPUT_LIMIT old.source.left (start verb first) ends.given ends.effect ends.last ends.ahead
    behind ending new ends = record {
      come = ends.come;
      fits = ends.fits;
      runs = ends.runs;
      halts = own_halts ending ends.last.memory (room_left INPUT_LIMIT old.source.left ends.ahead) ends.ahead ends.effect.differs ends.own;
    }

    one_end : (ending another : Ending) (new other : Outside) → Ended ending new → Ended another other → (ending ≡ another) × (new.sink.written ≡ other.sink.written)
    one_end ending another new other ends again =
        let there = halts_once 1 INPUT_LIMIT old.source.left (start verb first) ends.given again.given ends.effect again.effect ends.last again.last ends.ahead again.ahead
        (behind ending new ends) (behind another other again) in
        let played = runs_once verb 1 again.given (start verb first) ends.last again.last ends.effect again.effect
        (subst (λ (ls : List (List ℕ)). RunsLines verb 1 ls (start verb first) ends.effect ends.last) there.0 ends.runs) again.runs in
        let own : Own ending again.last.memory (room_left INPUT_LIMIT old.source.left again.ahead) again.ahead again.effect.differs
        = subst (λ (bytes : List ℕ). Own ending again.last.memory (room_left INPUT_LIMIT old.source.left bytes) bytes again.effect.differs) there.1
        (subst (λ (e : LineEffect). Own ending again.last.memory (room_left INPUT_LIMIT old.source.left ends.ahead) ends.ahead e.differs) played.0
        (subst (λ (place : LinePlace (Memory verb)). Own ending place.memory (room_left INPUT_LIMIT old.source.left ends.ahead) ends.ahead ends.effect.differs) played.1 ends.own)) in
        let same = own_once ending another again.last.memory (room_left INPUT_LIMIT old.source.left again.ahead) again.ahead again.effect.differs own again.own in (
          same,
          ends.written ∙ (λ i. old.sink.written ++ concat (texts_at (same i) (there.0 i) (played.0 i))) ∙ sym again.written,
        )

-- they end alike, and have written the same
pub ends_once : (verb : Verb) (first : State) (ending another : Ending) (old new other : Outside) → IsFaultless ending → IsFaultless another
    → EndsTold verb first ending old new → EndsTold verb first another old other → (ending ≡ another) × (new.sink.written ≡ other.sink.written)
ends_once verb first ending another old new other clean clear ends again =
    one_end verb first old ending another new other (ended verb first old ending new clean ends) (ended verb first old another other clear again)
