-- The course of lines that are taken, from line to line and to its end.
use Rattle.std.proofs.Common.{◌≡◌, ℕ, ◌+◌, ◌-◌, ◌<◌, ◌≤◌, List, [], ◌∷◌, ◌++◌, length, take, None, refl, sym, ap, subst, ◌∙◌, inl, inr, append_assoc, arith, length-append}
use Rattle.std.proofs.lemmas.List.{append-nil}
use Rattle.std.proofs.lemmas.List.Folds.{concat-append}
use Rattle.std.specs.List.{AllByRecursion, concat}
use Rattle.std.specs.Str.Lines.{lines}
use Rattle.io_edge.specs.Lines.{IsNextLine, Reading, ahead, room}
use Rattle.io_edge.specs.declared.line.TheConstants.{INPUT_LIMIT, LINE_LIMIT}
use Rattle.line_runs.proofs.ComeFirst.{come_more, lines_come}
use Rattle.line_runs.proofs.Passed.{taken_all}
use Rattle.line_runs.specs.Ends.{LinesCourse, LinesEnds, TakerFailsNext, TakesLines}
use Rattle.line_runs.specs.Turn.{LinesGoing, FailsOn, LinesEndWith, LinesGoOn, TakesNext, total}
use Rattle.line_runs.specs.Outside.{Outside, bad_line}
use Rattle.line_runs.specs.Taken.{ComeFirst, IsBadLine, IsShortCut, TakesNoMore, room_ahead}
use Rattle.line_runs.specs.Taker.{LineStep, Taker}
use Rattle.line_runs.specs.declared.ending.LinesEnd.{LinesEnd}
use Rattle.line_runs.specs.declared.ending.LinesEnd.TheVariants.{Finished, BadLine, Failed, ReadFault, WriteFault, InputTooLong}

-- one more line that is not too long
pub short_more : (given : List (List ℕ)) (line : List ℕ) → AllByRecursion (λ (l : List ℕ). length l ≤ LINE_LIMIT) given → length line ≤ LINE_LIMIT
    → AllByRecursion (λ (l : List ℕ). length l ≤ LINE_LIMIT) (given ++ line ∷ [])
short_more [] line none fits = (fits, tt)
short_more (first ∷ given) line short fits = (short.0, short_more given line short.1 fits)

pub all_written : (old text more written now : List ℕ) → written ≡ old ++ text → now ≡ written ++ more → now ≡ old ++ (text ++ more)
all_written old text more written now before after = after ∙ ap (λ w. w ++ more) before ∙ append_assoc old text more

-- one text more
pub concat_more : (texts : List (List ℕ)) (text : List ℕ) → concat (texts ++ text ∷ []) ≡ concat texts ++ text
concat_more texts text = concat-append texts (text ∷ []) ∙ ap (λ t. concat texts ++ t) (append-nil text)

-- one line more
taken_more : {T : Type 0} (takes : LineStep T) (first at next : T) (given : List (List ℕ)) (texts : List (List ℕ)) (line text : List ℕ)
    → TakesLines takes first given at texts → takes at line next text → TakesLines takes first (given ++ line ∷ []) next (texts ++ text ∷ [])
taken_more {T} takes first at next [] texts line text (same, none) one =
    (next, text, [], subst (λ (t : T). takes t line next text) same one, (refl, refl), ap (λ ts. ts ++ text ∷ []) none)
taken_more takes first at next (l ∷ given) texts line text (mid, t, more, now, later, are) one =
    (mid, t, more ++ text ∷ [], now, taken_more takes mid at next given more line text later one, ap (λ ts. ts ++ text ∷ []) are)

module _ {T : Type 0} (does : Taker T) (reads writes : Type 0) (first : T) (before : Outside) where
  -- nothing was read yet
  pub going_first : LinesGoing does reads writes first first before before (record { number = 0; passed = 0; held = []; stop = None })
  going_first = record {
    given = [];
    texts = [];
    number = refl;
    passed = λ _. omega arith;
    fits = tt;
    played = (refl, refl);
    reached = λ _. refl;
    written = λ _. sym (append-nil before.sink.written);
  }

  module _ (at at' : T) (now later : Outside) (old : Reading) (going : LinesGoing does reads writes first at before now old) where
    -- the room is that after the bytes that were passed
    room_is : reads → room old ≡ room_ahead before.source.left (ahead old now.source.left)
    room_is told =
        let passed = going.passed told in
        let behind : old.passed ≡ length before.source.left - length (ahead old now.source.left) = omega arith in
        ap (λ n. INPUT_LIMIT - n) behind

    reached_more : (line after : List ℕ) → (reads → IsNextLine (room old) (ahead old now.source.left) line after) → reads → ComeFirst INPUT_LIMIT before.source.left (going.given ++ line ∷ []) after
    reached_more line after next told =
        come_more INPUT_LIMIT before.source.left going.given (ahead old now.source.left) line after (going.reached told) (rw (← room_is told) (next told))

    -- the next line is bad, by the room after the bytes that were passed
    bad_there : (reads → IsBadLine (does.has_form at) (room old) (ahead old now.source.left)) → reads
        → IsBadLine (does.has_form at) (room_ahead before.source.left (ahead old now.source.left)) (ahead old now.source.left)
    bad_there bad told = subst (λ (n : ℕ). IsBadLine (does.has_form at) n (ahead old now.source.left)) (room_is told) (bad told)

    -- what was taken of the whole input
    taken_there : (ahead left : List ℕ) → (reads → TakesNoMore (total old now) ahead left) → reads → TakesNoMore (length before.source.left) ahead left
    taken_there ahead left taken told = subst (λ (n : ℕ). TakesNoMore n ahead left) (going.passed told) (taken told)

    -- the course up to here, and with one line more
    course_here : (rest left : List ℕ) → (reads → ComeFirst INPUT_LIMIT before.source.left going.given rest) → (reads → TakesNoMore (length before.source.left) rest left)
        → LinesCourse does reads first before.source.left left
    course_here rest left reached taken = record {
      given = going.given;
      texts = going.texts;
      last = at;
      ahead = rest;
      fits = going.fits;
      played = going.played;
      reached = reached;
      taken = taken;
    }

    course_more : (text after left : List ℕ) → TakesNext does.takes reads at at' text (room old) (ahead old now.source.left) after
        → (reads → TakesNoMore (length before.source.left) after left) → LinesCourse does reads first before.source.left left
    course_more text after left next taken = record {
      given = going.given ++ next.line ∷ [];
      texts = going.texts ++ text ∷ [];
      last = at';
      ahead = after;
      fits = short_more going.given next.line going.fits next.fits;
      played = taken_more does.takes first at at' going.given going.texts next.line text going.played next.taken;
      reached = reached_more next.line after next.next;
      taken = taken;
    }

    pub going_further : (new : Reading) → LinesGoOn does reads writes at at' old new now later → LinesGoing does reads writes first at' before later new
    going_further new on = record {
      given = going.given ++ on.line.line ∷ [];
      texts = going.texts ++ on.text ∷ [];
      number = on.number ∙ ap (λ n. n + 1) going.number ∙ sym (length-append going.given (on.line.line ∷ []));
      passed = λ told. on.passed told ∙ going.passed told;
      fits = short_more going.given on.line.line going.fits on.line.fits;
      played = taken_more does.takes first at at' going.given going.texts on.line.line on.text going.played on.line.taken;
      reached = reached_more on.line.line (ahead new later.source.left) on.line.next;
      written = λ told.
          all_written before.sink.written (concat going.texts) on.text now.sink.written later.sink.written (going.written told) (on.written told)
          ∙ ap (λ t. before.sink.written ++ t) (sym (concat_more going.texts on.text));
    }

    -- the texts so far, and nothing more
    so_far : (writes → later.sink.written ≡ now.sink.written) → writes → later.sink.written ≡ before.sink.written ++ concat going.texts
    so_far silent told = silent told ∙ going.written told

    -- the last text was cut
    last_cut : (n : ℕ) (text : List ℕ) → writes → later.sink.written ≡ now.sink.written ++ take n text
        → later.sink.written ≡ before.sink.written ++ (concat going.texts ++ take n text)
    last_cut n text told wrote =
        all_written before.sink.written (concat going.texts) (take n text) now.sink.written later.sink.written (going.written told) wrote

    -- the taker failed in the next line
    fails_next : (Writes : List ℕ → Type 0) → FailsOn does reads at at' old now later Writes
        → TakerFailsNext does reads at (room_ahead before.source.left (ahead old now.source.left)) (ahead old now.source.left)
    fails_next Writes fails = record {
      line = fails.line.line;
      next = λ told. (fails.after, subst (λ (n : ℕ). IsNextLine n (ahead old now.source.left) fails.line.line fails.after) (room_is told) (fails.line.next told));
      fits = fails.line.fits;
      left = at';
      text = fails.text;
      fails = fails.line.taken;
    }

    -- the course before a line in which the taker failed
    course_failed : (Writes : List ℕ → Type 0) → FailsOn does reads at at' old now later Writes → LinesCourse does reads first before.source.left later.source.left
    course_failed Writes fails = course_here (ahead old now.source.left) later.source.left going.reached (taken_there (ahead old now.source.left) later.source.left fails.few)

    pub going_ends : (end : LinesEnd) → LinesEndWith does reads writes at at' old now later end → later.sink.flushes ≡ before.sink.flushes
        → LinesEnds does reads writes first at' end before later
    unfolding course_here course_more course_failed fails_next
    going_ends Finished (same, (over, some, none, silent)) flushes =
        let short : reads → length before.source.left < INPUT_LIMIT
        = λ told.
        (let passed = going.passed told in
        let nothing_ahead : length (ahead old now.source.left) ≡ 0 = ap length (over told) in
        let room_left = some told in
        omega arith) in
        record {
          course = course_here [] later.source.left (λ told. subst (λ (rest : List ℕ). ComeFirst INPUT_LIMIT before.source.left going.given rest) (over told) (going.reached told))
              (λ told. taken_all (length before.source.left) later.source.left (none told) (short told));
          ends = (
            λ told. (
              lines_come INPUT_LIMIT before.source.left going.given (ahead old now.source.left) (going.reached told)
                  ∙ ap (λ rest. going.given ++ lines rest) (over told) ∙ append-nil going.given,
              refl,
              short told,
            ),
            so_far silent,
          );
          rests = same;
        }
    going_ends BadLine (same, (bad, refuses, taken)) flushes = record {
      course = course_here (ahead old now.source.left) later.source.left going.reached (taken_there (ahead old now.source.left) later.source.left taken);
      ends = (
        bad_there bad,
        λ told.
            all_written before.sink.written (concat going.texts) (bad_line (length going.given + 1)) now.sink.written later.sink.written (going.written told)
            (refuses told ∙ ap (λ n. now.sink.written ++ bad_line (n + 1)) going.number)
            ∙ ap (λ t. before.sink.written ++ t) (sym (concat_more going.texts (bad_line (length going.given + 1)))),
      );
      rests = same;
    }
    going_ends ReadFault (same, holds, silent, taken) flushes = record {
      course = course_here (ahead old now.source.left) later.source.left going.reached (taken_there (ahead old now.source.left) later.source.left taken);
      ends = (holds, so_far silent);
      rests = same;
    }
    going_ends InputTooLong (same, cut, silent, taken) flushes = record {
      course = course_here (ahead old now.source.left) later.source.left going.reached (taken_there (ahead old now.source.left) later.source.left taken);
      ends = (λ told. subst (λ (n : ℕ). IsShortCut n (ahead old now.source.left)) (room_is told) (cut told), so_far silent);
      rests = same;
    }
    going_ends WriteFault (inl next) flushes = record {
      course = course_more next.text next.after later.source.left next.line (taken_there next.after later.source.left next.few);
      ends = inl (going.texts, next.text, refl, (flushes, λ told. (let part = next.cut told in (part.0, last_cut part.0 next.text told part.1))));
      rests = refl;
    }
    going_ends WriteFault (inr (inl (same, (bad, refuses, taken)))) flushes = record {
      course = course_here (ahead old now.source.left) later.source.left going.reached (taken_there (ahead old now.source.left) later.source.left taken);
      ends = inr (inl (
        bad_there bad,
        (
          flushes,
          λ told.
              (let part = refuses told in
              (part.0, last_cut part.0 (bad_line (length going.given + 1)) told (part.1 ∙ ap (λ n. now.sink.written ++ take part.0 (bad_line (n + 1))) going.number))),
        ),
      ));
      rests = same;
    }
    going_ends WriteFault (inr (inr fails)) flushes = record {
      course = course_failed _ fails;
      ends = inr (inr (
        fails_next _ fails,
        (flushes, λ told. (let part = fails.written told in (part.0, last_cut part.0 fails.text told part.1))),
      ));
      rests = refl;
    }
    going_ends Failed fails flushes = record {
      course = course_failed _ fails;
      ends = (
        fails_next _ fails,
        λ told.
            all_written before.sink.written (concat going.texts) fails.text now.sink.written later.sink.written (going.written told) (fails.written told)
            ∙ ap (λ t. before.sink.written ++ t) (sym (concat_more going.texts fails.text)),
      );
      rests = refl;
    }
