-- Where each line is good, the input is short and nothing fails, all is done.
use Rattle.std.proofs.Common.{◌≡◌, ℕ, ◌+◌, ◌<◌, ◌≤◌, true, false, ◌||◌, List, [], ◌∷◌, ◌++◌, length, refl, sym, ap, subst, ◌∙◌, inl, inr, arith, length-append}
use Rattle.std.specs.Str.Lines.{lines}
use Rattle.faults.specs.Faults.{Rose}
use Rattle.io_edge.proofs.Cuts.{lines_ahead}
use Rattle.io_edge.specs.Lines.{IsNextLine, IsCut}
use Rattle.io_edge.specs.declared.line.TheConstants.{INPUT_LIMIT, LINE_LIMIT}
use Rattle.policy_machine.specs.State.{State}
use Rattle.policy_machine.specs.Step.{Outcome}
use Rattle.line_runs.proofs.ComeFirst.{lines_come, shrinks}
use Rattle.line_runs.specs.Exit.{exit_status}
use Rattle.gp_tool.specs.Around.{Around}
use Rattle.gp_tool.specs.Effects.{LineEffect, LinePlace}
use Rattle.gp_tool.specs.Ends.{Ends, EndCause, IsBad}
use Rattle.line_runs.specs.Outside.{Outside}
use Rattle.line_runs.specs.Taken.{room_ahead}
use Rattle.gp_tool.specs.Going.{Reached}
use Rattle.gp_tool.specs.RunsLines.{AreServable, HasForm, Memory, RunsLines, start}
use Rattle.gp_tool.specs.Verbs.{IsDoneStatus}
use Rattle.line_runs.specs.declared.exit.Ending.{Ending}
use Rattle.line_runs.specs.declared.exit.Ending.TheVariants.{Finished, Differs, BadLine, Failed, ReadFault, WriteFault, InputTooLong}
use Rattle.gp_tool.specs.declared.verb.Verb.{Verb}
use Rattle.gp_tool.specs.declared.verb.Verb.TheVariants as verb

-- a line that comes after others is good
good_after : (v : Verb) (number : ℕ) (given : List (List ℕ)) (line : List ℕ) (more : List (List ℕ)) (at last : LinePlace (Memory v)) (effect : LineEffect)
    → RunsLines v number given at effect last → AreServable v number (given ++ line ∷ more) at → HasForm v line last.memory × (length line ≤ LINE_LIMIT)
good_after v number [] line more at last effect runs good =
    subst (λ (place : LinePlace (Memory v)). HasForm v line place.memory × (length line ≤ LINE_LIMIT)) (sym runs.1) (good.0, good.1)
good_after v number (first ∷ given) line more at last effect runs good =
    good_after v (number + 1) given line more runs.1 last runs.2 runs.4 (good.2 runs.0 runs.1 runs.3)

-- the limit does not come within a short input
pub never_cut : (input : List ℕ) (given : List (List ℕ)) (ahead cut : List ℕ)
    → Reached input given ahead → length input < INPUT_LIMIT → IsCut (room_ahead input ahead) ahead cut → ⊥
never_cut input given ahead cut reached short is_cut =
    let less = shrinks INPUT_LIMIT input given ahead reached in
    let part = ap length is_cut.is ∙ length-append is_cut.piece is_cut.rest in
    let full = is_cut.full in
    omega arith

module _ (v : Verb) (input : List ℕ) (at last : LinePlace (Memory v)) (given : List (List ℕ)) (effect : LineEffect) (ahead : List ℕ)
    (runs : RunsLines v 1 given at effect last) (reached : Reached input given ahead) (good : AreServable v 1 (lines input) at) (short : length input < INPUT_LIMIT) where
  -- a line that comes next is good
  good_next : (room : ℕ) (line after : List ℕ) → IsNextLine room ahead line after → HasForm v line last.memory × (length line ≤ LINE_LIMIT)
  good_next room line after next =
      let all : lines input ≡ given ++ line ∷ lines after
      = lines_come INPUT_LIMIT input given ahead reached ∙ ap (λ rest. given ++ rest) (lines_ahead room ahead line after next) in
      good_after v 1 given line (lines after) at last effect runs (subst (λ (ls : List (List ℕ)). AreServable v 1 ls at) all good)

  never_bad : IsBad v last.memory (room_ahead input ahead) ahead → ⊥
  never_bad (line, inl none) = (let next = good_next (room_ahead input ahead) line none.0 none.1 in none.2 next.0)
  never_bad (line, inr long) =
      elim long.0 [
        | inl next ↦
            (let fits = good_next (room_ahead input ahead) line next.0 next.1 in
            let few = fits.1 in
            let many = long.1 in
            omega (arith, few, many))
        | inr cut ↦ never_cut input given ahead line reached short cut
      ]

-- no reply of `run` and `why` is compared
run_never_differs : (number : ℕ) (lines : List (List ℕ)) (at last : LinePlace (Unit {0})) (effect : LineEffect) → RunsLines verb.Run number lines at effect last → effect.differs ≡ false
run_never_differs number [] at last effect none = ap (λ (e : LineEffect). e.differs) none.0
run_never_differs number (line ∷ lines) at last effect some =
    let first = some.3 in
    ap (λ (e : LineEffect). e.differs) some.5 ∙ (λ i. first.4 i || run_never_differs (number + 1) lines some.1 last some.2 some.4 i)

why_never_differs : (number : ℕ) (lines : List (List ℕ)) (at last : LinePlace (Unit {0})) (effect : LineEffect) → RunsLines verb.Why number lines at effect last → effect.differs ≡ false
why_never_differs number [] at last effect none = ap (λ (e : LineEffect). e.differs) none.0
why_never_differs number (line ∷ lines) at last effect some =
    let first = some.3 in
    ap (λ (e : LineEffect). e.differs) some.5 ∙ (λ i. first.4 i || why_never_differs (number + 1) lines some.1 last some.2 some.4 i)

done_finished : (v : Verb) → IsDoneStatus v 0
done_finished verb.Run = refl
done_finished verb.Why = refl
done_finished verb.Replay = inl refl
done_finished verb.Play = inl refl

done_differs : (v : Verb) (lines : List (List ℕ)) (at last : LinePlace (Memory v)) (effect : LineEffect) → RunsLines v 1 lines at effect last → effect.differs ≡ true → IsDoneStatus v 8
done_differs verb.Run lines at last effect runs differs = (let never = run_never_differs 1 lines at last effect runs in cc (never, differs))
done_differs verb.Why lines at last effect runs differs = (let never = why_never_differs 1 lines at last effect runs in cc (never, differs))
done_differs verb.Replay lines at last effect runs differs = inr refl
done_differs verb.Play lines at last effect runs differs = inr refl

module _ (v : Verb) (reads writes : Type 0) (Rests : List Outcome → State → Type 0) (Fails : List Outcome → State → Outcome → Type 0) (first : State) (before later : Outside) (old new : Around ℕ ℕ ℕ) where
  pub is_done : (ending : Ending) → EndCause ending old new → Ends v reads writes Rests Fails first ending before later → reads
      → AreServable v 1 (lines before.source.left) (start v first) → length before.source.left < INPUT_LIMIT
      → (Rose old.source new.source → ⊥) → (Rose old.sink new.sink → ⊥) → (Rose old.flash new.flash → ⊥) → IsDoneStatus v (exit_status ending)
  is_done Finished cause ends told good short no_read no_write no_flash = done_finished v
  is_done Differs cause ends told good short no_read no_write no_flash =
      let course = ends.course in
      let at = ends.ends in
      done_differs v course.given (start v first) course.last course.effect course.plays at.0
  is_done BadLine cause ends told good short no_read no_write no_flash =
      let course = ends.course in
      let at = ends.ends in
      absurd (never_bad v before.source.left (start v first) course.last course.given course.effect course.ahead course.plays (course.reached told) good short (at.0 told))
  is_done Failed cause ends told good short no_read no_write no_flash = absurd (no_flash cause.2)
  is_done ReadFault cause ends told good short no_read no_write no_flash = absurd (no_read cause)
  is_done WriteFault cause ends told good short no_read no_write no_flash = absurd (no_write cause.1)
  is_done InputTooLong cause ends told good short no_read no_write no_flash =
      let course = ends.course in
      let at = ends.ends in
      let cut = at.0 told in
      absurd (never_cut before.source.left course.given course.ahead cut.0 (course.reached told) short cut.1)
