-- What is said of the device at a run's ending may be replaced.
use Rattle.std.proofs.Common.{List, ◌++◌}
use Rattle.policy_machine.specs.State.{State}
use Rattle.policy_machine.specs.Step.{Outcome}
use Rattle.gp_tool.specs.Ends.{Course, Ends, EndsAt}
use Rattle.line_runs.specs.Outside.{Outside}
use Rattle.line_runs.specs.declared.exit.Ending.{Ending}
use Rattle.line_runs.specs.declared.exit.Ending.TheVariants.{Finished, Differs, BadLine, Failed, ReadFault, WriteFault, InputTooLong}
use Rattle.gp_tool.specs.declared.verb.Verb.{Verb}

module _ (verb : Verb) (reads writes : Type 0) (Rests Rests' : List Outcome → State → Type 0) (Fails Fails' : List Outcome → State → Outcome → Type 0)
    (rests : (outcomes : List Outcome) (last : State) → Rests outcomes last → Rests' outcomes last)
    (fails : (outcomes : List Outcome) (last : State) (next : Outcome) → Fails outcomes last next → Fails' outcomes last next)
    (first : State) (old new : Outside) where
  at_else : (course : Course verb reads first old.source.left new.source.left) (ending : Ending)
      → EndsAt verb reads writes Fails first old new course ending → EndsAt verb reads writes Fails' first old new course ending
  at_else course Finished at = at
  at_else course Differs at = at
  at_else course BadLine at = at
  at_else course ReadFault at = at
  at_else course InputTooLong at = at
  at_else course WriteFault at = at
  at_else course Failed at =
      let next = at.0 in
      ((next.0, next.1, next.2, next.3, next.4, next.5, next.6, fails (course.effect.outcomes ++ next.3) next.4 next.5 next.7), at.1)

  pub said_else : (ending : Ending) → Ends verb reads writes Rests Fails first ending old new → Ends verb reads writes Rests' Fails' first ending old new
  said_else ending ends = record {
    course = ends.course;
    ends = at_else ends.course ending ends.ends;
    rests = λ other. rests ends.course.effect.outcomes ends.course.last.state (ends.rests other);
  }
