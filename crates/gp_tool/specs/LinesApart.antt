-- Providers apart, over the lines that a run gives to a card.
use Rattle.std.specs.Prelude.{ℕ, List}
use Rattle.card_types.specs.Well.{IsDomainNamed}
use Rattle.policy_machine.specs.Receipts.{AllCountReceipts}
use Rattle.policy_machine.specs.Run.{Input, Run}
use Rattle.policy_machine.specs.RunsApart.{AllNewIsBrought, EachSpares, StaysThrough}
use Rattle.policy_machine.specs.Sound.{IsSound}
use Rattle.policy_machine.specs.State.{State}
use Rattle.policy_machine.specs.Step.{Outcome}
use Rattle.policy_machine.specs.Trees.{TreeStays}
use Rattle.gp_tool.specs.Effects.{LineEffect, LinePlace}
use Rattle.gp_tool.specs.RunsLines.{Memory, RunsLines}
use Rattle.gp_tool.specs.declared.verb.Verb.{Verb}

-- The outcomes are those of a run of the policy machine. The tree of a domain that each of its commands spares stays, and what is new
-- in it was brought by delegated extraditions. Each command counts receipts.
pub record RunsApart (first : State) (outcomes : List Outcome) (last : State) : Type 0 where
  pub inputs : List Input
  pub run : Run first inputs outcomes last
  pub trees : (domain : List ℕ) → IsDomainNamed first.registry domain → EachSpares first inputs outcomes domain
      → StaysThrough first.registry outcomes domain × TreeStays first.registry last.registry domain × AllNewIsBrought first inputs outcomes domain
  pub receipts : AllCountReceipts first inputs outcomes

-- The lines of each verb that gives lines to a card have the outcomes of such a run.
abbrev pub LinesKeepTrees : Type 0
LinesKeepTrees =
    (verb : Verb) (number : ℕ) (lines : List (List ℕ)) (at last : LinePlace (Memory verb)) (effect : LineEffect) → IsSound at.state
    → RunsLines verb number lines at effect last → RunsApart at.state effect.outcomes last.state
