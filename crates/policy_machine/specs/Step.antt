-- One step of the policy machine.
use Rattle.std.specs.Prelude.{◌≡◌, ◌⊎◌, ℕ, List, [], ◌++◌, Bool, true, false, Option, None, Some, if◌then◌else◌}
use Rattle.apdu_core.specs.Reply.{status_bytes}
use Rattle.scp03_card.specs.Protected.{session_reply}
use Rattle.scp03_card.specs.Session.{Session}
use Rattle.policy_machine.specs.Admission.{Admits, Admitted, GeneralRefusalLeaves, GeneralFails, general_rules}
use Rattle.policy_machine.specs.Commands.{HasEffect, Judges}
use Rattle.policy_machine.specs.Refusal.{IsFirst}
use Rattle.policy_machine.specs.Rules.{status_of}
use Rattle.policy_machine.specs.State.{Effect, State, Volatile, with_offer_dropped, without_load}
use Rattle.policy_machine.specs.declared.load.RuleLO.TheVariants.{LO2}
use Rattle.policy_machine.specs.declared.rule.Rule.{Rule}
use Rattle.policy_machine.specs.declared.rule.Rule.TheVariants.{G, LO, PS}
use Rattle.policy_machine.specs.declared.rule.RuleG.{RuleG}
use Rattle.policy_machine.specs.declared.rule.RulePS.TheVariants.{P}

-- what a step gives: the card after it, the reply, and the first rule that failed, if one did
pub record Outcome : Type 0 where
  pub state : State
  pub reply : List ℕ
  pub rule : Option Rule

-- a reply in plain, or protected by a session
abbrev pub reply_bytes : Option Session → List ℕ → ℕ → List ℕ
reply_bytes None body status = body ++ status_bytes status
reply_bytes (Some session) body status = session_reply session body status

-- A refusal leaves the registry, and its reply is the rule's status word alone.
abbrev pub outcome_of_refusal : State → Volatile → Option Session → Rule → Outcome
outcome_of_refusal state left session found = record {
  state = record { registry = state.registry; volatile = left };
  reply = reply_bytes session [] (status_of found);
  rule = Some found;
}

-- a rule that leaves the channel's load session: after it the host may go on with LOAD
abbrev pub keeps_load : Rule → Bool
keeps_load (PS P) = true
keeps_load (LO LO2) = true
keeps_load rule = false

-- what a refusal by a rule of the command's own leaves: no offer, so EXTERNAL AUTHENTICATE loses the one that it answers, and no load
-- session of the channel, unless the rule keeps it
abbrev pub refusal_leaves : Admitted → Rule → Volatile
refusal_leaves admitted rule =
    let left = with_offer_dropped admitted.at.volatile admitted.channel in
    if keeps_load rule then left else without_load left admitted.channel

abbrev pub outcome_of_effect : Admitted → Effect → Outcome
outcome_of_effect admitted done = record { state = done.state; reply = reply_bytes admitted.session done.body done.status; rule = None }

-- a general rule bars the bytes
pub record IsRejected (state : State) (bytes : List ℕ) (outcome : Outcome) : Type 0 where
  pub rule : RuleG
  pub left : Volatile
  pub first : IsFirst (GeneralFails state bytes) general_rules (Some rule)
  pub leaves : GeneralRefusalLeaves state bytes rule left
  pub outcome_is : outcome ≡ outcome_of_refusal state left None (G rule)

-- the bytes are a command that passes, and a rule of its own refuses it
pub record IsRefused (state : State) (bytes : List ℕ) (outcome : Outcome) : Type 0 where
  pub admitted : Admitted
  pub rule : Rule
  pub admits : Admits state bytes admitted
  pub judges : Judges admitted (Some rule)
  pub outcome_is : outcome ≡ outcome_of_refusal state (refusal_leaves admitted rule) admitted.session rule

-- no rule refuses it: it does what it does
pub record IsAccepted (state : State) (bytes : List ℕ) (outcome : Outcome) : Type 0 where
  pub admitted : Admitted
  pub done : Effect
  pub admits : Admits state bytes admitted
  pub judges : Judges admitted None
  pub does : HasEffect admitted done
  pub outcome_is : outcome ≡ outcome_of_effect admitted done

-- The card makes this outcome of these bytes.
abbrev pub Step : State → List ℕ → Outcome → Type 0
Step state bytes outcome = IsRejected state bytes outcome ⊎ IsRefused state bytes outcome ⊎ IsAccepted state bytes outcome
