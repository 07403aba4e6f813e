-- For the code inside. What comes of a command of card content management: the registry changes, and nothing of what the channels
-- hold.
use Rattle.std.specs.Prelude.{◌≡◌, ℕ, ◌<◌, ◌==◌, List, [], Option, Result, Ok, Err, None, Some, IfSome, true}
use Rattle.std.specs.List.{list_any}
use Rattle.apdu_core.specs.declared.reply.Status.{Status}
use Rattle.card_types.specs.Represents.{Represents, thing_in}
use Rattle.card_types.specs.declared.tables.Entry.{Entry}
use Rattle.card_types.specs.declared.tables.Tables.{Tables}
use Rattle.policy_machine.specs.Admission.{Admitted}
use Rattle.policy_machine.specs.Classes.{changing}
use Rattle.policy_machine.specs.Commands.{HasEffect, Judges}
use Rattle.policy_machine.specs.State.{Effect}
use Rattle.policy_machine.specs.declared.channels.TheConstants.{CHANNELS}
use Rattle.policy_machine.specs.declared.rule.Rule.{Rule}
use Rattle.policy_rules.specs.Requests.{form_in}
use Rattle.policy_rules.specs.declared.request.Request.{Request}
use Rattle.policy_slots.specs.declared.live.Live.{Live}
use Rattle.rec_store.specs.Reopens.{IsFree}

-- the slot holds an entry with the AID that it had
abbrev pub KeepsAid : List (Option Entry) → List (Option Entry) → ℕ → Type 0
KeepsAid before after slot = (entry : Entry) → thing_in before slot ≡ Some entry → (other : Entry) × (thing_in after slot ≡ Some other) × (other.aid ≡ entry.aid)

-- Each slot that is used holds an entry with the AID that it had.
abbrev pub KeepsAids : List (Option Entry) → List (Option Entry) → Type 0
KeepsAids before after = (slot : ℕ) → KeepsAid before after slot

-- The slots selected on the channels and that of the load session's domain hold entries with the AIDs that they had.
pub record KeepsSelected (live : Live) (before after : List (Option Entry)) : Type 0 where
  pub selected : (number slot : ℕ) → number < CHANNELS → thing_in live.selected number ≡ Some slot → KeepsAid before after slot
  pub load : IfSome live.load (λ name. KeepsAid before after name.domain)

-- no Executable Load File takes a load page that was free
abbrev pub KeepsFree : Tables → Tables → Type 0
KeepsFree before after = (page : ℕ) → IsFree before page → IsFree after page

-- no rule refused the command, it did what it does, and the tables say the registry that it leaves
pub record IsManaged (admitted : Admitted) (page : ℕ → List ℕ) (tables : Tables) (body : List ℕ) (status : Status) : Type 0 where
  pub judges : Judges admitted None
  pub done : Effect
  pub does : HasEffect admitted done
  pub volatile : done.state.volatile ≡ admitted.at.volatile
  pub says : Represents page tables done.state.registry
  pub body_is : body ≡ done.body
  pub status_is : status.0 ≡ done.status

-- it was done, or a rule of its own refused it, and nothing changed
abbrev pub Manages : Admitted → (ℕ → List ℕ) → Tables → Tables → List ℕ → Result Status Rule → Type 0
Manages admitted page tables tables' body (Ok status) = IsManaged admitted page tables' body status
Manages admitted page tables tables' body (Err rule) = Judges admitted (Some rule) × (tables' ≡ tables) × (body ≡ [])

-- its instruction is one that changes the registry
abbrev pub IsChanging : Request → Type 0
IsChanging request = list_any (λ byte. (form_in request).instruction == byte) changing ≡ true
