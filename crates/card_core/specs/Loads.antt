-- For the code inside. What comes of a command that begins a load session, or goes on with one.
use Rattle.std.specs.Prelude.{◌≡◌, ℕ, List, [], Option, Result, Ok, Err, None, Some}
use Rattle.apdu_core.specs.declared.reply.Status.{Status}
use Rattle.card_check.specs.IsCard.{HasPages}
use Rattle.card_types.specs.declared.tables.Tables.{Tables}
use Rattle.load_session.specs.declared.session.LoadSession.{LoadSession}
use Rattle.policy_machine.specs.Admission.{Admitted}
use Rattle.policy_machine.specs.Commands.{HasEffect, Judges}
use Rattle.load_session.specs.declared.block.BlockStop.{BlockStop}
use Rattle.load_session.specs.declared.block.BlockStop.TheVariants.{FirstBlock, NoRoom, Count, Hash}
use Rattle.policy_machine.specs.Refusal.{IsFirst}
use Rattle.policy_machine.specs.Load.{LoadFails, front_rules}
use Rattle.policy_machine.specs.LoadBlocks.{Block}
use Rattle.policy_machine.specs.declared.load.RuleLO.{RuleLO}
use Rattle.policy_machine.specs.declared.load.RuleLO.TheVariants.{LO3, LO4, LO5, LO6}
use Rattle.policy_machine.specs.Sound.{IsSound}
use Rattle.policy_machine.specs.State.{Effect}
use Rattle.policy_machine.specs.declared.rule.Rule.{Rule}
use Rattle.content_rules.specs.LoadFound.{IsForLoad}
use Rattle.content_rules.specs.LoadRequests.{IsLoadOf}
use Rattle.content_rules.specs.declared.load.LoadRequest.{LoadRequest}
use Rattle.policy_rules.specs.Requests.{IsRequestOf}
use Rattle.policy_rules.specs.declared.request.Request.TheVariants.{Load}
use Rattle.policy_slots.specs.StateShown.{ActsIn, RepresentsState}
use Rattle.policy_slots.specs.declared.live.Live.{Live}
use Rattle.policy_slots.specs.declared.live.LoadName.{LoadName}
use Rattle.card_core.specs.Kept.{ForKept, Kept}
use Rattle.card_core.specs.Loading.{RepresentsLoading}

-- no rule refused the command, it did what it does, and what is kept shows the state that it leaves
pub record IsLoaded (admitted : Admitted) (page : ℕ → List ℕ) (tables : Tables) (live : Live) (loading : Option LoadSession) (body : List ℕ) (status : Status) : Type 0 where
  pub judges : Judges admitted None
  pub done : Effect
  pub does : HasEffect admitted done
  pub channels : done.state.volatile.channels ≡ admitted.at.volatile.channels
  pub says : RepresentsState page tables live done.state
  pub kept : RepresentsLoading page tables loading done.state.volatile.load
  pub body_is : body ≡ done.body
  pub status_is : status.0 ≡ done.status

-- it was done, or a rule of its own refused it
abbrev pub LoadsAs : Admitted → (ℕ → List ℕ) → Tables → Live → Option LoadSession → List ℕ → Result Status Rule → Type 0
LoadsAs admitted page tables live loading body (Ok status) = IsLoaded admitted page tables live loading body status
LoadsAs admitted page tables live loading body (Err rule) = Judges admitted (Some rule) × (body ≡ [])

-- `So` holds of each command on the channel that is the LOAD of this request, where the domain in the slot acts.
abbrev pub ForLoad : Kept → ℕ → ℕ → LoadRequest → ((ℕ → List ℕ) → Admitted → Type 0) → Type 0
ForLoad card channel domain request So = ForKept card (λ page admitted. ActsIn page card.tables domain admitted → channel ≡ admitted.channel
    → IsRequestOf (Load request) admitted.command → So page admitted)

-- the rule by which a block is refused that is not taken
abbrev pub block_rule : BlockStop → RuleLO
block_rule FirstBlock = LO3
block_rule NoRoom = LO4
block_rule Count = LO5
block_rule Hash = LO6

-- the block that a request brings
abbrev pub block_in : LoadRequest → Block
block_in request = record { last = request.last; field = request.block.now }

-- The command brings a block to the load session that is named so and of which this is kept, and its number is the next one.
pub record IsForBlock (page : ℕ → List ℕ) (tables : Tables) (kept : LoadSession) (name : LoadName) (domain : ℕ) (request : LoadRequest) (admitted : Admitted) : Type 0 where
  pub whole : HasPages page
  pub acts : ActsIn page tables domain admitted
  pub sound : IsSound admitted.at
  pub is : IsLoadOf request admitted.command
  pub load : IsForLoad tables (Some name) name.channel admitted
  pub stands : RepresentsLoading page tables (Some kept) admitted.at.volatile.load
  pub front : IsFirst (LoadFails admitted) front_rules None

-- `So` holds of each command that brings such a block.
abbrev pub ForBlock : Tables → LoadSession → LoadName → ℕ → LoadRequest → (Admitted → Type 0) → Type 0
ForBlock tables kept name domain request So = (page : ℕ → List ℕ) (admitted : Admitted) → IsForBlock page tables kept name domain request admitted → So admitted
