-- For the code inside. What comes of GET STATUS: the registry stays, and the channel gets a place in the listing where things are
-- left.
use Rattle.std.specs.Prelude.{◌≡◌, ◌⊎◌, ℕ, List, [], Result, Ok, Err, None, Some}
use Rattle.apdu_core.specs.declared.reply.Status.{Status}
use Rattle.card_types.specs.declared.tables.Tables.{Tables}
use Rattle.policy_machine.specs.Admission.{Admitted}
use Rattle.policy_machine.specs.Commands.{HasEffect, Judges}
use Rattle.policy_machine.specs.GetStatus.{with_place}
use Rattle.policy_machine.specs.State.{Effect, Place, Volatile}
use Rattle.policy_machine.specs.declared.rule.Rule.{Rule}
use Rattle.policy_slots.specs.StateShown.{RepresentsState}
use Rattle.policy_slots.specs.declared.live.Live.{Live}

-- the volatile state is the same, or has a place on the channel
abbrev pub IsSameButPlace : Volatile → ℕ → Volatile → Type 0
IsSameButPlace before number after = (after ≡ before) ⊎ ((place : Place) × (after ≡ with_place before number place))

-- no rule refused the command, it did what it does, and what is kept shows the state that it leaves
pub record IsShown (admitted : Admitted) (page : ℕ → List ℕ) (tables : Tables) (live : Live) (body : List ℕ) (status : Status) : Type 0 where
  pub judges : Judges admitted None
  pub done : Effect
  pub does : HasEffect admitted done
  pub registry : done.state.registry ≡ admitted.at.registry
  pub volatile : IsSameButPlace admitted.at.volatile admitted.channel done.state.volatile
  pub says : RepresentsState page tables live done.state
  pub body_is : body ≡ done.body
  pub status_is : status.0 ≡ done.status

-- it was done, or a rule of its own refused it, and nothing changed
abbrev pub Lists : Admitted → (ℕ → List ℕ) → Tables → Live → Live → List ℕ → Result Status Rule → Type 0
Lists admitted page tables live live' body (Ok status) = IsShown admitted page tables live' body status
Lists admitted page tables live live' body (Err rule) = Judges admitted (Some rule) × (live' ≡ live) × (body ≡ [])
