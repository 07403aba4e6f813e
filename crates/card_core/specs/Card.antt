-- What contracts see of a card on a device, and the states of the policy machine that it stands for. `device` is what they see of
-- the device.
use Rattle.std.specs.Prelude.{◌≡◌, ℕ, Bool, true, List, Option}
use Rattle.card_check.specs.IsCard.{HasPages}
use Rattle.card_types.specs.Registry.{Registry}
use Rattle.card_types.specs.declared.tables.Tables.{Tables}
use Rattle.flash_core.specs.declared.flash.Flash.{Ghosts as Flash}
use Rattle.page_journal.specs.Moments.{LeavesOnly}
use Rattle.policy_machine.specs.Sound.{IsSound}
use Rattle.policy_machine.specs.State.{State}
use Rattle.policy_machine.specs.Step.{Outcome}
use Rattle.policy_machine.specs.declared.rule.Rule.{Rule}
use Rattle.rec_store.specs.Reopens.{KeepsRegistry, ReopensEither, load_page}
use Rattle.card_core.specs.Kept.{Kept, KeptRepresents, kept_of}
use Rattle.card_core.specs.declared.channels.Channels.{Channels}

-- the device, the tables, what is kept of the channels, and whether no call on the device has failed
pub record CardOver (F : Type 0) : Type 0 where
  pub flash : F
  pub tables : Tables
  pub channels : Channels
  pub live : Bool

abbrev pub kept_by : {F : Type 0} → CardOver F → Kept
kept_by card = kept_of card.tables card.channels

-- The card stands for this state: it goes on, what it keeps shows the state, and power lost leaves its registry. Where the
-- device tells its pages, the load pages are its own.
pub record CardRepresents {F : Type 0} (device : Flash F) (card : CardOver F) (state : State) : Type 0 where
  pub live : card.live ≡ true
  pub page : ℕ → List ℕ
  pub whole : HasPages page
  pub shows : KeptRepresents page (kept_by card) state
  pub sound : IsSound state
  pub load : device.tells → load_page (device.pages card.flash) ≡ page
  pub keeps : device.tells → KeepsRegistry device card.flash state.registry

-- power lost at any moment between the two leaves one registry or the other
abbrev pub LeavesEither : {F : Type 0} → Flash F → F → F → Registry → Registry → Type 0
LeavesEither device old new before after =
    device.tells → LeavesOnly device old new (ReopensEither before after)

-- the card stands for the state after the outcome, whose reply and rule were answered
abbrev pub Answers : {F : Type 0} → Flash F → CardOver F → Outcome → List ℕ → Option Rule → Type 0
Answers device card outcome reply rule = CardRepresents device card outcome.state × (reply ≡ outcome.reply) × (rule ≡ outcome.rule)
