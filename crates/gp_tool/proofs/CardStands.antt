-- What a card that stands for a state says, and what power lost leaves of it.
use Rattle.std.proofs.Common.{◌≡◌, ℕ, List, sym, subst}
use Rattle.card_core.specs.Card.{CardOver, CardRepresents}
use Rattle.card_types.specs.Represents.{Represents}
use Rattle.card_types.specs.declared.tables.Tables.{Tables}
use Rattle.flash_core.specs.declared.flash.Flash.{Ghosts as Flash}
use Rattle.flash_core.specs.declared.page.Page.{Page}
use Rattle.page_journal.specs.Moments.{LeavesOnly}
use Rattle.policy_machine.specs.State.{State}
use Rattle.rec_store.proofs.Leaving.{unmoved}
use Rattle.rec_store.specs.Reopens.{Reopens, load_page}

module _ {F : Type 0} (device : Flash F) (card : CardOver F) (state : State)
    (stands : CardRepresents device card state) where
  -- its tables say the registry, over its own load pages
  pub says_told : device.tells → Represents (load_page (device.pages card.flash)) card.tables state.registry
  says_told told =
      subst (λ (page : ℕ → List ℕ). Represents page card.tables state.registry) (sym (stands.load told)) stands.shows.says.registry

  -- tables that are the same say the registry, over the pages that the card shows
  pub says_seen : (seen : Tables) → seen ≡ card.tables → Represents stands.page seen state.registry
  says_seen seen same = subst (λ (tables : Tables). Represents stands.page tables state.registry) (sym same) stands.shows.says.registry

  -- where no call was made, power lost leaves the registry
  pub still_leaves : ((flash : F) (outcome : List Page) → device.tells → device.left_since flash (device.moment flash) outcome → device.may_leave flash outcome) → device.tells
      → LeavesOnly device card.flash card.flash (λ outcome. Reopens outcome state.registry)
  still_leaves only told =
      unmoved device (device.may_leave card.flash) card.flash (λ outcome. Reopens outcome state.registry) (λ c. only card.flash c told) (stands.keeps told).reopens
