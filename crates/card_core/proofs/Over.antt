-- The states that a card on a device stands for.
use Rattle.card_core.specs.Prelude.{AreCards, AreSpare, CardOver, CardRepresents, HasPages, KeepsRegistry, LeavesOnly, Registry, Reopens, Represents, RepresentsSome, State, first_live, kept_of, load_page, no_sessions, pages_after, powered_on, store_page, stored_page}
use Rattle.load_session.specs.declared.load_write.LoadWrite.{LoadWrite}
use Rattle.std.proofs.Common.{◌≡◌, ◌⊎◌, ℕ, List, replicate, true, refl, ap, sym, subst, ◌∙◌}
use Rattle.card_types.specs.declared.tables.Tables.{Tables}
use Rattle.flash_core.specs.declared.flash.Flash.{Ghosts as Flash}
use Rattle.policy_machine.proofs.KeepsSound.{starts_sound}
use Rattle.rec_store.proofs.OneRegistry.{said_once}
use Rattle.rec_store.proofs.Reopening.{has_pages, spare_same}
use Rattle.card_core.proofs.Cards.{in_order}
use Rattle.card_core.proofs.PoweredOn.{powered_on_shows}
use Rattle.std.proofs.lemmas.List.{length-replicate}
use Rattle.card_core.specs.declared.channels.Channels.{Channels}

module _ {F : Type 0} (device : Flash F) (channels : Channels) (first : channels.live ≡ first_live) (nothing : channels.sessions ≡ no_sessions) where
  -- a card that was just powered on, over the tables that were read
  pub mounted_stands : (old new : F) (tables : Tables) → AreCards tables
      → (device.tells → (registry : Registry) × Reopens (device.pages old) registry × Represents (load_page (device.pages new)) tables registry × KeepsRegistry device new registry)
      → (registry : Registry) × (device.tells → Reopens (device.pages old) registry)
      × CardRepresents device (record { flash = new; tables = tables; channels = channels; live = true }) (powered_on registry)
  mounted_stands old new tables cards read =
      let page : ℕ → List ℕ = load_page (device.pages new) in
      let is = cards page (has_pages (stored_page (device.pages new))) in
      let same = λ (told : device.tells). said_once page tables (read told).0 is.said (read told).2 is.of.says in (
        is.said,
        (λ told. subst (Reopens (device.pages old)) (same told) (read told).1),
        record {
          live = refl;
          page = page;
          whole = has_pages (stored_page (device.pages new));
          shows = powered_on_shows page tables channels is.said is.of.layout is.of.says first nothing;
          sound = starts_sound is.said is.of.well is.of.says.ascending;
          load = λ told. refl;
          keeps = λ told. subst (KeepsRegistry device new) (same told) (read told).3;
        },
      )

  -- it shows some state
  pub powered_some : (tables : Tables) → AreCards tables → RepresentsSome (kept_of tables channels)
  powered_some tables cards =
      let page : ℕ → List ℕ = λ n. replicate 256 0 in
      let whole : HasPages page = λ n. length-replicate {A = ℕ} 256 0 in
      let is = cards page whole in
      record {
        page = page;
        whole = whole;
        state = powered_on is.said;
        shows = powered_on_shows page tables channels is.said is.of.layout is.of.says first nothing;
        sound = starts_sound is.said is.of.well is.of.says.ascending;
      }

  -- a card that was reset shows the state after power on
  pub reset_stands : (card : CardOver F) (state : State) → AreCards card.tables → CardRepresents device card state
      → CardRepresents device (record { flash = card.flash; tables = card.tables; channels = channels; live = card.live }) (powered_on state.registry)
  reset_stands card state cards stands = record {
    live = stands.live;
    page = stands.page;
    whole = stands.whole;
    shows = powered_on_shows stands.page card.tables channels state.registry (in_order card.tables cards).layout stands.shows.says.registry first nothing;
    sound = starts_sound state.registry stands.sound.well stands.shows.says.registry.ascending;
    load = stands.load;
    keeps = stands.keeps;
  }

-- over a device that tells its pages a card has one registry
pub registry_told : {F : Type 0} (device : Flash F) (card : CardOver F) (state other : State)
    → CardRepresents device card state → CardRepresents device card other → device.tells → state.registry ≡ other.registry
registry_told device card state other stands also told =
    said_once (load_page (device.pages card.flash)) card.tables state.registry other.registry
    (subst (λ page. Represents page card.tables state.registry) (sym (stands.load told)) stands.shows.says.registry)
    (subst (λ page. Represents page card.tables other.registry) (sym (also.load told)) also.shows.says.registry)

-- between two calls on the records of a card
module _ {F : Type 0} (device : Flash F) (card : CardOver F) (state : State)
    (stands : CardRepresents device card state) (served : F) (same : served ≡ card.flash) where
  pub served_keeps : device.tells → KeepsRegistry device served state.registry
  served_keeps told = subst (λ flash. KeepsRegistry device flash state.registry) (sym same) (stands.keeps told)

  pub served_load : device.tells → load_page (device.pages served) ≡ stands.page
  served_load told = ap (λ flash. load_page (device.pages flash)) same ∙ stands.load told

  pub served_says : (writes : List LoadWrite) (tables : Tables) (said : Registry) → Represents (pages_after stands.page writes) tables said → device.tells
      → Represents (pages_after (load_page (device.pages served)) writes) tables said
  served_says writes tables said says told = subst (λ page. Represents (pages_after page writes) tables said) (sym (served_load told)) says

  -- what power lost while the changes are committed leaves
  pub committed : (new : F) (writes : List LoadWrite) (tables : Tables) (next : Registry) → Represents (pages_after stands.page writes) tables next
      → (device.tells → (before after : Registry) → KeepsRegistry device served before → Represents (pages_after (load_page (device.pages served)) writes) tables after
      → LeavesOnly device served new (λ outcome. Reopens outcome before ⊎ Reopens outcome after))
      → device.tells → LeavesOnly device card.flash new (λ outcome. Reopens outcome state.registry ⊎ Reopens outcome next)
  committed new writes tables next says moments told =
      subst (λ flash. LeavesOnly device flash new (λ outcome. Reopens outcome state.registry ⊎ Reopens outcome next)) same
      (moments told state.registry next (served_keeps told) (served_says writes tables next says told))

  -- what power lost while load pages are read leaves
  pub reading : (new : F)
      → (device.tells → (registry : Registry) → KeepsRegistry device served registry → LeavesOnly device served new (λ outcome. Reopens outcome registry))
      → device.tells → LeavesOnly device card.flash new (λ outcome. Reopens outcome state.registry)
  reading new moments told =
      subst (λ flash. LeavesOnly device flash new (λ outcome. Reopens outcome state.registry)) same (moments told state.registry (served_keeps told))

-- where the pages are the same, what was spare on the device still is
pub spare_over : {F : Type 0} (device : Flash F) (old new : F) (tables : Tables) → device.pages new ≡ device.pages old → AreSpare device old tables → AreSpare device new tables
spare_over device old new tables same spare page free = spare_same device old new (λ n lt. ap (λ pages. store_page pages n) same) page (spare page free)
