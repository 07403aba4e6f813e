-- What is so of the load session that a card keeps, by some state that it stands for.
use Rattle.std.proofs.Common.{◌≡◌, ℕ, ◌+◌, ◌≤◌, List, Bool, true, Option, None, Some, sym, ap, subst, ◌∙◌, length, arith}
use Rattle.std.specs.Prelude.{MatchOption, drop, unwrap_or}
use Rattle.card_core.specs.Prelude.{AreFree, AreNewPages, Block, BringsBytes, HasPages, IsBlockTaken, IsDomainNamed, IsLoadNamed, IsWellLoad, LoadSession, NoneFree, NoneHas, RepresentsAfter, RepresentsLoad, RepresentsLoading, RepresentsSome, block_in, entry_named, file_named, is_domain_held, is_domain_in, len_of, load_aid, load_slot, pages_after, pages_in, pages_of, with_block}
use Rattle.card_types.proofs.Domains.{domain_named_is_used}
use Rattle.card_types.proofs.FoundNames.{found_entry_named, found_file_named}
use Rattle.card_types.proofs.Room.{no_file_room}
use Rattle.card_types.specs.declared.found.Found.TheVariants as found
use Rattle.card_types.specs.declared.limits.TheConstants.{FILES, LOAD_PAGES}
use Rattle.card_types.specs.declared.tables.Tables.{Tables}
use Rattle.load_session.specs.declared.block.Taken.{Taken}
use Rattle.load_session.specs.declared.load_write.LoadWrite.{LoadWrite}
use Rattle.load_session.specs.declared.session.LoadSession.{LoadSession as Kept}
use Rattle.policy_machine.proofs.LoadBlocksBrought.{some_announced}
use Rattle.content_rules.specs.declared.load.LoadRequest.{LoadRequest}
use Rattle.policy_slots.specs.declared.live.Live.{Live}
use Rattle.policy_slots.specs.declared.live.LoadName.{LoadName}
use Rattle.card_core.specs.declared.channel_session.ChannelSession.{ChannelSession}

-- a load session is kept, whose file may be added
pub record IsHeld (tables : Tables) (kept : Kept) : Type 0 where
  pub page : ℕ → List ℕ
  pub whole : HasPages page
  pub load : LoadSession
  pub stands : RepresentsLoad page tables kept load
  pub domain : is_domain_in tables.entries.items (load_slot kept) ≡ true
  pub fresh : NoneHas tables (load_aid kept)
  pub free : length tables.files.items ≡ FILES → NoneFree tables.files.items → ⊥
  pub some : (block : Block) (size : ℕ) (bytes : List ℕ) → BringsBytes kept.announced block size bytes → 1 ≤ size

-- its last block has come: as many bytes as were announced, and there is room for them
module _ (tables : Tables) (kept after : Kept) (held : IsHeld tables kept) (request : LoadRequest) (taken : Taken) (brought : IsBlockTaken tables kept (block_in request) taken)
    (writes : List LoadWrite) (last : request.last ≡ true)
    (stands : (page : ℕ → List ℕ) (load : LoadSession) → HasPages page → RepresentsLoad page tables kept load
    → RepresentsAfter request.last (pages_after page writes) tables after (with_block load taken.size (drop taken.start request.block.now))) where
  len_last : len_of after ≡ taken.size
  len_last =
      let next = with_block held.load taken.size (drop taken.start request.block.now) in
      let whole = subst (λ (b : Bool). RepresentsAfter b (pages_after held.page writes) tables after next) last (stands held.page held.load held.whole held.stands) in
      ap (λ (announced : Option ℕ). unwrap_or announced 0) whole.of.announced

  pub some_last : 1 ≤ len_of after
  some_last = subst (λ (n : ℕ). 1 ≤ n) (sym len_last) (held.some (block_in request) taken.size (drop taken.start request.block.now) brought.brings)

  pub few_last : pages_in tables + pages_of (len_of after) ≤ LOAD_PAGES
  few_last = subst (λ (n : ℕ). pages_in tables + pages_of n ≤ LOAD_PAGES) (sym len_last) brought.pages

-- the pages that a block fills are free
pub new_free : (tables : Tables) (taken : List ℕ) (writes : List LoadWrite) → AreNewPages tables taken writes → AreFree tables writes
new_free tables taken writes new = record { range = new.own.range; free = new.own.free; whole = new.whole }

module _ (tables : Tables) (live : Live) (sessions : List ChannelSession) (loading : Option Kept) (holds : RepresentsSome (record { tables = tables; live = live; sessions = sessions; load = loading })) (name : LoadName) (named : live.load ≡ Some name)
    (kept : Kept) (at : loading ≡ Some kept) where
  module _ (load : LoadSession) (well : IsWellLoad holds.state.registry holds.state.volatile load) (stands : RepresentsLoad holds.page tables kept load) where
    domain_held : is_domain_in tables.entries.items (load_slot kept) ≡ true
    domain_held =
        let used = domain_named_is_used holds.page tables holds.state.registry holds.shows.says.registry holds.sound.well (load_slot kept)
        (subst (IsDomainNamed holds.state.registry) (sym stands.of.domain) well.domain) in
        ap is_domain_held used.1 ∙ used.2

    none_has : NoneHas tables (load_aid kept)
    none_has (found.Entry slot) there =
        let has = found_entry_named holds.page tables holds.state.registry holds.shows.says.registry slot (load_aid kept) there in
        let clash = sym has.2 ∙ ap (entry_named holds.state.registry) stands.of.aid ∙ well.no_entry in
        cc
    none_has (found.File slot) there =
        let has = found_file_named holds.page tables holds.state.registry holds.shows.says.registry slot (load_aid kept) there in
        let clash = sym has.2 ∙ ap (file_named holds.state.registry) stands.of.aid ∙ well.no_file in
        cc

    some_free : length tables.files.items ≡ FILES → NoneFree tables.files.items → ⊥
    some_free whole none = (let all = no_file_room holds.page tables holds.state.registry holds.shows.says.registry none in omega (arith, all, whole, well.few_files))

    held_so : IsHeld tables kept
    held_so = record {
      page = holds.page;
      whole = holds.whole;
      load = load;
      stands = stands;
      domain = domain_held;
      fresh = none_has;
      free = some_free;
      some = λ block size bytes brings. some_announced load.announced block load.blocks size bytes well.announced
          (subst (λ (announced : Option ℕ). BringsBytes announced block size bytes) stands.of.announced brings);
    }

  -- it is so of the load session that is named
  pub held_load : IsHeld tables kept
  held_load =
      by holds.state.volatile.load (subst (λ (n : Option LoadName). IsLoadNamed tables.entries.items n holds.state.volatile.load) named holds.shows.says.load)
      holds.sound.fits.load (subst (λ (session : Option Kept). RepresentsLoading holds.page tables session holds.state.volatile.load) at holds.shows.loading)
    where
      by : (load : Option LoadSession) → IsLoadNamed tables.entries.items (Some name) load
          → MatchOption load (Unit {0}) (IsWellLoad holds.state.registry holds.state.volatile) → RepresentsLoading holds.page tables (Some kept) load → IsHeld tables kept
      by None is well stands = absurd is
      by (Some load) is well stands = held_so load well stands
