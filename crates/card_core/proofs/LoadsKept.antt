-- What is kept of the load session, while other commands come.
use Rattle.std.proofs.Common.{◌≡◌, ℕ, List, [], Bool, true, false, Option, None, Some, Result, Ok, Err, refl, sym, subst, ◌∙◌}
use Rattle.std.specs.Prelude.{All, IfSome, MatchOption, if◌then◌else◌, ◌==◌}
use Rattle.card_core.specs.Prelude.{Admitted, AreFree, AreSpare, IsDomainNamed, IsFree, IsLoadNamed, IsSound, IsSpare, IsWellLoad, Judges, KeepsAid, KeepsFree, KeepsSelected, LoadSession, LoadsAs, RepresentsLoading, RepresentsState, State, domain_aid, load_slot, load_without_channel, numbers}
use Rattle.apdu_core.specs.declared.reply.Status.{Status}
use Rattle.card_types.proofs.Domains.{domain_aid_is, domain_named_is_used}
use Rattle.card_types.proofs.EntryNames.{one_entry_slot}
use Rattle.card_types.specs.declared.tables.Tables.{Tables}
use Rattle.card_check.proofs.LoadPagesNamed.{all_of_members}
use Rattle.flash_core.specs.declared.flash.Flash.{Ghosts as Flash}
use Rattle.load_session.proofs.Stays.{session_stays}
use Rattle.load_session.specs.declared.load_write.LoadWrite.{LoadWrite}
use Rattle.std.proofs.lemmas.List.Elements.{All-contains}
use Rattle.load_session.specs.declared.session.LoadSession.{LoadSession as Kept}
use Rattle.policy_machine.specs.declared.rule.Rule.{Rule}
use Rattle.policy_slots.specs.declared.live.Live.{Live}
use Rattle.policy_slots.specs.declared.live.LoadName.{LoadName}
use Rattle.std.specs.Result.{IsErrAnd}

-- the load session of a channel has ended
pub ended_loading : (page : ℕ → List ℕ) (tables : Tables) (loading : Option Kept) (number : ℕ) (load : Option LoadSession) → RepresentsLoading page tables loading load
    → RepresentsLoading page tables loading (load_without_channel number load)
ended_loading page tables loading number None is = tt
ended_loading page tables loading number (Some load) is = by (load.channel == number)
  where
    by : (ends : Bool) → RepresentsLoading page tables loading (if ends then None else Some load)
    by true = tt
    by false = is

-- other tables, in which the security domain has the same AID
pub over_loading : (page : ℕ → List ℕ) (tables tables' : Tables) (loading : Option Kept) (load : Option LoadSession) → KeepsFree tables tables'
    → ((kept : Kept) → loading ≡ Some kept → domain_aid tables'.entries.items (load_slot kept) ≡ domain_aid tables.entries.items (load_slot kept))
    → RepresentsLoading page tables loading load → RepresentsLoading page tables' loading load
over_loading page tables tables' loading None free same is = tt
over_loading page tables tables' None (Some load) free same is = is
over_loading page tables tables' (Some kept) (Some load) free same is =
    session_stays page page tables tables' kept load (λ number there was. free number was) (λ number there. refl) (same kept refl) is

-- tables in which what is selected keeps its AID
module _ (page : ℕ → List ℕ) (tables tables' : Tables) (live : Live) (state : State) (keeps : KeepsSelected live tables.entries.items tables'.entries.items)
    (free : KeepsFree tables tables') (sound : IsSound state) (says : RepresentsState page tables live state) where
  by_name : (name : Option LoadName) (loading : Option Kept) (load : Option LoadSession) → IfSome name (λ n. KeepsAid tables.entries.items tables'.entries.items n.domain)
      → MatchOption load (Unit {0}) (IsWellLoad state.registry state.volatile) → IsLoadNamed tables.entries.items name load
      → RepresentsLoading page tables loading load → RepresentsLoading page tables' loading load
  by_name name loading None kept well named is = tt
  by_name None loading (Some load) kept well named is = absurd named
  by_name (Some name) None (Some load) kept well named is = is
  by_name (Some name) (Some session) (Some load) kept well named is =
      let slot = load_slot session in
      let entries = tables.entries.items in
      let here = domain_named_is_used page tables state.registry says.registry sound.well slot (subst (IsDomainNamed state.registry) (sym is.of.domain) well.domain) in
      let there = domain_named_is_used page tables state.registry says.registry sound.well name.domain (subst (IsDomainNamed state.registry) (sym named.2) well.domain) in
      let aid : here.0.aid ≡ there.0.aid =
      sym (domain_aid_is entries slot here.0 here.1) ∙ is.of.domain ∙ sym named.2 ∙ domain_aid_is entries name.domain there.0 there.1 in
      let one = one_entry_slot page tables state.registry says.registry slot name.domain here.0 there.0 here.1 there.1 aid in
      let other = subst (KeepsAid entries tables'.entries.items) (sym one) kept here.0 here.1 in
      let same = domain_aid_is tables'.entries.items slot other.0 other.1 ∙ other.2 ∙ sym (domain_aid_is entries slot here.0 here.1) in
      session_stays page page tables tables' session load (λ number taken was. free number was) (λ number taken. refl) same is

  pub kept_loading : (loading : Option Kept) → RepresentsLoading page tables loading state.volatile.load → RepresentsLoading page tables' loading state.volatile.load
  kept_loading loading is = by_name live.load loading state.volatile.load keeps.load sound.fits.load says.load is

-- each page that is free by the tables of a card is one that no Executable Load File on its device has
pub free_spare : {F : Type 0} (device : Flash F) (old served : F) (tables : Tables) (writes : List LoadWrite) → served ≡ old → AreSpare device old tables
    → AreFree tables writes → All (IsSpare device served) (numbers writes)
free_spare device old served tables writes same spare are =
    subst (λ flash. All (IsSpare device flash) (numbers writes)) (sym same)
    (all_of_members (IsSpare device old) (numbers writes) (λ page there. spare page (All-contains (IsFree tables) (numbers writes) page are.free there)))

-- a command that loads is refused by a rule of its own
pub refusal_loaded : (admitted : Admitted) (page : ℕ → List ℕ) (tables : Tables) (live : Live) (loading : Option Kept) (body : List ℕ) (result : Result Status Rule) (found : Rule)
    → IsErrAnd result (λ rule. rule ≡ found) → Judges admitted (Some found) → body ≡ [] → LoadsAs admitted page tables live loading body result
refusal_loaded admitted page tables live loading body (Ok status) found given judges empty = absurd given
refusal_loaded admitted page tables live loading body (Err rule) found given judges empty = (subst (λ (r : Rule). Judges admitted (Some r)) (sym given) judges, empty)
