-- The load session that is named, and the slot of its domain.
use Rattle.std.proofs.Common.{◌≡◌, ℕ, ◌+◌, List, [], length, Bool, true, Option, None, Some, refl, ap, sym, subst, ◌∙◌, inl, inr, arith, if◌then◌else◌}
use Rattle.std.specs.Prelude.{◌↔◌, IsSome, IsTrue, MatchOption, not}
use Rattle.std.proofs.lemmas.Bool.Decides.{eqb_tells}
use Rattle.std.proofs.lemmas.List.Elements.{All-contains}
use Rattle.card_types.proofs.LeastOfList.{found_fits}
use Rattle.card_types.proofs.SameAid.{same_aid_decides}
use Rattle.content_rules.specs.Prelude.{ActsIn, Admitted, IsAtOrAbove, IsDomainNamed, IsForLast, IsLoadNamed, IsLoadOn, IsWellEntry, IsWellLoad, LoadSession, LoadingFails, Registry, Well, acting, after_block, aid_of, domain_aid, entry_named, named_on, same_aid, thing_in, with_block}
use Rattle.card_types.specs.Registry as registry
use Rattle.card_types.specs.declared.found.Found.TheVariants as found
use Rattle.card_types.specs.declared.tables.Entry.{Entry}
use Rattle.card_types.specs.declared.tables.Tables.{Tables}
use Rattle.policy_machine.specs.declared.load.RuleLO.TheVariants.{LO7}
use Rattle.policy_machine.proofs.LoadOfChannel.{of_load}
use Rattle.policy_slots.proofs.HoldsTold.{not_told}
use Rattle.policy_slots.proofs.ThingsFound.{acting_named, named_by_slot}
use Rattle.policy_slots.specs.declared.live.LoadName.{LoadName}

-- the load session with this name is the channel's
pub record IsNamedOn (entries : List (Option Entry)) (name : LoadName) (admitted : Admitted) : Type 0 where
  pub load : LoadSession
  pub on : IsLoadOn admitted load
  pub named : IsLoadNamed entries (Some name) (Some load)

pub named_on_channel : (entries : List (Option Entry)) (name : LoadName) (admitted : Admitted) → IsLoadNamed entries (Some name) admitted.at.volatile.load
    → name.channel ≡ admitted.channel → IsNamedOn entries name admitted
named_on_channel entries name admitted named on = by admitted.at.volatile.load refl named
  where
    by : (load : Option LoadSession) → admitted.at.volatile.load ≡ load → IsLoadNamed entries (Some name) load → IsNamedOn entries name admitted
    by None at is = absurd is
    by (Some load) at is = record { load = load; on = (at, sym is.0 ∙ on); named = is }

-- with one more block it is named as the one that has counted it
pub counted_named : (entries : List (Option Entry)) (name : Option LoadName) (load : LoadSession) (size : ℕ) (bytes : List ℕ) → IsLoadNamed entries name (Some load)
    → IsLoadNamed entries (after_block name) (Some (with_block load size bytes))
counted_named entries None load size bytes named = absurd named
counted_named entries (Some name) load size bytes named = (named.0, named.1, named.2, ap (λ (n : ℕ). n + 1) named.3)

-- the load session that a channel has, as it is named
pub named_is : (channel : ℕ) (load : Option LoadName) (name : LoadName) → named_on channel load ≡ Some name → (load ≡ Some name) × (name.channel ≡ channel)
named_is channel None name is = cc
named_is channel (Some other) name is = elim (eqb_tells other.channel channel) [
  | inl same ↦
      (let there : Some other ≡ Some name = subst (λ (here : Bool). (if here then Some other else None) ≡ Some name) same.0 is in
      (there, ap (λ (l : LoadName). l.channel) (sym (one_name other name there)) ∙ same.1))
  | inr differs ↦ (let clash : None ≡ Some name = subst (λ (here : Bool). (if here then Some other else None) ≡ Some name) differs.0 is in cc)
]
  where
    one_name : (a b : LoadName) → Some a ≡ Some b → a ≡ b
    one_name a b same = cc

-- no entry has an AID of no bytes
no_domain : (said : Registry) → Well said → IsDomainNamed said [] → ⊥
no_domain said well domain = by (entry_named said []) refl domain
  where
    by : (o : Option registry.Entry) → entry_named said [] ≡ o → MatchOption o ⊥ (λ e. registry.is_domain e ≡ true) → ⊥
    by None at is = is
    by (Some entry) at is =
        (let found = found_fits (λ (e : registry.Entry). same_aid e.aid []) said.entries entry at in
        let aid = (All-contains (IsWellEntry said) said.entries entry well.entries found.0).proper.aid in
        let same = (same_aid_decides entry.aid []).0 found.1 in
        omega (arith, ap length same, aid.0))

-- the last block is for the domain in the slot that is named
module _ (tables : Tables) (name : LoadName) (admitted : Admitted) (is_for : IsForLast tables name admitted) where
  pub named_last : IsNamedOn tables.entries.items name admitted
  named_last = named_on_channel tables.entries.items name admitted is_for.load.named is_for.load.on

  pub load_domain_at : aid_of tables (found.Entry name.domain) ≡ Some named_last.load.domain
  load_domain_at = by (thing_in tables.entries.items name.domain) refl
    where
      well : IsWellLoad admitted.at.registry admitted.at.volatile named_last.load
      well = subst (λ (l : Option LoadSession). MatchOption l (Unit {0}) (IsWellLoad admitted.at.registry admitted.at.volatile)) named_last.on.0 is_for.sound.fits.load

      used : IsSome (thing_in tables.entries.items name.domain) → aid_of tables (found.Entry name.domain) ≡ Some named_last.load.domain
      used some = named_by_slot tables name.domain some ∙ ap Some named_last.named.2

      by : (o : Option Entry) → thing_in tables.entries.items name.domain ≡ o → aid_of tables (found.Entry name.domain) ≡ Some named_last.load.domain
      by None at = absurd (no_domain admitted.at.registry is_for.sound.well (subst (IsDomainNamed admitted.at.registry) (sym named_last.named.2 ∙ empty at) well.domain))
        where
          empty : thing_in tables.entries.items name.domain ≡ None → domain_aid tables.entries.items name.domain ≡ []
          empty none = rw none refl
      by (Some entry) at = used (subst IsSome (sym at) refl)

-- its domain is one of those that the acting domain has power over
module _ (page : ℕ → List ℕ) (tables : Tables) (domain : ℕ) (admitted : Admitted) (acts : ActsIn page tables domain admitted) (name : LoadName)
    (is_for : IsForLast tables name admitted) where
  abbrev last_load : LoadSession
  last_load = (named_last tables name admitted is_for).load

  pub foreign_told : (above : Bool)
      → (aid_of tables (found.Entry domain) ≡ Some (acting admitted) → aid_of tables (found.Entry name.domain) ≡ Some last_load.domain
      → IsTrue above ↔ IsAtOrAbove admitted.at.registry (acting admitted) last_load.domain)
      → IsTrue (not above) ↔ LoadingFails admitted LO7
  foreign_told above told =
      let its = named_last tables name admitted is_for in
      let negated = not_told above (told (acting_named page tables domain admitted acts) (load_domain_at tables name admitted is_for)) in (
        λ foreign. (is_for.last, (its.load, its.on, negated.0 foreign)),
        λ (last, there). negated.1 (of_load admitted (λ l. IsAtOrAbove admitted.at.registry (acting admitted) l.domain → ⊥) its.load its.on there),
      )
