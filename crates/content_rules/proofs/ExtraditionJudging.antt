-- The rules of INSTALL [for extradition] after its form, by its request.
use Rattle.std.proofs.Common.{◌≡◌, ◌≢◌, ◌↔◌, ◌⊎◌, inl, inr, ℕ, Bool, List, Option, Some, ap, sym, subst, ◌∙◌}
use Rattle.std.specs.Prelude.{IsTrue, MatchOption, not}
use Rattle.card_types.proofs.FoundNames.{found_entry_named, found_file_named, none_found_none_named}
use Rattle.content_rules.specs.Prelude.{ActsIn, Admitted, ExtraditingFails, InstallData, IsAtOrAbove, IsDomainNamed, IsExtraditionOf, IsOutOfReach, IsUnapprovable, IsVerifier, Key, Represents, acting, aid_of, is_personalized, thing_in}
use Rattle.card_types.specs.Registry as registry
use Rattle.card_types.specs.declared.factory.TheConstants.{FACTORY_FILE, ISSUER}
use Rattle.card_types.specs.declared.found.Found.{Found}
use Rattle.card_types.specs.declared.found.Found.TheVariants as found
use Rattle.card_types.specs.declared.tables.Entry.{Entry}
use Rattle.card_types.specs.declared.tables.Tables.{Tables}
use Rattle.policy_machine.specs.declared.extradition.RuleEX.{RuleEX}
use Rattle.policy_machine.specs.declared.extradition.RuleEX.TheVariants.{EX2, EX3, EX5}
use Rattle.policy_machine.proofs.Approved.{one_holder}
use Rattle.content_rules.specs.declared.extradition.ExtraditionRequest.{ExtraditionRequest}
use Rattle.policy_slots.proofs.HoldsTold.{not_told}
use Rattle.policy_slots.proofs.ThingsFound.{entry_at, named_as}

abbrev Unfit : Option registry.Entry → Type 0
Unfit o = MatchOption o ⊥ (λ entry. entry.life ≢ is_personalized)

-- the new domain is not personalized, or locked, where its slot says so
pub fitness_told : (page : ℕ → List ℕ) (tables : Tables) (admitted : Admitted) → Represents page tables admitted.at.registry → (given : InstallData) (to : ℕ)
    → aid_of tables (found.Entry to) ≡ Some given.first → (entry : Entry) → thing_in tables.entries.items to ≡ Some entry
    → (fit : Bool) → IsTrue fit ↔ (entry.life ≡ is_personalized) → IsTrue (not fit) ↔ ExtraditingFails admitted given EX5
fitness_told page tables admitted says given to named entry at fit told =
    let there = entry_at page tables admitted.at.registry says to given.first named in
    let is = named_as tables admitted.at.registry to given.first there entry at in
    let negated = not_told fit told in (
      λ so. subst Unfit (sym is) (negated.0 so),
      λ fails. negated.1 (subst Unfit is fails),
    )

module _ (page : ℕ → List ℕ) (tables : Tables) (domain : ℕ) (admitted : Admitted) (acts : ActsIn page tables domain admitted) where
  module _ (request : ExtraditionRequest) (is : IsExtraditionOf request admitted.command) where
    -- the thing and its new domain are one
    pub one_thing : request.to ≡ request.aid → is.given.first ≡ is.given.third
    one_thing same = sym is.to ∙ same ∙ is.aid

    pub two_things : (request.to ≡ request.aid → ⊥) → is.given.first ≢ is.given.third
    two_things other same = other (is.to ∙ same ∙ sym is.aid)

    -- what is said of the new domain's AID
    to_given : (x : List ℕ) (above : Bool) → IsTrue above ↔ IsAtOrAbove admitted.at.registry x request.to
        → IsTrue above ↔ IsAtOrAbove admitted.at.registry x is.given.first
    to_given x above told = subst (λ (y : List ℕ). IsTrue above ↔ IsAtOrAbove admitted.at.registry x y) is.to told

    pub reach_told : (request.to ≡ request.aid → ⊥) → (above : Bool) → IsTrue above ↔ IsAtOrAbove admitted.at.registry (acting admitted) request.to
        → IsTrue (not above) ↔ IsOutOfReach admitted is.given
    reach_told other above told =
        let negated = not_told above (to_given (acting admitted) above told) in
        ((λ so. (two_things other, negated.0 so)), (λ out. negated.1 out.1))

    pub approver_told : (request.to ≡ request.aid → ⊥) → (verifier : List ℕ) (key : Key) → IsVerifier admitted.at.registry (acting admitted) verifier key
        → (above : Bool) → IsTrue above ↔ IsAtOrAbove admitted.at.registry verifier request.to → IsTrue (not above) ↔ IsUnapprovable admitted is.given
    approver_told other verifier key verifies above told = (
      λ so. inr (inr (verifier, key, verifies, negated.0 so)),
      λ fails. elim fails [
        | inl same ↦ absurd (two_things other same)
        | inr (inl none) ↦ absurd (none verifier verifies.above.above verifies.above.fitting)
        | inr (inr another) ↦
            (let same = one_holder admitted.at.registry _ _ (acting admitted) another.0 verifier another.1 key another.2 verifies in
            negated.1 (subst (λ (v : List ℕ). IsAtOrAbove admitted.at.registry v is.given.first → ⊥) same.0 another.3))
      ],
    )
      where
        negated : IsTrue (not above) ↔ (IsAtOrAbove admitted.at.registry verifier is.given.first → ⊥)
        negated = not_told above (to_given verifier above told)

module _ (admitted : Admitted) (given : InstallData) where
  abbrev Fails : RuleEX → Type 0
  Fails = ExtraditingFails admitted given

  abbrev Passes : RuleEX → Type 0
  Passes rule = Fails rule → ⊥

-- what the tests of the code tell of these rules
module _ (page : ℕ → List ℕ) (tables : Tables) (domain : ℕ) (admitted : Admitted) (acts : ActsIn page tables domain admitted)
    (request : ExtraditionRequest) (is : IsExtraditionOf request admitted.command) where
  pub unknown : ((thing : Found) → aid_of tables thing ≢ Some request.aid) → Fails admitted is.given EX2
  unknown none = inl (none_found_none_named page tables admitted.at.registry acts.says is.given.third (λ thing named. none thing (named ∙ ap Some (sym is.aid))))

  pub no_domain : (IsDomainNamed admitted.at.registry request.to → ⊥) → Fails admitted is.given EX2
  no_domain none = inr (λ there. none (subst (IsDomainNamed admitted.at.registry) (sym is.to) there))

  pub known : (thing : Found) → aid_of tables thing ≡ Some request.aid → IsDomainNamed admitted.at.registry request.to → Passes admitted is.given EX2
  known (found.Entry slot) named there (inl none) =
      (let at = found_entry_named page tables admitted.at.registry acts.says slot is.given.third (named ∙ ap Some is.aid) in let missing = none.0 in let clash = at.2 in cc)
  known (found.File slot) named there (inl none) =
      (let at = found_file_named page tables admitted.at.registry acts.says slot is.given.third (named ∙ ap Some is.aid) in let missing = none.1 in let clash = at.2 in cc)
  known thing named there (inr none) = none (subst (IsDomainNamed admitted.at.registry) is.to there)

  pub fixed : (request.aid ≡ ISSUER) ⊎ (request.aid ≡ FACTORY_FILE) → Fails admitted is.given EX3
  fixed (inl same) = inl (sym is.aid ∙ same)
  fixed (inr same) = inr (sym is.aid ∙ same)

  pub free : ((request.aid ≡ ISSUER) ⊎ (request.aid ≡ FACTORY_FILE) → ⊥) → Passes admitted is.given EX3
  free other (inl same) = other (inl (is.aid ∙ same))
  free other (inr same) = other (inr (is.aid ∙ same))
