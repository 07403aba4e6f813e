-- The rules of INSTALL [for load] after its form, by its request.
use Rattle.std.proofs.Common.{◌≡◌, ◌≢◌, ◌↔◌, ◌⊎◌, inl, inr, ℕ, Bool, true, false, List, [], ◌∷◌, length, Option, None, Some, refl, ap, sym, subst, ◌∙◌, arith}
use Rattle.std.specs.Prelude.{IfSome, IsSome, IsTrue, is_some}
use Rattle.card_types.proofs.Room.{file_room, no_file_room}
use Rattle.content_rules.specs.Prelude.{ActsIn, Admitted, InstallingLoadFails, IsAid, IsAtOrAbove, IsDomainNamed, IsFirstFree, IsLoadInstallOf, IsLoadNamed, LoadData, LoadSession, NamesDomain, NoneFree, acting, aid_of, entry_named, file_domain_for, file_named, named_or}
use Rattle.card_types.specs.declared.found.Found.{Found}
use Rattle.card_types.specs.declared.found.Found.TheVariants as found
use Rattle.card_types.specs.declared.limits.TheConstants.{FILES}
use Rattle.card_types.specs.declared.tables.Entry.{Entry}
use Rattle.card_types.specs.declared.tables.Tables.{Tables}
use Rattle.policy_machine.specs.declared.install_load.RuleIL.{RuleIL}
use Rattle.policy_machine.specs.declared.install_load.RuleIL.TheVariants.{IL2, IL3, IL4, IL5, IL7}
use Rattle.content_rules.proofs.InstallApplicationJudging.{not_there, there}
use Rattle.content_rules.specs.declared.install_load.LoadInstallRequest.{LoadInstallRequest}
use Rattle.policy_slots.proofs.ThingsFound.{acting_named}
use Rattle.policy_slots.specs.declared.live.LoadName.{LoadName}

-- a name of a domain is not empty
named_is : (field other : List ℕ) → IsAid field → named_or field other ≡ field
named_is [] other is = absurd (omega arith)
named_is (byte ∷ bytes) other is = refl

not_empty : (field : List ℕ) → IsAid field → field ≢ []
not_empty [] is same = absurd (omega arith)
not_empty (byte ∷ bytes) is same = cc

-- a field that names a domain or none is one that the command takes
pub names_some : (named : Option (List ℕ)) (field : List ℕ) → NamesDomain named field → (field ≡ []) ⊎ IsAid field
names_some None field none = inl none
names_some (Some aid) field names = inr names.1

-- the domain that is named, and the acting one where none is
module _ (page : ℕ → List ℕ) (tables : Tables) (domain : ℕ) (admitted : Admitted) (given : LoadData) (acts : ActsIn page tables domain admitted) where
  pub acting_for : given.domain ≡ [] → aid_of tables (found.Entry domain) ≡ Some (file_domain_for admitted given)
  acting_for none = acting_named page tables domain admitted acts ∙ ap (λ (field : List ℕ). Some (named_or field (acting admitted))) (sym none)

  pub acting_passes : given.domain ≡ [] → InstallingLoadFails admitted given IL4 → ⊥
  acting_passes none fails = fails.0 none

  module _ (aid : List ℕ) (names : NamesDomain (Some aid) given.domain) where
    pub named_for : (slot : ℕ) → aid_of tables (found.Entry slot) ≡ Some aid → aid_of tables (found.Entry slot) ≡ Some (file_domain_for admitted given)
    named_for slot at = at ∙ ap Some (sym (named_is given.domain (acting admitted) names.1 ∙ names.0))

    pub named_passes : IsDomainNamed admitted.at.registry aid → InstallingLoadFails admitted given IL4 → ⊥
    named_passes there fails = fails.1 (subst (IsDomainNamed admitted.at.registry) (sym names.0) there)

    pub named_fails : (IsDomainNamed admitted.at.registry aid → ⊥) → InstallingLoadFails admitted given IL4
    named_fails none = (not_empty given.domain names.1, λ there. none (subst (IsDomainNamed admitted.at.registry) names.0 there))

-- there is a load session where one is named
load_told : (entries : List (Option Entry)) (name : Option LoadName) (load : Option LoadSession) → IsLoadNamed entries name load → is_some name ≡ is_some load
load_told entries None None named = refl
load_told entries None (Some load) named = absurd named
load_told entries (Some name) None named = absurd named
load_told entries (Some name) (Some load) named = refl

-- what the tests of the code tell of these rules
module _ (page : ℕ → List ℕ) (tables : Tables) (domain : ℕ) (admitted : Admitted) (acts : ActsIn page tables domain admitted)
    (request : LoadInstallRequest) (is : IsLoadInstallOf request admitted.command) where
  abbrev Fails : RuleIL → Type 0
  Fails = InstallingLoadFails admitted is.given

  pub loading : (name : Option LoadName) → IsLoadNamed tables.entries.items name admitted.at.volatile.load → is_some name ≡ true → Fails IL2
  loading name named some = sym (load_told tables.entries.items name admitted.at.volatile.load named) ∙ some

  pub idle : (name : Option LoadName) → IsLoadNamed tables.entries.items name admitted.at.volatile.load → is_some name ≡ false → Fails IL2 → ⊥
  idle name named none fails = (let clash = sym fails ∙ sym (load_told tables.entries.items name admitted.at.volatile.load named) ∙ none in cc)

  pub taken : (thing : Option Found) → IfSome thing (λ f. aid_of tables f ≡ Some request.file) → is_some thing ≡ true → Fails IL3
  taken thing at some =
      subst (λ (aid : List ℕ). IsSome (entry_named admitted.at.registry aid) ⊎ IsSome (file_named admitted.at.registry aid)) is.file
      (there page tables admitted.at.registry acts.says request.file thing at some)

  pub free : ((thing : Found) → aid_of tables thing ≢ Some request.file) → Fails IL3 → ⊥
  free none fails =
      not_there page tables admitted.at.registry acts.says request.file none
      (subst (λ (aid : List ℕ). IsSome (entry_named admitted.at.registry aid) ⊎ IsSome (file_named admitted.at.registry aid)) (sym is.file) fails)

  pub within : (above : Bool) → IsTrue above ↔ IsAtOrAbove admitted.at.registry (acting admitted) (file_domain_for admitted is.given) → above ≡ true → Fails IL5 → ⊥
  within above told so fails = fails (told.0 so)

  module _ (whole : length tables.files.items ≡ FILES) where
    pub full : NoneFree tables.files.items → Fails IL7
    full none = (let all = no_file_room page tables admitted.at.registry acts.says none in omega (arith, all, whole))

    pub roomy : (slot : ℕ) → IsFirstFree tables.files.items slot → Fails IL7 → ⊥
    roomy slot first fails = (let below = file_room page tables admitted.at.registry acts.says slot first.within first.free in omega (arith, below, whole, fails))
