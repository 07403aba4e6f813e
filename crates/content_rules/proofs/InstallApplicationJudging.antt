-- What the judgement of an INSTALL [for install] finds by slots is what its rules say by names.
use Rattle.std.proofs.Common.{◌≡◌, ◌≢◌, ◌⊎◌, ◌↔◌, inl, inr, ℕ, List, Bool, true, false, not, Option, None, Some, length, refl, sym, ap, subst, ◌∙◌, arith}
use Rattle.std.specs.Prelude.{Contains, IfNone, IfSome, IsSome, IsTrue, MatchOption, is_some}
use Rattle.std.specs.List.{list_any}
use Rattle.std.proofs.lemmas.Bool.{and_from, and_parts, not-true, not_from_false, false_from_ne_true}
use Rattle.card_types.proofs.FoundNames.{found_entry_named, found_file_named, none_found_none_named}
use Rattle.card_types.proofs.Members.{contains_map, mapped}
use Rattle.card_types.proofs.Room.{entry_room, no_entry_room}
use Rattle.card_types.proofs.SameAid.{same_aid_decides}
use Rattle.content_rules.specs.Prelude.{ActsIn, Admitted, Holds, InstallingFails, IsFileInCharge, IsFirstFree, IsInstallOf, IsLoadNamed, IsOutOfCharge, IsTakenAid, LoadSession, NoneFree, Represents, acting, aid_of, bits_of, entry_has, entry_named, exceeds_by, file_named, file_of, guarded_privileges, has, is_loaded_as, is_privileged, same_aid, thing_in}
use Rattle.card_types.specs.Registry as registry
use Rattle.card_types.specs.declared.factory.TheConstants.{FACTORY_FILE, FACTORY_MODULE}
use Rattle.card_types.specs.declared.found.Found.{Found}
use Rattle.card_types.specs.declared.found.Found.TheVariants as found
use Rattle.card_types.specs.declared.limits.TheConstants.{ENTRIES}
use Rattle.card_types.specs.declared.privileges.Privileges.{Privileges}
use Rattle.card_types.specs.declared.tables.Entry.{Entry}
use Rattle.card_types.specs.declared.tables.LoadFile.{LoadFile}
use Rattle.card_types.specs.declared.tables.Tables.{Tables}
use Rattle.policy_machine.proofs.Filtered.{any_there, there_any}
use Rattle.policy_machine.specs.declared.install_application.RuleII.{RuleII}
use Rattle.policy_machine.specs.declared.install_application.RuleII.TheVariants.{II2, II3, II4, II6, II7}
use Rattle.content_rules.specs.declared.install_application.InstallRequest.{InstallRequest}
use Rattle.content_rules.specs.declared.install_application.TheConstants.{GUARDED}
use Rattle.policy_slots.proofs.HoldsTold.{holds_named}
use Rattle.policy_slots.specs.declared.live.LoadName.{LoadName}

-- none is found
pub none_found : (A : Type 0) (P : Type 0) (found : Option A) → is_some found ≡ false → IfNone found P → P
none_found A P None none is = is
none_found A P (Some x) none is = cc

-- a thing with an AID is an entry or an Executable Load File, or there is none
module _ (page : ℕ → List ℕ) (tables : Tables) (said : registry.Registry) (says : Represents page tables said) (aid : List ℕ) where
  abbrev pub IsThere : Type 0
  IsThere = IsSome (entry_named said aid) ⊎ IsSome (file_named said aid)

  pub there : (found : Option Found) → IfSome found (λ f. aid_of tables f ≡ Some aid) → is_some found ≡ true → IsThere
  there None is some = cc
  there (Some (found.Entry slot)) is some = inl (subst IsSome (sym (found_entry_named page tables said says slot aid is).2) refl)
  there (Some (found.File slot)) is some = inr (subst IsSome (sym (found_file_named page tables said says slot aid is).2) refl)

  pub not_there : ((thing : Found) → aid_of tables thing ≢ Some aid) → IsThere → ⊥
  not_there none (inl some) = (let gone = (none_found_none_named page tables said says aid none).0 in let is = subst IsSome gone some in cc)
  not_there none (inr some) = (let gone = (none_found_none_named page tables said says aid none).1 in let is = subst IsSome gone some in cc)

-- the load session by its AID
pub loaded : (entries : List (Option Entry)) (aid : List ℕ) (name : Option LoadName) (load : Option LoadSession) → IsLoadNamed entries name load
    → (is_loaded_as aid name ≡ true) ↔ MatchOption load ⊥ (λ l. l.aid ≡ aid)
loaded entries aid None None named = (λ is. cc, λ is. absurd is)
loaded entries aid None (Some load) named = absurd named
loaded entries aid (Some name) None named = absurd named
loaded entries aid (Some name) (Some load) named = (
  λ is. sym named.1 ∙ (same_aid_decides name.aid aid).0 is,
  λ is. (same_aid_decides name.aid aid).1 (named.1 ∙ is),
)

module _ (page : ℕ → List ℕ) (tables : Tables) (domain : ℕ) (admitted : Admitted) (acts : ActsIn page tables domain admitted) where
  -- a guarded privilege that the domain does not hold
  exceeding : (privileges : Privileges) → list_any (exceeds_by privileges (thing_in tables.entries.items domain)) GUARDED ≡ true
      → (privilege : ℕ) × Contains guarded_privileges privilege × (has privilege privileges ≡ true) × (Holds admitted privilege → ⊥)
  exceeding privileges some =
      let found = there_any (exceeds_by privileges (thing_in tables.entries.items domain)) GUARDED some in
      let parts = and_parts (has (bits_of found.0) privileges) (not (entry_has found.0 (thing_in tables.entries.items domain))) found.2 in (
        bits_of found.0,
        contains_map bits_of GUARDED found.0 found.1,
        parts.0,
        λ holds. (let by_slot = holds_named page tables domain admitted acts found.0 ∙ holds in let clash = not-true (entry_has found.0 (thing_in tables.entries.items domain)) parts.1 in cc),
      )

  exceeds_some : (privileges : Privileges) → (privilege : ℕ) × Contains guarded_privileges privilege × (has privilege privileges ≡ true) × (Holds admitted privilege → ⊥)
      → list_any (exceeds_by privileges (thing_in tables.entries.items domain)) GUARDED ≡ true
  exceeds_some privileges (privilege, among, given, lacks) =
      let one = mapped bits_of GUARDED privilege among in
      any_there (exceeds_by privileges (thing_in tables.entries.items domain)) GUARDED one.0 one.1
      (and_from _ _ (ap (λ (bit : ℕ). has bit privileges) one.2 ∙ given)
      (not_from_false (entry_has one.0 (thing_in tables.entries.items domain)) (false_from_ne_true (entry_has one.0 (thing_in tables.entries.items domain))
      (λ holds. lacks (subst (λ (bit : ℕ). is_privileged bit (entry_named admitted.at.registry (acting admitted)) ≡ true) one.2 (sym (holds_named page tables domain admitted acts one.0) ∙ holds))))))

  -- an Executable Load File that is not the factory's
  pub charge_told : (slot : ℕ) (aid : List ℕ) (within : Bool) → aid_of tables (found.File slot) ≡ Some aid → same_aid aid FACTORY_FILE ≡ false
      → ((file : LoadFile) → thing_in tables.files.items slot ≡ Some file → IsTrue within ↔ IsFileInCharge admitted.at.registry (acting admitted) (file_of page tables.entries.items file))
      → IsTrue (not within) ↔ IsOutOfCharge admitted aid
  charge_told slot aid within at other told =
      let named = found_file_named page tables admitted.at.registry acts.says slot aid at in
      let charge = told named.0 named.1 in
      let out : Option registry.LoadFile → Type 0 = λ (o : Option registry.LoadFile). MatchOption o ⊥ (λ file. IsFileInCharge admitted.at.registry (acting admitted) file → ⊥) in (
        λ is. (
          λ same. (let clash = sym ((same_aid_decides aid FACTORY_FILE).1 same) ∙ other in cc),
          subst out (sym named.2) (λ in_charge. (let clash = charge.1 in_charge in let off = not-true within is in cc)),
        ),
        λ outside. not_from_false within (false_from_ne_true within (λ is. subst out named.2 outside.1 (charge.0 is))),
      )

  -- the rules
  module _ (request : InstallRequest) (is : IsInstallOf request admitted.command) where
    abbrev Fails : RuleII → Type 0
    Fails = InstallingFails admitted is.asked

    pub no_file : file_named admitted.at.registry request.file ≡ None → Fails II2
    no_file none = inl (ap (file_named admitted.at.registry) (sym is.file) ∙ none)

    pub no_module : (request.file ≡ FACTORY_FILE) × (request.«module» ≢ FACTORY_MODULE) → Fails II2
    no_module (file, other) = inr (sym is.file ∙ file, λ same. other (is.module_ ∙ same))

    pub source : (slot : ℕ) → aid_of tables (found.File slot) ≡ Some request.file → ((request.file ≡ FACTORY_FILE) × (request.«module» ≢ FACTORY_MODULE) → ⊥)
        → Fails II2 → ⊥
    source slot at has (inl none) =
        let named = found_file_named page tables admitted.at.registry acts.says slot request.file at in
        let clash = sym named.2 ∙ ap (file_named admitted.at.registry) is.file ∙ none in
        cc
    source slot at has (inr (file, other)) = has (is.file ∙ file, λ same. other (sym is.module_ ∙ same))

    pub out_of_charge : IsOutOfCharge admitted request.file → Fails II3
    out_of_charge out = subst (IsOutOfCharge admitted) is.file out

    pub in_charge : (IsOutOfCharge admitted request.file → ⊥) → Fails II3 → ⊥
    in_charge within fails = within (subst (IsOutOfCharge admitted) (sym is.file) fails)

    pub taken : IsTakenAid admitted request.aid → Fails II4
    taken there = subst (IsTakenAid admitted) is.aid there

    pub free : (IsTakenAid admitted request.aid → ⊥) → Fails II4 → ⊥
    free none fails = none (subst (IsTakenAid admitted) (sym is.aid) fails)

    pub exceeds : (b : Bool) → b ≡ list_any (exceeds_by request.privileges (thing_in tables.entries.items domain)) GUARDED → b ≡ true → Fails II6
    exceeds b told some = subst Exceeds is.privileges (exceeding request.privileges (sym told ∙ some))
      where
        Exceeds : Privileges → Type 0
        Exceeds privileges = (privilege : ℕ) × Contains guarded_privileges privilege × (has privilege privileges ≡ true) × (Holds admitted privilege → ⊥)

    pub within : (b : Bool) → b ≡ list_any (exceeds_by request.privileges (thing_in tables.entries.items domain)) GUARDED → b ≡ false → Fails II6 → ⊥
    within b told none fails =
        let some = exceeds_some is.asked.privileges fails in
        let same = ap (λ (privileges : Privileges). list_any (exceeds_by privileges (thing_in tables.entries.items domain)) GUARDED) is.privileges in
        let clash : true ≡ false = sym some ∙ sym same ∙ sym told ∙ none in
        cc

    module _ (whole : length tables.entries.items ≡ ENTRIES) where
      pub full : NoneFree tables.entries.items → Fails II7
      full none = (let all = no_entry_room page tables admitted.at.registry acts.says none in omega (arith, all, whole))

      pub roomy : (slot : ℕ) → IsFirstFree tables.entries.items slot → Fails II7 → ⊥
      roomy slot first fails = (let below = entry_room page tables admitted.at.registry acts.says slot first.within first.free in omega (arith, below, whole, fails))
