-- The names of what is in the slots of a card: which are the same, and what a slot that is named holds.
use Rattle.std.proofs.Common.{◌≡◌, ◌≢◌, inl, inr, ℕ, ◌==◌, true, List, [], Option, None, Some, refl, ap, sym, subst, ◌∙◌}
use Rattle.std.specs.Prelude.{IsSome, MatchOption, unwrap_or}
use Rattle.std.specs.Option.{option_map}
use Rattle.std.proofs.lemmas.Bool.{cases_Bool, eq-eqb, ne_eqb}
use Rattle.card_types.specs.Aid.{same_aid}
use Rattle.card_types.specs.Privileges.{has, security_domain}
use Rattle.card_types.specs.Represents.{domain_aid, file_aid, thing_in}
use Rattle.card_types.specs.declared.factory.TheConstants.{FACTORY_FILE}
use Rattle.card_types.specs.declared.found.Found.TheVariants as found
use Rattle.card_types.specs.declared.tables.Entry.{Entry}
use Rattle.card_types.specs.declared.tables.KeyRec.{KeyRec}
use Rattle.card_types.specs.declared.tables.LoadFile.{LoadFile}
use Rattle.card_types.specs.declared.tables.Object.{Object}
use Rattle.card_types.specs.declared.tables.Tables.{Tables}
use Rattle.card_types.proofs.Domains.{domain_aid_is}
use Rattle.card_types.proofs.SameAid.{same_aid_decides}
use Rattle.card_types.proofs.SetNames.{has_from_held}
use Rattle.card_check.specs.CardSlots.{HasCardSlots, IsDomainSlot, IsFactoryLoadFile, IsIssuerEntry}

-- what is in a slot that has to hold something
pub in_used : {T : Type 0} (Is : T → Type 0) (o : Option T) → MatchOption o ⊥ Is → (thing : T) × (o ≡ Some thing) × Is thing
in_used Is None is = absurd is
in_used Is (Some thing) is = (thing, refl, is)

pub in_some : {T : Type 0} (o : Option T) → IsSome o → (thing : T) × (o ≡ Some thing)
in_some None is = cc
in_some (Some thing) is = (thing, refl)

pub used_from : {T : Type 0} (Is : T → Type 0) (o : Option T) (thing : T) → o ≡ Some thing → Is thing → MatchOption o ⊥ Is
used_from Is o thing at is = subst (λ (o : Option _). MatchOption o ⊥ Is) (sym at) is

pub some_from : {T : Type 0} (o : Option T) (thing : T) → o ≡ Some thing → IsSome o
some_from o thing at = subst IsSome (sym at) refl

pub file_aid_is : (files : List (Option LoadFile)) (slot : ℕ) (file : LoadFile) → thing_in files slot ≡ Some file → file_aid files slot ≡ file.aid
file_aid_is files slot file at = ap (λ (o : Option LoadFile). unwrap_or (option_map (λ f. f.aid) o) []) at

-- the slot with the factory's Executable Load File is the first, where no two have one AID
pub is_factory_slot : (files : List (Option LoadFile)) (first : LoadFile) → thing_in files 0 ≡ Some first → first.aid ≡ FACTORY_FILE
    → ((a b : ℕ) (x y : LoadFile) → thing_in files a ≡ Some x → thing_in files b ≡ Some y → x.aid ≡ y.aid → a ≡ b)
    → (slot : ℕ) (file : LoadFile) → thing_in files slot ≡ Some file → (slot == 0) ≡ same_aid (file_aid files slot) FACTORY_FILE
is_factory_slot files first at named one slot file here = elim (cases_Bool (same_aid (file_aid files slot) FACTORY_FILE)) [
  | inl same ↦
      (let alike : file.aid ≡ first.aid = sym (file_aid_is files slot file here) ∙ (same_aid_decides (file_aid files slot) FACTORY_FILE).0 same ∙ sym named in
      eq-eqb slot 0 (one slot 0 file first here at alike) ∙ sym same)
  | inr differs ↦
      ne_eqb slot 0 (λ zero.
      (let alike : file_aid files slot ≡ FACTORY_FILE = ap (file_aid files) zero ∙ file_aid_is files 0 first at ∙ named in
      let same = (same_aid_decides (file_aid files slot) FACTORY_FILE).1 alike in cc))
      ∙ sym differs
]

module _ (tables : Tables) (card : HasCardSlots tables) where
  pub one_entry : (a b : ℕ) (x y : Entry) → thing_in tables.entries.items a ≡ Some x → thing_in tables.entries.items b ≡ Some y → x.aid ≡ y.aid → a ≡ b
  one_entry a b x y at_a at_b alike =
      let other = (card.entries.at a x at_a).alone (found.Entry b) (ap (option_map (λ e. e.aid)) at_b ∙ ap Some (sym alike)) in cc

  pub one_file : (a b : ℕ) (x y : LoadFile) → thing_in tables.files.items a ≡ Some x → thing_in tables.files.items b ≡ Some y → x.aid ≡ y.aid → a ≡ b
  one_file a b x y at_a at_b alike =
      let other = (card.files.at a x at_a).alone (found.File b) (ap (option_map (λ f. f.aid)) at_b ∙ ap Some (sym alike)) in cc

  pub apart : (a b : ℕ) (x : Entry) (y : LoadFile) → thing_in tables.entries.items a ≡ Some x → thing_in tables.files.items b ≡ Some y → x.aid ≢ y.aid
  apart a b x y at_a at_b alike =
      let other = (card.entries.at a x at_a).alone (found.File b) (ap (option_map (λ f. f.aid)) at_b ∙ ap Some (sym alike)) in cc

  pub one_domain : (a b : ℕ) → IsDomainSlot tables.entries.items a → IsDomainSlot tables.entries.items b
      → domain_aid tables.entries.items a ≡ domain_aid tables.entries.items b → a ≡ b
  one_domain a b is_a is_b alike =
      let x = in_used (λ (e : Entry). has security_domain e.privileges ≡ true) (thing_in tables.entries.items a) is_a in
      let y = in_used (λ (e : Entry). has security_domain e.privileges ≡ true) (thing_in tables.entries.items b) is_b in
      one_entry a b x.0 y.0 x.1 y.1 (sym (domain_aid_is tables.entries.items a x.0 x.1) ∙ alike ∙ domain_aid_is tables.entries.items b y.0 y.1)

  pub one_key : (a b : ℕ) (x y : KeyRec) → thing_in tables.keys.items a ≡ Some x → thing_in tables.keys.items b ≡ Some y
      → domain_aid tables.entries.items x.owner ≡ domain_aid tables.entries.items y.owner → x.version ≡ y.version → x.identifier ≡ y.identifier → a ≡ b
  one_key a b x y at_a at_b owner version identifier =
      let card_x = card.keys.at a x at_a in
      let card_y = card.keys.at b y at_b in
      let same : x.owner ≡ y.owner = one_domain x.owner y.owner card_x.owner card_y.owner owner in
      sym (card_x.alone b (has_from_held tables.keys.items x.owner x.version x.identifier b y at_b
      (record { same_owner = sym same; same_version = sym version; same_identifier = sym identifier })))

  pub one_object : (a b : ℕ) (x y : Object) → thing_in tables.objects.items a ≡ Some x → thing_in tables.objects.items b ≡ Some y
      → domain_aid tables.entries.items x.owner ≡ domain_aid tables.entries.items y.owner → x.tag ≡ y.tag → a ≡ b
  one_object a b x y at_a at_b owner tag =
      let card_x = card.objects.at a x at_a in
      let card_y = card.objects.at b y at_b in
      let same : x.owner ≡ y.owner = one_domain x.owner y.owner card_x.owner card_y.owner owner in
      sym (card_x.alone b (used_from (λ (o : Object). (o.owner ≡ x.owner) × (o.tag ≡ x.tag)) (thing_in tables.objects.items b) y at_b (sym same, sym tag)))

  pub issuer_entry : (entry : Entry) × (thing_in tables.entries.items 0 ≡ Some entry) × IsIssuerEntry entry
  issuer_entry = in_used IsIssuerEntry (thing_in tables.entries.items 0) card.issuer

  pub factory_load_file : (file : LoadFile) × (thing_in tables.files.items 0 ≡ Some file) × IsFactoryLoadFile file
  factory_load_file = in_used IsFactoryLoadFile (thing_in tables.files.items 0) card.factory_file
