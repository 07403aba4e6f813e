-- A command is answered by the receipt that its receipter's slot, its keys and the data objects make.
use Rattle.std.proofs.Common.{◌≡◌, ◌≢◌, ◌↔◌, inl, inr, ℕ, ◌+◌, ◌==◌, ◌++◌, true, List, Option, None, Some, refl, ap, sym, subst, ◌∙◌}
use Rattle.std.specs.Prelude.{IfSome, MatchOption}
use Rattle.std.proofs.lemmas.Bool.{and_parts, eqb-true}
use Rattle.card_types.proofs.Domains.{domain_aid_is}
use Rattle.card_types.proofs.ObjectNames.{object_in_slot, object_unnamed}
use Rattle.card_types.proofs.SetNames.{has_from_held, has_key_named}
use Rattle.card_core.specs.Prelude.{Admitted, AnswersFor, Effect, FindsConfirmer, HasChanged, IsAnswered, IsAnsweredBy, IsReceiptIn, IsReceipterIn, IsUniqueIn, IsValueIn, KeepsNumber, Registry, Represents, domain_aid, entry_of, is_tagged_in, key_of, no_confirmation, object_named, object_of, receipt, thing_in, unique_data, value_of, with_receipts}
use Rattle.card_types.specs.declared.data_objects.TheConstants.{IMAGE_NUMBER, ISSUER_NUMBER}
use Rattle.card_types.specs.declared.factory.TheConstants.{ISSUER}
use Rattle.card_types.specs.declared.limits.TheConstants.{RECEIPT_LIMIT}
use Rattle.card_types.specs.declared.tables.Entry.{Entry}
use Rattle.card_types.specs.declared.tables.Object.{Object}
use Rattle.card_types.specs.declared.tables.Tables.{Tables}
use Rattle.card_types.specs.declared.tables.TheConstants.{ISSUER_SLOT}
use Rattle.policy_slots.proofs.NearestHolder.{slot_named}

-- what a used slot holds
pub entry_in : (entries : List (Option Entry)) (slot : ℕ) (P : Entry → Type 0) → MatchOption (thing_in entries slot) ⊥ P
    → (entry : Entry) × (thing_in entries slot ≡ Some entry) × P entry
entry_in entries slot P is = by (thing_in entries slot) refl is
  where
    by : (o : Option Entry) → thing_in entries slot ≡ o → MatchOption o ⊥ P → (entry : Entry) × (thing_in entries slot ≡ Some entry) × P entry
    by None at is = absurd is
    by (Some entry) at is = (entry, at, is)

-- who confirms a command does so for whichever reason it is delegated
pub answered_so : (delegated : Type 0) (tables : Tables) (admitted : Admitted) (receipter : Option ℕ) → FindsConfirmer delegated tables admitted receipter
    → (aids : List (List ℕ)) (changed : Registry) (done : Effect) → IsAnsweredBy receipter admitted aids changed done → IsAnswered delegated admitted aids changed no_confirmation done
answered_so delegated tables admitted None (inl (holds, none)) aids changed done is = inr (λ _. none, is)
answered_so delegated tables admitted None (inr (lacks, none)) aids changed done is = inr (λ holds. absurd (lacks holds), is)
answered_so delegated tables admitted (Some slot) (inl (holds, found)) aids changed done is = inl (holds, is)
answered_so delegated tables admitted (Some slot) (inr (lacks, none)) aids changed done is = cc

-- the receipter, where there is one
pub finds_receipter : (delegated : Type 0) (tables : Tables) (admitted : Admitted) (receipter : Option ℕ) → FindsConfirmer delegated tables admitted receipter
    → IfSome receipter (IsReceipterIn tables admitted)
finds_receipter delegated tables admitted None finds = tt
finds_receipter delegated tables admitted (Some slot) (inl (holds, found)) = found
finds_receipter delegated tables admitted (Some slot) (inr (lacks, none)) = cc

-- the value of an object of the Issuer Security Domain is the one that it was
value_before : (before after : List (Option Object))
    → ((slot : ℕ) (object : Object) → object.owner ≡ ISSUER_SLOT → (thing_in after slot ≡ Some object ↔ thing_in before slot ≡ Some object))
    → (tag : ℕ) (value : List ℕ) → IsValueIn after tag value → IsValueIn before tag value
value_before before after same tag value (inl (slot, object, at, owner, tagged, is)) = inl (slot, object, (same slot object owner).0 at, owner, tagged, is)
value_before before after same tag value (inr (none, is)) =
    inr (λ slot object at fits. none slot object ((same slot object (tagged_owner object fits)).1 at) fits, is)
  where
    tagged_owner : (object : Object) → is_tagged_in ISSUER_SLOT tag (Some object) ≡ true → object.owner ≡ ISSUER_SLOT
    tagged_owner object fits = eqb-true object.owner ISSUER_SLOT (and_parts (object.owner == ISSUER_SLOT) (object.tag == tag) fits).0

module _ (page : ℕ → List ℕ) (before after : Tables) (domain : ℕ) (receipter : Option ℕ) (admitted : Admitted) (changed : Registry)
    (has : HasChanged page before after domain receipter admitted changed) where
  abbrev said : Registry
  said = admitted.at.registry

  -- the Issuer Security Domain was in its slot
  issuer_before : (entry : Entry) × (thing_in before.entries.items ISSUER_SLOT ≡ Some entry) × (entry.aid ≡ ISSUER)
  issuer_before = entry_in before.entries.items ISSUER_SLOT (λ e. e.aid ≡ ISSUER) has.issuer

  issuer_aid : domain_aid before.entries.items ISSUER_SLOT ≡ ISSUER
  issuer_aid = domain_aid_is before.entries.items ISSUER_SLOT issuer_before.0 issuer_before.1 ∙ issuer_before.2

  value_named : (tag : ℕ) (value : List ℕ) → IsValueIn before.objects.items tag value → value ≡ value_of (object_named said ISSUER tag)
  value_named tag value (inl (slot, object, at, owner, tagged, is)) =
      let aid : domain_aid before.entries.items object.owner ≡ ISSUER = ap (domain_aid before.entries.items) owner ∙ issuer_aid in
      let there = object_in_slot page before said has.acts.says slot object at in
      let named : object_named said ISSUER tag ≡ Some (object_of before.entries.items object) =
      subst (λ (t : ℕ). object_named said ISSUER t ≡ Some (object_of before.entries.items object)) tagged
      (subst (λ (a : List ℕ). object_named said a object.tag ≡ Some (object_of before.entries.items object)) aid there) in
      is ∙ sym (ap value_of named)
  value_named tag value (inr (none, is)) =
      let unnamed = object_unnamed page before said has.acts.says has.acts.well ISSUER_SLOT issuer_before.0 tag issuer_before.1 none in
      let named : object_named said ISSUER tag ≡ None = subst (λ (a : List ℕ). object_named said a tag ≡ None) issuer_aid unnamed in
      is ∙ sym (ap value_of named)

  -- the unique data are those that the command was judged by
  unique_named : (unique : List ℕ) → IsUniqueIn after.objects.items unique → unique ≡ unique_data said
  unique_named unique is =
      let before_is = value_before before.objects.items after.objects.items has.keeps.objects in
      let first = value_named ISSUER_NUMBER is.issuer_number (before_is ISSUER_NUMBER is.issuer_number is.first) in
      let second = value_named IMAGE_NUMBER is.image_number (before_is IMAGE_NUMBER is.image_number is.second) in
      is.are ∙ (λ i. first i ++ second i)

  -- the domain in the slot does
  pub confirmed : (slot : ℕ) → receipter ≡ Some slot → (entry : Entry) → thing_in after.entries.items slot ≡ Some entry
      → (left : Tables) → Represents page left (with_receipts changed (domain_aid after.entries.items slot) (entry.receipts + 1))
      → (aids : List (List ℕ)) (body : List ℕ) → IsReceiptIn after slot (entry.receipts + 1) aids body → AnswersFor page left receipter admitted aids changed body
  confirmed slot some entry at left says aids body is =
      let receipts : IsReceipterIn before admitted slot = rw some at has.finds in
      let keeps : KeepsNumber before after slot = rw some at has.keeps.entry in
      let was = entry_in before.entries.items slot (λ e. e.receipts ≢ RECEIPT_LIMIT) receipts.below in
      let other = keeps was.0 was.1 in
      let same : Some other.0 ≡ Some entry = sym other.1 ∙ at in
      let aid : domain_aid after.entries.items slot ≡ domain_aid before.entries.items slot =
      domain_aid_is after.entries.items slot other.0 other.1 ∙ other.2 ∙ sym (domain_aid_is before.entries.items slot was.0 was.1) in
      let number : entry.receipts ≡ was.0.receipts = (let one : other.0 ≡ entry = cc in ap (λ (e : Entry). e.receipts) (sym one) ∙ other.3) in
      let key = is.holds in
      let key_at : thing_in before.keys.items key.slot ≡ Some is.key = has.keeps.keys key.slot is.key key.at in
      let unique = unique_named is.unique is.unique_is in
      rw some (
        with_receipts changed (domain_aid after.entries.items slot) (entry.receipts + 1),
        says,
        record {
          receipter = domain_aid before.entries.items slot;
          entry = entry_of before.entries.items before.files.items was.0;
          key = key_of before.entries.items is.key;
          is_receipter = record {
            above = receipts.is.above;
            key_is = has_key_named page before said has.acts.says slot 0x71 1 key.slot is.key key_at (has_from_held before.keys.items slot 0x71 1 key.slot is.key key_at key.is);
          };
          named = slot_named page before said has.acts.says slot was.0 was.1;
          registry = (λ i. with_receipts changed (aid i) (number i + 1));
          body = is.are ∙ (λ i. receipt is.key.bytes.items (number i + 1) (unique i) aids);
        },
      )
