-- What the tables of a card say while data objects are put, one after the other.
use Rattle.std.proofs.Common.{◌≡◌, inl, inr, ℕ, ◌+◌, ◌≤◌, ◌==◌, true, List, [], ◌∷◌, length, Option, None, Some, refl, ap, sym, subst, ◌∙◌, arith}
use Rattle.std.specs.Prelude.{All, MatchOption, map, filter, find, not}
use Rattle.std.specs.Option.{option_map}
use Rattle.std.proofs.lemmas.Bool.{and_parts, eqb-true}
use Rattle.std.proofs.lemmas.List.{length-map, length-set}
use Rattle.std.proofs.lemmas.List.Elements.{All-cons, All-filter, All-head, All-tail}
use Rattle.std.proofs.lemmas.List.Sorted.{All-permutation, IsPermutation-refl, length_permutation}
use Rattle.card_core.specs.Prelude.{AreCards, Element, IsArranged, IsChanged, IsDomainNamed, IsObject, IsWellObject, PutsObject, Represents, SetsObject, Well, domain_aid, has_object_in, is_domain_held, is_domain_in, is_object_of, is_tagged_in, new_tags, object_of, object_order, object_with, thing_in, things_in, with_data, with_object, with_objects}
use Rattle.card_types.proofs.ChangedKeys.{object_changed}
use Rattle.card_types.proofs.Domains.{domain_aid_is}
use Rattle.card_types.proofs.EntryNames.{entry_in_slot}
use Rattle.card_types.proofs.ObjectNames.{object_in_slot}
use Rattle.card_types.specs.Registry as registry
use Rattle.card_types.specs.declared.limits.TheConstants.{OBJECTS}
use Rattle.card_types.specs.declared.tables.Entry.{Entry}
use Rattle.card_types.specs.declared.tables.Object.{Object}
use Rattle.card_types.specs.declared.tables.Tables.{Tables}
use Rattle.policy_machine.proofs.ObjectStored.{none_there, object_from, one_stored}
use Rattle.policy_machine.proofs.DataWell.{data_well}
use Rattle.policy_slots.proofs.ObjectsNamed.{has_alike}
use Rattle.card_core.proofs.ObjectSlots.{room_after}
use Rattle.card_types.specs.declared.tables.KeyRec.{KeyRec}
use Rattle.card_core.proofs.Cards.{cards_after}

-- all but the data objects is as it was
pub record SameButObjects (before now : Tables) : Type 0 where
  pub life : now.life ≡ before.life
  pub entries : now.entries.items ≡ before.entries.items
  pub files : now.files.items ≡ before.files.items
  pub keys : now.keys.items ≡ before.keys.items
  pub objects : length now.objects.items ≡ length before.objects.items

pub all_same : (tables : Tables) → SameButObjects tables tables
all_same tables = record { life = refl; entries = refl; files = refl; keys = refl; objects = refl }

pub same_after : (before now after : Tables) (slot : ℕ) (object : Option Object) → SameButObjects before now → SetsObject now after slot object → SameButObjects before after
same_after before now after slot object same set = record {
  life = set.life ∙ same.life;
  entries = set.entries ∙ same.entries;
  files = set.files ∙ same.files;
  keys = set.keys ∙ same.keys;
  objects = ap (λ (slots : List (Option Object)). length slots) set.objects ∙ length-set now.objects.items slot object ∙ same.objects;
}

-- the registry that the tables say then: what is still to be put makes of its data objects what all makes of those before
pub record SaysPart (page : ℕ → List ℕ) (now : Tables) (said : registry.Registry) (owner : List ℕ) (elements behind : List Element) : Type 0 where
  pub things : List registry.Object
  pub objects : List registry.Object
  pub arranged : IsArranged object_order things objects
  pub each : All (IsWellObject said) things
  pub says : Represents page now (with_data said objects)
  pub rest : with_objects owner things behind ≡ with_objects owner said.objects elements

-- some of the elements are put, and these are after them
pub record ArePut (before now : Tables) (domain : ℕ) (elements behind : List Element) : Type 0 where
  pub forms : All (λ element. IsObject element.tag (length element.value)) behind
  pub room : length (things_in now.objects.items) + new_tags (has_object_in now.objects.items domain) behind ≤ OBJECTS
  pub shows : (page : ℕ → List ℕ) (said : registry.Registry) → Represents page before said → Well said
      → SaysPart page now said (domain_aid before.entries.items domain) elements behind

-- at first none is
pub none_put : (tables : Tables) (domain : ℕ) (elements : List Element) → All (λ element. IsObject element.tag (length element.value)) elements
    → length (things_in tables.objects.items) + new_tags (has_object_in tables.objects.items domain) elements ≤ OBJECTS → ArePut tables tables domain elements elements
none_put tables domain elements forms room = record {
  forms = forms;
  room = room;
  shows = λ page said says well. record {
    things = said.objects;
    objects = said.objects;
    arranged = record { ascending = says.ascending.objects; same = IsPermutation-refl said.objects };
    each = well.objects;
    says = says;
    rest = refl;
  };
}

-- the registry is one that a card may have
pub part_well : (page : ℕ → List ℕ) (now : Tables) (said : registry.Registry) (owner : List ℕ) (elements behind : List Element) → Well said
    → length (things_in now.objects.items) ≤ OBJECTS → (part : SaysPart page now said owner elements behind) → Well (with_data said part.objects)
part_well page now said owner elements behind well few part =
    let number = length_permutation (map (object_of now.entries.items) (things_in now.objects.items)) part.objects part.says.objects in
    data_well said part.objects well (omega (arith, number, few, length-map (things_in now.objects.items) (object_of now.entries.items)))
    (All-permutation (IsWellObject said) part.things part.objects part.arranged.same part.each)

-- the entry of a domain in its slot
pub domain_entry : (tables : Tables) (domain : ℕ) → is_domain_in tables.entries.items domain ≡ true
    → (entry : Entry) × (thing_in tables.entries.items domain ≡ Some entry) × (is_domain_held (Some entry) ≡ true)
domain_entry tables domain is = by (thing_in tables.entries.items domain) refl is
  where
    by : (o : Option Entry) → thing_in tables.entries.items domain ≡ o → is_domain_held o ≡ true
        → (entry : Entry) × (thing_in tables.entries.items domain ≡ Some entry) × (is_domain_held (Some entry) ≡ true)
    by None at is = cc
    by (Some entry) at is = (entry, at, is)

domain_named : (page : ℕ → List ℕ) (tables : Tables) (said : registry.Registry) → Represents page tables said → (domain : ℕ) → is_domain_in tables.entries.items domain ≡ true
    → IsDomainNamed said (domain_aid tables.entries.items domain)
domain_named page tables said says domain is =
    let entry = domain_entry tables domain is in
    let named = entry_in_slot page tables said says domain entry.0 entry.1 in
    subst (IsDomainNamed said) (sym (domain_aid_is tables.entries.items domain entry.0 entry.1))
    (subst (λ (o : Option registry.Entry). MatchOption o ⊥ (λ e. registry.is_domain e ≡ true)) (sym named) entry.2)

module _ (before now after : Tables) (domain : ℕ) (is_domain : is_domain_in before.entries.items domain ≡ true) (same : SameButObjects before now)
    (all : length before.objects.items ≡ OBJECTS) (element : Element) (puts : PutsObject now after domain element.tag element.value) where
  -- the slot shows the object of that tag, if there is one
  shown_before : (page : ℕ → List ℕ) (said : registry.Registry) → Represents page now said → Well said
      → option_map (object_of now.entries.items) (thing_in now.objects.items puts.slot) ≡ find (is_object_of (domain_aid now.entries.items domain) element.tag) said.objects
  shown_before page said says well = by (thing_in now.objects.items puts.slot) refl
    where
      by : (o : Option Object) → thing_in now.objects.items puts.slot ≡ o
          → option_map (object_of now.entries.items) o ≡ find (is_object_of (domain_aid now.entries.items domain) element.tag) said.objects
      by None at = elim puts.is_for.takes [
        | inl tagged ↦ (let clash = ap (is_tagged_in domain element.tag) (sym at) ∙ tagged in cc)
        | inr free ↦
            (let entry = domain_entry now domain (subst (λ (entries : List (Option Entry)). is_domain_in entries domain ≡ true) (sym same.entries) is_domain) in
            sym (none_there (is_object_of (domain_aid now.entries.items domain) element.tag) said.objects
            (has_alike page now said says well domain entry.0 entry.1 element.tag ∙ free.1)))
      ]
      by (Some object) at = elim puts.is_for.takes [
        | inl tagged ↦
            (let parts = and_parts (object.owner == domain) (object.tag == element.tag) (ap (is_tagged_in domain element.tag) (sym at) ∙ tagged) in
            let owners = eqb-true object.owner domain parts.0 in
            let tags = eqb-true object.tag element.tag parts.1 in
            sym ((λ i. find (is_object_of (domain_aid now.entries.items (sym owners i)) (sym tags i)) said.objects) ∙ object_in_slot page now said says puts.slot object at))
        | inr free ↦ (let clash = sym at ∙ free.0 in cc)
      ]

  module _ (elements behind : List Element) (put : ArePut before now domain elements (element ∷ behind)) where
    few : length (things_in now.objects.items) ≤ OBJECTS
    few = (let room = put.room in omega (arith, room))

    -- the tables say one object more
    says_after : (page : ℕ → List ℕ) (said : registry.Registry) → Represents page before said → Well said
        → SaysPart page after said (domain_aid before.entries.items domain) elements behind
    says_after page said told well =
        let part = put.shows page said told well in
        let owner = domain_aid before.entries.items domain in
        let one = one_stored owner part.things part.objects element part.arranged in
        let shown = shown_before page (with_data said part.objects) part.says (part_well page now said owner elements (element ∷ behind) well few part) in
        let owners : domain_aid now.entries.items domain ≡ owner = ap (λ (entries : List (Option Entry)). domain_aid entries domain) same.entries in
        let gone = shown ∙ ap (λ (o : List ℕ). find (is_object_of o element.tag) part.objects) owners in
        let new : option_map (object_of now.entries.items) (Some (object_with domain element.tag element.value)) ≡ Some (object_from owner element) =
        ap (λ (o : List ℕ). Some (object_from o element)) owners in
        let changed : IsChanged object_order (option_map (object_of now.entries.items) (thing_in now.objects.items puts.slot))
        (option_map (object_of now.entries.items) (Some (object_with domain element.tag element.value))) part.objects one.after =
        subst (λ (g : Option registry.Object). IsChanged object_order g (option_map (object_of now.entries.items) (Some (object_with domain element.tag element.value))) part.objects one.after)
        (sym gone) (subst (λ (n : Option registry.Object). IsChanged object_order (find (is_object_of owner element.tag) part.objects) n part.objects one.after) (sym new) one.changed) in
        let low = puts.is_for.within in
        let long = same.objects in
        record {
          things = with_object owner part.things element;
          objects = one.after;
          arranged = one.is;
          each = All-cons (IsWellObject said) (object_from owner element) (filter (λ object. not (is_object_of owner element.tag object)) part.things)
              (record {
                owner = domain_named page before said told domain is_domain;
                form = All-head (λ (e : Element). IsObject e.tag (length e.value)) element behind put.forms;
              })
              (All-filter (λ object. not (is_object_of owner element.tag object)) (IsWellObject said) part.things part.each);
          says = object_changed page now after (with_data said part.objects) part.says puts.slot (Some (object_with domain element.tag element.value)) one.after
              (omega (arith, low, long, all)) puts.set changed;
          rest = part.rest;
        }

    pub put_after : ArePut before after domain elements behind
    put_after = record {
      forms = All-tail (λ (e : Element). IsObject e.tag (length e.value)) element behind put.forms;
      room = subst (λ (slots : List (Option Object)). length (things_in slots) + new_tags (has_object_in slots domain) behind ≤ OBJECTS) (sym puts.set.objects)
          (room_after now.objects.items domain element behind puts.slot (same.objects ∙ all) puts.is_for put.room);
      shows = says_after;
    }

-- in the end they are a card's
pub are_cards_after : (before now : Tables) (domain : ℕ) (elements : List Element) → SameButObjects before now → ArePut before now domain elements [] → AreCards before → AreCards now
are_cards_after before now domain elements same put =
    cards_after before now same.entries same.files (ap (λ (slots : List (Option KeyRec)). length slots) same.keys) same.objects
    (λ page said says well.
    (let part = put.shows page said says well in
    let room = put.room in
    (with_data said part.objects, part.says, part_well page now said (domain_aid before.entries.items domain) elements [] well (omega (arith, room)) part)))

-- a data object has 120 bytes at most
pub at_most : (tag size : ℕ) → IsObject tag size → size ≤ 120
at_most tag size (inl (which, least, most)) = omega (arith, most)
at_most tag size (inr (inl (which, exact))) = omega (arith, exact)
at_most tag size (inr (inr (which, least, most))) = most
