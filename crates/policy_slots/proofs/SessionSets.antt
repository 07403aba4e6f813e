-- Which key sets a session uses, by slots and by names.
use Rattle.std.proofs.Common.{◌≡◌, ℕ, Bool, true, false, cond, ◌&&◌, List, [], ◌∷◌, Option, None, Some, refl, sym, ap, subst, ◌∙◌, inl, inr}
use Rattle.std.specs.Prelude.{find, map, is_some, ◌==◌}
use Rattle.std.specs.Option.{option_map}
use Rattle.std.proofs.lemmas.Bool.{false_from_ne_true}
use Rattle.std.proofs.lemmas.Bool.Decides.{eqb_tells}
use Rattle.card_types.proofs.DomainLines.{line_in_slots, line_named}
use Rattle.card_types.proofs.Domains.{key_owner_is_used, used_from_step}
use Rattle.card_types.proofs.KeyNames.{counters_shown}
use Rattle.card_types.proofs.LeastOfList.{none_fits}
use Rattle.card_types.proofs.Lines.{one_line}
use Rattle.card_types.proofs.SameAid.{aid_same_itself}
use Rattle.policy_slots.specs.Prelude.{IsFirstAbove, IsLeast, IsLine, NoneAbove, NoneFits, OwnsSets, Represents, UsesSet, Well, counter_of, domain_aid, domain_slot, has_set, has_set_in, holds_counter_of, keeps_counter, keeps_counter_of, keeps_counter_with, lowest_counter, same_aid, set_counter, thing_in, version_order}
use Rattle.card_types.specs.Registry as registry
use Rattle.card_types.specs.declared.tables.Entry.{Entry}
use Rattle.card_types.specs.declared.tables.KeyRec.{KeyRec}
use Rattle.card_types.specs.declared.tables.Tables.{Tables}
use Rattle.domain_tree.proofs.OnLine.{first_on_line, none_on_line}
use Rattle.policy_slots.proofs.AnySlot.{passing_slot, slot_passes}
use Rattle.policy_slots.proofs.OwnKeys.{lowest_named, lowest_unnamed, numbered_named, numbered_unnamed}

module _ (owner : ℕ) where
  pub none_held : (keys : List (Option KeyRec)) → has_set_in keys owner ≡ false → NoneFits (keeps_counter_of owner) keys
  none_held keys none slot key at keeps = (let some = slot_passes (holds_counter_of owner) keys slot key at keeps in let clash = sym some ∙ none in cc)

  pub no_set : (keys : List (Option KeyRec)) → NoneFits (keeps_counter_of owner) keys → has_set_in keys owner ≡ false
  no_set keys none =
      false_from_ne_true (has_set_in keys owner) (λ some. (let at = passing_slot (holds_counter_of owner) refl keys some in none at.0 at.1 at.2 at.3))

  pub a_set : (keys : List (Option KeyRec)) → has_set_in keys owner ≡ true
      → (slot : ℕ) × (key : KeyRec) × (thing_in keys slot ≡ Some key) × (keeps_counter_of owner key ≡ true)
  a_set keys has = passing_slot (holds_counter_of owner) refl keys has

-- a domain with a key set has a key that keeps a counter
pub not_none : {P : Type 0} (owner : ℕ) (keys : List (Option KeyRec)) → has_set_in keys owner ≡ true → NoneFits (keeps_counter_of owner) keys → P
not_none owner keys some none = (let clash = sym some ∙ no_set owner keys none in cc)

some_of : {A : Type 0} (a b : A) → Some a ≡ Some b → a ≡ b
some_of a b same = cc

owner_is : (n owner : ℕ) → (n == owner) ≡ true → n ≡ owner
owner_is n owner is = elim (eqb_tells n owner) [
  | inl same ↦ same.1
  | inr other ↦ (let clash = sym other.0 ∙ is in cc)
]

second_true : (a b : Bool) → (a && b) ≡ true → b ≡ true
second_true true b is = is
second_true false b is = cc

first_true : (a b : Bool) → (a && b) ≡ true → a ≡ true
first_true true b is = refl
first_true false b is = cc

-- one domain owns the key sets that a domain uses
pub owns_once : (said : registry.Registry) (domain a b : List ℕ) → OwnsSets said domain a → OwnsSets said domain b → a ≡ b
owns_once said domain a b one other =
    let lines = one_line (registry.domain_of said) domain one.line other.line one.is_line other.is_line in
    some_of a b (sym one.first ∙ ap (find (has_set said)) lines ∙ other.first)

set_is : (said : registry.Registry) (owner : List ℕ) (version : ℕ) → (version ≡ 0 → ⊥)
    → set_counter said owner version ≡ find (λ counter. same_aid counter.owner owner && counter.version == version) said.counters
set_is said owner version some = elim (eqb_tells version 0) [
  | inl none ↦ absurd (some none.1)
  | inr other ↦ (let is = other.0 in rw is refl)
]

module _ (page : ℕ → List ℕ) (tables : Tables) (said : registry.Registry) (says : Represents page tables said) (well : Well said) where
  abbrev aid : ℕ → List ℕ
  aid slot = domain_aid tables.entries.items slot

  has_by : (slot : ℕ) (entry : Entry) → thing_in tables.entries.items slot ≡ Some entry → (b : Bool) → has_set_in tables.keys.items slot ≡ b
      → has_set said (aid slot) ≡ b
  has_by slot entry at false none = ap is_some (lowest_unnamed page tables said says well slot entry at (none_held slot tables.keys.items none))
  has_by slot entry at true some = by (lowest_counter said (aid slot)) refl
    where
      by : (o : Option registry.Counter) → lowest_counter said (aid slot) ≡ o → has_set said (aid slot) ≡ true
      by (Some counter) is = ap is_some is
      by None is =
          (let none : NoneFits (keeps_counter_of slot) tables.keys.items = λ other key here keeps.
          (let kept = first_true (keeps_counter key) (key.owner == slot) keeps in
          let own = owner_is key.owner slot (second_true (keeps_counter key) (key.owner == slot) keeps) in
          let among = (counters_shown page tables said says).there other key here kept in
          none_fits (λ counter. same_aid counter.owner (aid slot)) said.counters is (counter_of tables.entries.items key) among
          (ap (λ (n : ℕ). same_aid (aid n) (aid slot)) own ∙ aid_same_itself (aid slot))) in
          let clash = sym some ∙ no_set slot tables.keys.items none in cc)

  -- a domain has a key set by its slot exactly where it has one by its AID
  pub has_is : (slot : ℕ) (entry : Entry) → thing_in tables.entries.items slot ≡ Some entry → has_set said (aid slot) ≡ has_set_in tables.keys.items slot
  has_is slot entry at = has_by slot entry at (has_set_in tables.keys.items slot) refl

  found_named : (x : ℕ) (rest : List ℕ) (a b : Bool) → a ≡ b
      → find (has_set said) (map aid rest) ≡ option_map aid (find (has_set_in tables.keys.items) rest)
      → cond a (Some (aid x)) (find (has_set said) (map aid rest)) ≡ option_map aid (cond b (Some x) (find (has_set_in tables.keys.items) rest))
  found_named x rest true true same more = refl
  found_named x rest false false same more = more
  found_named x rest true false same more = cc
  found_named x rest false true same more = cc

  -- what is found on a line by slots is what is found by names
  line_found : (from : ℕ) (line : List ℕ) → IsLine (domain_slot tables.entries.items) from line
      → find (has_set said) (map aid line) ≡ option_map aid (find (has_set_in tables.keys.items) line)
  line_found from [] is = absurd is
  line_found from (x ∷ []) is =
      let used = used_from_step tables.entries.items from from is.1 in
      found_named x [] (has_set said (aid x)) (has_set_in tables.keys.items x)
      (subst (λ (n : ℕ). has_set said (aid n) ≡ has_set_in tables.keys.items n) (sym is.0) (has_is from used.0 used.1)) refl
  line_found from (x ∷ next ∷ rest) is =
      let used = used_from_step tables.entries.items from next is.2 in
      found_named x (next ∷ rest) (has_set said (aid x)) (has_set_in tables.keys.items x)
      (subst (λ (n : ℕ). has_set said (aid n) ≡ has_set_in tables.keys.items n) (sym is.0) (has_is from used.0 used.1))
      (line_found next (next ∷ rest) is.3)

  own_first : (from : ℕ) (line : List ℕ) → IsLine (domain_slot tables.entries.items) from line → has_set_in tables.keys.items from ≡ true
      → find (has_set_in tables.keys.items) line ≡ Some from
  own_first from [] is has = absurd is
  own_first from (x ∷ []) is has = ap (λ b. cond b (Some x) None) (ap (has_set_in tables.keys.items) is.0 ∙ has) ∙ ap Some is.0
  own_first from (x ∷ next ∷ rest) is has =
      ap (λ b. cond b (Some x) (find (has_set_in tables.keys.items) (next ∷ rest))) (ap (has_set_in tables.keys.items) is.0 ∙ has) ∙ ap Some is.0

  module _ (domain : ℕ) (entry : Entry) (at : thing_in tables.entries.items domain ≡ Some entry) where
    found_on : (slots : List ℕ) (owner : ℕ) → IsLine (domain_slot tables.entries.items) domain slots
        → find (has_set_in tables.keys.items) slots ≡ Some owner → OwnsSets said (aid domain) (aid owner)
    found_on slots owner line found = record {
      line = map aid slots;
      is_line = line_named page tables said says domain slots line;
      first = line_found domain slots line ∙ ap (option_map aid) found;
    }

    -- the domain's own sets are used
    pub owns_own : has_set_in tables.keys.items domain ≡ true → OwnsSets said (aid domain) (aid domain)
    owns_own has =
        let line = line_in_slots page tables said says well domain entry at in
        found_on line.0 domain line.1 (own_first domain line.0 line.1 has)

    -- the sets of the nearest domain above are used
    pub owns_above : (owner : ℕ) → has_set_in tables.keys.items domain ≡ false
        → IsFirstAbove (domain_slot tables.entries.items) (has_set_in tables.keys.items) domain owner → OwnsSets said (aid domain) (aid owner)
    owns_above owner none above =
        let line = line_in_slots page tables said says well domain entry at in
        let found = first_on_line (domain_slot tables.entries.items) (has_set_in tables.keys.items) domain line.0 owner line.1 none above in
        found_on line.0 owner line.1 found

    -- there are no sets to use
    pub owns_none : has_set_in tables.keys.items domain ≡ false → NoneAbove (domain_slot tables.entries.items) (has_set_in tables.keys.items) domain
        → (owner : List ℕ) → OwnsSets said (aid domain) owner → ⊥
    owns_none none above owner owns =
        let line = line_in_slots page tables said says well domain entry at in
        let found = none_on_line (domain_slot tables.entries.items) (has_set_in tables.keys.items) domain line.0 line.1 none above in
        let named = line_named page tables said says domain line.0 line.1 in
        let same = one_line (registry.domain_of said) (aid domain) (map aid line.0) owns.line named owns.is_line in
        let clash = sym (line_found domain line.0 line.1 ∙ ap (option_map aid) found) ∙ ap (find (has_set said)) same ∙ owns.first in
        cc

    owned_by : (owner : ℕ) (key : KeyRec) → keeps_counter_of owner key ≡ true → key.owner ≡ owner
    owned_by owner key keeps = owner_is key.owner owner (second_true (keeps_counter key) (key.owner == owner) keeps)

    -- the domain in a slot is used where a key is its
    used_by : (owner slot : ℕ) (key : KeyRec) → thing_in tables.keys.items slot ≡ Some key → keeps_counter_of owner key ≡ true
        → (e : Entry) × (thing_in tables.entries.items owner ≡ Some e)
    used_by owner slot key here keeps =
        let used = key_owner_is_used page tables said says well slot key here in
        (used.0, subst (λ (n : ℕ). thing_in tables.entries.items n ≡ Some used.0) (owned_by owner key keeps) used.1)

    module _ (owner : ℕ) (owns : OwnsSets said (aid domain) (aid owner)) where
      owns_key : (key : KeyRec) → keeps_counter_of owner key ≡ true → OwnsSets said (aid domain) (aid key.owner)
      owns_key key keeps = subst (λ (n : ℕ). OwnsSets said (aid domain) (aid n)) (sym (owned_by owner key keeps)) owns

      -- the lowest key set of the owner is the one that 00 asks for
      pub uses_lowest : (slot : ℕ) (key : KeyRec) → IsLeast (keeps_counter_of owner) version_order tables.keys.items slot key
          → UsesSet said (aid domain) 0 (aid key.owner) (counter_of tables.entries.items key)
      uses_lowest slot key least =
          let used = used_by owner slot key least.at least.fitting in
          let own = owned_by owner key least.fitting in (
            owns_key key least.fitting,
            subst (λ (n : ℕ). lowest_counter said (aid n) ≡ Some (counter_of tables.entries.items key)) (sym own)
                (lowest_named page tables said says well owner used.0 used.1 slot key least),
          )

      -- the key set with a key version number is the one that this number asks for
      pub uses_numbered : (version slot : ℕ) (key : KeyRec) → (version ≡ 0 → ⊥)
          → IsLeast (keeps_counter_with owner version) version_order tables.keys.items slot key
          → UsesSet said (aid domain) version (aid key.owner) (counter_of tables.entries.items key)
      uses_numbered version slot key some least =
          let keeps = first_true (keeps_counter_of owner key) (key.version == version) least.fitting in
          let used = used_by owner slot key least.at keeps in
          let own = owned_by owner key keeps in (
            owns_key key keeps,
            subst (λ (n : ℕ). set_counter said (aid n) version ≡ Some (counter_of tables.entries.items key)) (sym own)
                (set_is said (aid owner) version some ∙ numbered_named page tables said says well owner used.0 used.1 version slot key least),
          )

      pub uses_no_number : (version : ℕ) → (version ≡ 0 → ⊥) → has_set_in tables.keys.items owner ≡ true
          → NoneFits (keeps_counter_with owner version) tables.keys.items
          → (other : List ℕ) (counter : registry.Counter) → UsesSet said (aid domain) version other counter → ⊥
      uses_no_number version some has none other counter uses =
          let key = a_set owner tables.keys.items has in
          let used = used_by owner key.0 key.1 key.2 key.3 in
          let owner_same = owns_once said (aid domain) other (aid owner) uses.0 owns in
          let clash = sym (set_is said (aid owner) version some ∙ numbered_unnamed page tables said says well owner used.0 used.1 version none)
          ∙ subst (λ (o : List ℕ). set_counter said o version ≡ Some counter) owner_same uses.1 in
          cc
