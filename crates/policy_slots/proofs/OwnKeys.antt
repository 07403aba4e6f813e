-- The keys of a domain in their slots, and those that the registry has by names.
use Rattle.std.proofs.Common.{◌≡◌, ℕ, Bool, true, false, ◌&&◌, List, [], ◌∷◌, Option, None, Some, refl, sym, ap, subst, ◌∙◌, inl, inr}
use Rattle.std.specs.Prelude.{cond, find, filter, ◌==◌}
use Rattle.std.specs.Cmp.{both_ways}
use Rattle.std.specs.Ordering.{is_lt, nat_cmp, ordering_then}
use Rattle.std.specs.declared.cmp.Ordering.{Ordering}
use Rattle.std.specs.declared.cmp.Ordering.TheVariants.{Less, Equal, Greater}
use Rattle.std.proofs.lemmas.Bool.Decides.{eqb_tells}
use Rattle.card_types.proofs.Domains.{key_owner_is_used, same_domain}
use Rattle.card_types.proofs.FilterByFinds.{filter_by_finds}
use Rattle.card_types.proofs.KeyNames.{key_order_total, least_counter, least_key, no_counter, no_key}
use Rattle.card_types.proofs.SameAid.{aid_equal_itself, aid_same_itself, same_aid_decides}
use Rattle.policy_slots.specs.Prelude.{IsLeast, NoneFits, Represents, Well, aid_order, counter_of, domain_aid, follows, is_past, keeps_counter, keeps_counter_of, keeps_counter_with, key_of, key_order, lowest_counter, name_order, same_aid, thing_in, version_order}
use Rattle.card_types.specs.Registry as registry
use Rattle.card_types.specs.declared.tables.Entry.{Entry}
use Rattle.card_types.specs.declared.tables.KeyRec.{KeyRec}
use Rattle.card_types.specs.declared.tables.Tables.{Tables}
use Rattle.policy_slots.specs.declared.key_order.KeyName.{KeyName}

and_true : (a b : Bool) → (a && b) ≡ true → (a ≡ true) × (b ≡ true)
and_true true b is = (refl, is)
and_true false b is = cc

and_is : (a b : Bool) → a ≡ true → b ≡ true → (a && b) ≡ true
and_is true b first second = second
and_is false b first second = cc

less_is : (o : Ordering) → is_lt o ≡ true → o ≡ Less
less_is Less is = refl
less_is Equal is = cc
less_is Greater is = cc

-- past the last key, if there is one
abbrev pub past_key : Option registry.Key → registry.Key → Bool
past_key None key = true
past_key (Some last) key = is_lt (key_order last key)

-- a key of the domain past the last one
abbrev pub own_past : List ℕ → Option registry.Key → registry.Key → Bool
own_past owner last key = same_aid key.owner owner && past_key last key

-- the name is that of the last key, which is the domain's
abbrev pub IsAfter : List ℕ → Option KeyName → Option registry.Key → Type 0
IsAfter owner None None = Unit {0}
IsAfter owner None (Some last) = ⊥
IsAfter owner (Some name) None = ⊥
IsAfter owner (Some name) (Some last) = (last.owner ≡ owner) × (last.version ≡ name.version) × (last.identifier ≡ name.identifier)

-- keys of one owner are in the order of their versions and identifiers
one_owner : (a b : registry.Key) (owner : List ℕ) → a.owner ≡ owner → b.owner ≡ owner
    → key_order a b ≡ ordering_then (nat_cmp a.version b.version) (nat_cmp a.identifier b.identifier)
one_owner a b owner first second =
    let equal : aid_order a.owner b.owner ≡ Equal = ap (aid_order a.owner) (second ∙ sym first) ∙ aid_equal_itself a.owner in
    ap (λ (o : Ordering). ordering_then o (ordering_then (nat_cmp a.version b.version) (nat_cmp a.identifier b.identifier))) equal

-- what is after a key that was found
after_found : (ks : List registry.Key) (owner : List ℕ) (last : Option registry.Key) (key : registry.Key)
    → past_key last key ≡ true → (x : registry.Key) → (own_past owner last x && is_lt (key_order key x)) ≡ own_past owner (Some key) x
after_found ks owner None key past x = drop_true (same_aid x.owner owner) (is_lt (key_order key x))
  where
    drop_true : (a b : Bool) → ((a && true) && b) ≡ (a && b)
    drop_true true b = refl
    drop_true false b = refl
after_found ks owner (Some last) key past x =
    both_ways (own_past owner (Some last) x && is_lt (key_order key x)) (own_past owner (Some key) x)
    (λ all. (let parts = and_true (own_past owner (Some last) x) (is_lt (key_order key x)) all in
    let own = and_true (same_aid x.owner owner) (is_lt (key_order last x)) parts.0 in
    and_is (same_aid x.owner owner) (is_lt (key_order key x)) own.0 parts.1))
    (λ some. (let parts = and_true (same_aid x.owner owner) (is_lt (key_order key x)) some in
    let further = key_order_total.trans last key x (less_is (key_order last key) past) (less_is (key_order key x) parts.1) in
    and_is (own_past owner (Some last) x) (is_lt (key_order key x))
    (and_is (same_aid x.owner owner) (is_lt (key_order last x)) parts.0 (ap is_lt further)) parts.1))

-- a key that was found passes the test
found_passes : (test : registry.Key → Bool) (ks : List registry.Key) (key : registry.Key) → find test ks ≡ Some key → test key ≡ true
found_passes test [] key found = cc
found_passes test (first ∷ ks) key found = by (test first) refl found (λ later. found_passes test ks key later)
  where
    by : (is : Bool) → test first ≡ is → cond is (Some first) (find test ks) ≡ Some key → (find test ks ≡ Some key → test key ≡ true) → test key ≡ true
    by true is here later = (let same : first ≡ key = cc in subst (λ (k : registry.Key). test k ≡ true) same is)
    by false is here later = later here

module _ (page : ℕ → List ℕ) (tables : Tables) (said : registry.Registry) (says : Represents page tables said) (well : Well said)
    (owner : ℕ) (domain : Entry) (at : thing_in tables.entries.items owner ≡ Some domain) where
  abbrev aid : List ℕ
  aid = domain_aid tables.entries.items owner

  abbrev named : KeyRec → registry.Key
  named key = key_of tables.entries.items key

  -- a key is the domain's by its slot exactly where it is by its AID
  pub own_is : (slot : ℕ) (key : KeyRec) → thing_in tables.keys.items slot ≡ Some key → (key.owner == owner) ≡ same_aid (named key).owner aid
  own_is slot key here = both_ways (key.owner == owner) (same_aid (named key).owner aid)
      (λ is. (let same : key.owner ≡ owner = equal_is key.owner is in
      ap (λ (n : ℕ). same_aid (domain_aid tables.entries.items n) aid) same ∙ aid_same_itself aid))
      (λ is. (let used = key_owner_is_used page tables said says well slot key here in
      let same = same_domain page tables said says key.owner owner used.0 domain used.1 at ((same_aid_decides (named key).owner aid).0 is) in
      is_equal key.owner same))
    where
      equal_is : (n : ℕ) → (n == owner) ≡ true → n ≡ owner
      equal_is n is = elim (eqb_tells n owner) [
        | inl same ↦ same.1
        | inr other ↦ (let clash = sym other.0 ∙ is in cc)
      ]

      is_equal : (n : ℕ) → n ≡ owner → (n == owner) ≡ true
      is_equal n same = elim (eqb_tells n owner) [
        | inl equal ↦ equal.0
        | inr other ↦ absurd (other.1 same)
      ]

  own_aid : (key : registry.Key) → same_aid key.owner aid ≡ true → key.owner ≡ aid
  own_aid key own = (same_aid_decides key.owner aid).0 own

  past_is : (after : Option KeyName) (last : Option registry.Key) (key : KeyRec) → IsAfter aid after last → (named key).owner ≡ aid
      → is_past after key ≡ past_key last (named key)
  past_is None None key is own = refl
  past_is None (Some last) key is own = absurd is
  past_is (Some name) None key is own = absurd is
  past_is (Some name) (Some last) key is own =
      let order = one_owner last (named key) aid is.0 own in
      ap is_lt ((λ i. ordering_then (nat_cmp (sym is.1 i) key.version) (nat_cmp (sym is.2 i) key.identifier)) ∙ sym order)

  follows_is : (after : Option KeyName) (last : Option registry.Key) (slot : ℕ) (key : KeyRec) → IsAfter aid after last
      → thing_in tables.keys.items slot ≡ Some key → follows owner after key ≡ own_past aid last (named key)
  follows_is after last slot key is here =
      both_ways (follows owner after key) (own_past aid last (named key))
      (λ all. (let parts = and_true (key.owner == owner) (is_past after key) all in
      let own = sym (own_is slot key here) ∙ parts.0 in
      and_is (same_aid (named key).owner aid) (past_key last (named key)) own (sym (past_is after last key is (own_aid (named key) own)) ∙ parts.1)))
      (λ all. (let parts = and_true (same_aid (named key).owner aid) (past_key last (named key)) all in
      and_is (key.owner == owner) (is_past after key) (own_is slot key here ∙ parts.0) (past_is after last key is (own_aid (named key) parts.0) ∙ parts.1)))

  -- the next key by slots is the next by names
  pub next_named : (after : Option KeyName) (last : Option registry.Key) (slot : ℕ) (key : KeyRec) → IsAfter aid after last
      → IsLeast (follows owner after) name_order tables.keys.items slot key → find (own_past aid last) said.keys ≡ Some (key_of tables.entries.items key)
  next_named after last slot key is least =
      let fits = sym (follows_is after last slot key is least.at) ∙ least.fitting in
      let own = own_aid (named key) (and_true (same_aid (named key).owner aid) (past_key last (named key)) fits).0 in
      least_key page tables said says (own_past aid last) slot key (record {
        at = least.at;
        fitting = fits;
        least = λ other another here other_fits above.
            let other_own = own_aid (named another) (and_true (same_aid (named another).owner aid) (past_key last (named another)) other_fits).0 in
            least.least other another here (follows_is after last other another is here ∙ other_fits)
            (sym (one_owner (named key) (named another) aid own other_own) ∙ above);
      })

  pub none_named : (after : Option KeyName) (last : Option registry.Key) → IsAfter aid after last
      → NoneFits (follows owner after) tables.keys.items → find (own_past aid last) said.keys ≡ None
  none_named after last is none =
      no_key page tables said says (own_past aid last) (λ slot key here fits. none slot key here (follows_is after last slot key is here ∙ fits))

  -- all keys of the domain, one after another
  pub keys_from_next : (last : Option registry.Key) (key : registry.Key) → find (own_past aid last) said.keys ≡ Some key
      → filter (own_past aid last) said.keys ≡ key ∷ filter (own_past aid (Some key)) said.keys
  keys_from_next last key found =
      let passes = found_passes (own_past aid last) said.keys key found in
      let past = (and_true (same_aid key.owner aid) (past_key last key) passes).1 in
      let chain = rw found at (filter_by_finds (own_past aid last) said.keys says.ascending.keys) in
      chain ∙ ap (λ (test : registry.Key → Bool). key ∷ filter test said.keys) (λ i x. after_found said.keys aid last key past x i)

  pub keys_from_none : (last : Option registry.Key) → find (own_past aid last) said.keys ≡ None → filter (own_past aid last) said.keys ≡ []
  keys_from_none last found = rw found at (filter_by_finds (own_past aid last) said.keys says.ascending.keys)

  pub keys_are : registry.keys_of said aid ≡ filter (own_past aid None) said.keys
  keys_are = ap (λ (test : registry.Key → Bool). filter test said.keys) (λ i x. with_true (same_aid x.owner aid) i)
    where
      with_true : (a : Bool) → a ≡ (a && true)
      with_true true = refl
      with_true false = refl

  -- the key that keeps the lowest counter
  counts_is : (slot : ℕ) (key : KeyRec) → thing_in tables.keys.items slot ≡ Some key
      → keeps_counter_of owner key ≡ (keeps_counter key && same_aid (counter_of tables.entries.items key).owner aid)
  counts_is slot key here = ap (λ (b : Bool). keeps_counter key && b) (own_is slot key here)

  pub lowest_named : (slot : ℕ) (key : KeyRec) → IsLeast (keeps_counter_of owner) version_order tables.keys.items slot key
      → lowest_counter said aid ≡ Some (counter_of tables.entries.items key)
  lowest_named slot key least =
      let fits = sym (counts_is slot key least.at) ∙ least.fitting in
      let own = (same_aid_decides (domain_aid tables.entries.items key.owner) aid).0 (and_true (keeps_counter key) (same_aid (domain_aid tables.entries.items key.owner) aid) fits).1 in
      least_counter page tables said says (λ counter. same_aid counter.owner aid) slot key (record {
        at = least.at;
        fitting = fits;
        least = λ other another here other_fits above.
            let other_own = (same_aid_decides (domain_aid tables.entries.items another.owner) aid).0
            (and_true (keeps_counter another) (same_aid (domain_aid tables.entries.items another.owner) aid) other_fits).1 in
            let equal : aid_order (domain_aid tables.entries.items key.owner) (domain_aid tables.entries.items another.owner) ≡ Equal
            = ap (aid_order (domain_aid tables.entries.items key.owner)) (other_own ∙ sym own) ∙ aid_equal_itself (domain_aid tables.entries.items key.owner) in
            least.least other another here (counts_is other another here ∙ other_fits)
            (sym (ap (λ (o : Ordering). ordering_then o (nat_cmp key.version another.version)) equal) ∙ above);
      })

  pub lowest_unnamed : NoneFits (keeps_counter_of owner) tables.keys.items → lowest_counter said aid ≡ None
  lowest_unnamed none =
      no_counter page tables said says (λ counter. same_aid counter.owner aid)
      (λ slot key here fits. none slot key here (counts_is slot key here ∙ fits))

  -- the key that keeps the counter with a key version number
  numbered_is : (version slot : ℕ) (key : KeyRec) → thing_in tables.keys.items slot ≡ Some key
      → keeps_counter_with owner version key
      ≡ (keeps_counter key && (same_aid (counter_of tables.entries.items key).owner aid && (counter_of tables.entries.items key).version == version))
  numbered_is version slot key here =
      ap (λ (b : Bool). (keeps_counter key && b) && key.version == version) (own_is slot key here)
      ∙ and_after (keeps_counter key) (same_aid (counter_of tables.entries.items key).owner aid) (key.version == version)
    where
      and_after : (a b c : Bool) → ((a && b) && c) ≡ (a && (b && c))
      and_after true b c = refl
      and_after false b c = refl

  pub numbered_named : (version slot : ℕ) (key : KeyRec) → IsLeast (keeps_counter_with owner version) version_order tables.keys.items slot key
      → find (λ counter. same_aid counter.owner aid && counter.version == version) said.counters ≡ Some (counter_of tables.entries.items key)
  numbered_named version slot key least =
      let test : registry.Counter → Bool = λ counter. same_aid counter.owner aid && counter.version == version in
      let fits = sym (numbered_is version slot key least.at) ∙ least.fitting in
      let own = (same_aid_decides (domain_aid tables.entries.items key.owner) aid).0
      (and_true (same_aid (domain_aid tables.entries.items key.owner) aid) (key.version == version) (and_true (keeps_counter key) (test (counter_of tables.entries.items key)) fits).1).0 in
      least_counter page tables said says test slot key (record {
        at = least.at;
        fitting = fits;
        least = λ other another here other_fits above.
            let other_own = (same_aid_decides (domain_aid tables.entries.items another.owner) aid).0
            (and_true (same_aid (domain_aid tables.entries.items another.owner) aid) (another.version == version)
            (and_true (keeps_counter another) (test (counter_of tables.entries.items another)) other_fits).1).0 in
            let equal : aid_order (domain_aid tables.entries.items key.owner) (domain_aid tables.entries.items another.owner) ≡ Equal
            = ap (aid_order (domain_aid tables.entries.items key.owner)) (other_own ∙ sym own) ∙ aid_equal_itself (domain_aid tables.entries.items key.owner) in
            least.least other another here (numbered_is version other another here ∙ other_fits)
            (sym (ap (λ (o : Ordering). ordering_then o (nat_cmp key.version another.version)) equal) ∙ above);
      })

  pub numbered_unnamed : (version : ℕ) → NoneFits (keeps_counter_with owner version) tables.keys.items
      → find (λ counter. same_aid counter.owner aid && counter.version == version) said.counters ≡ None
  numbered_unnamed version none =
      no_counter page tables said says (λ counter. same_aid counter.owner aid && counter.version == version)
      (λ slot key here fits. none slot key here (numbered_is version slot key here ∙ fits))
