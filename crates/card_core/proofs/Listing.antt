-- The key information template, key by key.
use Rattle.std.proofs.Common.{◌≡◌, ◌≢◌, ℕ, ◌+◌, ◌≤◌, Bool, true, ◌&&◌, List, [], ◌∷◌, ◌++◌, None, Some, refl, sym, ap, ◌∙◌, inl, inr, length, length-append, append_assoc, arith}
use Rattle.std.specs.Prelude.{filter, map, ◌==◌}
use Rattle.std.proofs.lemmas.Bool.Decides.{eqb_tells}
use Rattle.std.proofs.lemmas.List.{map-append}
use Rattle.bertlv.proofs.SpellingLemmas.{elements_more}
use Rattle.card_core.specs.Prelude.{AreElements, IsKeyInformation, IsLeast, NoneFits, Represents, Spelling, Well, domain_aid, follows, is_past, key_information, key_of, name_order, thing_in}
use Rattle.card_types.specs.Registry as registry
use Rattle.card_types.specs.declared.limits.TheConstants.{DOMAIN_KEYS}
use Rattle.card_types.specs.declared.tables.Entry.{Entry}
use Rattle.card_types.specs.declared.tables.KeyRec.{KeyRec}
use Rattle.card_types.specs.declared.tables.Tables.{Tables}
use Rattle.policy_slots.proofs.OwnKeys.{IsAfter, keys_are, keys_from_next, keys_from_none, next_named, none_named, own_past}
use Rattle.policy_slots.specs.declared.key_order.KeyName.{KeyName}

-- `count` keys of the domain are written; then comes this one, and those past it.
pub record IsListing (tables : Tables) (said : registry.Registry) (owner : ℕ) (key : KeyRec) (count : ℕ) (value : List ℕ) : Type 0 where
  pub listed : List registry.Key
  pub counted : length listed ≡ count
  pub spelled : AreElements (map key_information listed) value
  pub own : key.owner ≡ owner
  pub left : registry.keys_of said (domain_aid tables.entries.items owner)
      ≡ listed ++ key_of tables.entries.items key ∷ filter (own_past (domain_aid tables.entries.items owner) (Some (key_of tables.entries.items key))) said.keys

owner_is : (n owner : ℕ) (rest : Bool) → ((n == owner) && rest) ≡ true → n ≡ owner
owner_is n owner rest is = elim (eqb_tells n owner) [
  | inl same ↦ same.1
  | inr other ↦ (let clash = ap (λ (b : Bool). b && rest) (sym other.0) ∙ is in cc)
]

cons_not_nil : {A : Type 0} (xs : List A) (x : A) (ys : List A) → xs ++ x ∷ ys ≢ []
cons_not_nil [] x ys same = cc
cons_not_nil (y ∷ xs) x ys same = cc

module _ (page : ℕ → List ℕ) (tables : Tables) (said : registry.Registry) (says : Represents page tables said) (well : Well said)
    (owner : ℕ) (entry : Entry) (at : thing_in tables.entries.items owner ≡ Some entry) where
  abbrev aid : List ℕ
  aid = domain_aid tables.entries.items owner

  abbrev named : KeyRec → registry.Key
  named key = key_of tables.entries.items key

  pub first_listing : (slot : ℕ) (first : KeyRec) → first.owner ≡ owner → IsLeast (follows owner None) name_order tables.keys.items slot first
      → IsListing tables said owner first 0 []
  first_listing slot first own least =
      let found = next_named page tables said says well owner entry at None None slot first tt least in
      record {
        listed = [];
        counted = refl;
        spelled = refl;
        own = own;
        left = keys_are page tables said says well owner entry at ∙ keys_from_next page tables said says well owner entry at None (named first) found;
      }

  written_more : (key : KeyRec) (count : ℕ) (value bytes : List ℕ) (listing : IsListing tables said owner key count value)
      → Spelling 0xC0 (key.identifier ∷ key.version ∷ 0x88 ∷ length key.bytes.items ∷ []) bytes
      → AreElements (map key_information (listing.listed ++ named key ∷ [])) (value ++ bytes)
  written_more key count value bytes listing spelled =
      rw (map-append key_information listing.listed (named key ∷ []))
      (elements_more (map key_information listing.listed) (key_information (named key)) value bytes listing.spelled spelled)

  pub next_listing : (key : KeyRec) (count : ℕ) (value bytes : List ℕ) (name : KeyName) (slot : ℕ) (next : KeyRec) → IsListing tables said owner key count value
      → Spelling 0xC0 (key.identifier ∷ key.version ∷ 0x88 ∷ length key.bytes.items ∷ []) bytes
      → name.version ≡ key.version → name.identifier ≡ key.identifier
      → IsLeast (follows owner (Some name)) name_order tables.keys.items slot next
      → IsListing tables said owner next (count + 1) (value ++ bytes)
  next_listing key count value bytes name slot next listing spelled version identifier least =
      let after : IsAfter aid (Some name) (Some (named key)) = (ap (domain_aid tables.entries.items) listing.own, sym version, sym identifier) in
      let found = next_named page tables said says well owner entry at (Some name) (Some (named key)) slot next after least in
      let more = keys_from_next page tables said says well owner entry at (Some (named key)) (named next) found in
      record {
        listed = listing.listed ++ named key ∷ [];
        counted = length-append listing.listed (named key ∷ []) ∙ ap (λ n. n + 1) listing.counted;
        spelled = written_more key count value bytes listing spelled;
        own = owner_is next.owner owner (is_past (Some name) next) least.fitting;
        left = listing.left ∙ ap (λ rest. listing.listed ++ named key ∷ rest) more
            ∙ sym (append_assoc listing.listed (named key ∷ []) (named next ∷ filter (own_past aid (Some (named next))) said.keys));
      }

  pub all_listed : (key : KeyRec) (count : ℕ) (value bytes : List ℕ) (name : KeyName) → IsListing tables said owner key count value
      → Spelling 0xC0 (key.identifier ∷ key.version ∷ 0x88 ∷ length key.bytes.items ∷ []) bytes
      → name.version ≡ key.version → name.identifier ≡ key.identifier
      → NoneFits (follows owner (Some name)) tables.keys.items → IsKeyInformation said aid (value ++ bytes)
  all_listed key count value bytes name listing spelled version identifier none =
      let after : IsAfter aid (Some name) (Some (named key)) = (ap (domain_aid tables.entries.items) listing.own, sym version, sym identifier) in
      let found = none_named page tables said says well owner entry at (Some name) (Some (named key)) after none in
      let end = keys_from_none page tables said says well owner entry at (Some (named key)) found in
      let all : registry.keys_of said aid ≡ listing.listed ++ named key ∷ [] = listing.left ∙ ap (λ rest. listing.listed ++ named key ∷ rest) end in (
        (λ empty. cons_not_nil listing.listed (named key) [] (sym all ∙ empty)),
        rw all (written_more key count value bytes listing spelled),
      )

  -- a domain has no more keys than it has room for
  pub too_many : {P : Type 0} (key : KeyRec) (count : ℕ) (value : List ℕ) → IsListing tables said owner key count value → DOMAIN_KEYS ≤ count → P
  too_many key count value listing past =
      let size = ap (λ (keys : List registry.Key). length keys) listing.left
      ∙ length-append listing.listed (named key ∷ filter (own_past aid (Some (named key))) said.keys) in
      let few = well.few_keys_each aid in
      let counted = listing.counted in
      absurd (omega arith)
