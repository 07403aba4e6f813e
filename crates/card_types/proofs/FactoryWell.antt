-- The registry of the factory card is as a registry always is.
use Rattle.std.proofs.Common.{◌≡◌, inl, ℕ, ◌≤◌, Bool, List, [], ◌∷◌, length, refl, arith}
use Rattle.std.specs.Prelude.{All, filter}
use Rattle.std.proofs.lemmas.List.Elements.{All-contains, All-from_recursion}
use Rattle.std.proofs.lemmas.Bool.{cond_both}
use Rattle.card_types.specs.Aid.{same_aid}
use Rattle.card_types.specs.Factory.{factory_registry, issuer_of_factory, key_of_factory}
use Rattle.card_types.specs.Registry as registry
use Rattle.card_types.specs.Registry.{keys_of}
use Rattle.card_types.specs.Well.{IsWellCounter, IsWellEntry, IsWellFile, IsWellKey, IsWellObject, IsWholeSet, Well}
use Rattle.card_types.specs.declared.factory.TheConstants.{ISSUER, FACTORY_FILE, FACTORY_VERSION}
use Rattle.card_types.specs.declared.limits.TheConstants.{DOMAIN_KEYS}

whole_set : IsWholeSet factory_registry ISSUER FACTORY_VERSION
whole_set = record { first = refl; second = refl; third = refl; counter = refl }

well_issuer : IsWellEntry factory_registry issuer_of_factory
well_issuer = record {
  proper = record {
    aid = (omega arith, omega arith);
    module_ = (omega arith, omega arith);
    kind = refl;
    domain_module = λ domain. refl;
    life = refl;
    named_privileges = refl;
    domain_privileges = λ holds. refl;
    one_management = refl;
    receipts = omega arith;
  };
  domain = refl;
  line = (ISSUER ∷ [], (refl, refl));
  loaded = refl;
}

factory_key_size : All (λ (key : registry.Key). length key.bytes ≡ 16) factory_registry.keys
factory_key_size = All-from_recursion (λ (key : registry.Key). length key.bytes ≡ 16) factory_registry.keys (refl, (refl, (refl, tt)))

well_key : (identifier : ℕ) → 1 ≤ identifier → identifier ≤ 3 → IsWellKey factory_registry (key_of_factory identifier)
well_key identifier least most = record {
  owner = refl;
  size = inl refl;
  size_of_set = λ other among owned versioned. All-contains (λ (key : registry.Key). length key.bytes ≡ 16) factory_registry.keys other factory_key_size among;
  name = inl (omega arith, omega arith, least, most);
  whole = λ of_set. whole_set;
}

well_file : IsWellFile factory_registry (record { aid = FACTORY_FILE; domain = ISSUER; bytes = [] })
well_file = record { aid = (omega arith, omega arith); apart = refl; domain = refl; size = inl refl }

well_counter : IsWellCounter factory_registry (record { owner = ISSUER; version = FACTORY_VERSION; number = 0 })
well_counter = record { set = whole_set; version = omega arith; number = omega arith }

kept_at_most : {X : Type 0} (p : X → Bool) (xs : List X) → length (filter p xs) ≤ length xs
kept_at_most p [] = omega arith
kept_at_most p (x ∷ xs) =
    let rest = kept_at_most p xs in
    cond_both (p x) (x ∷ filter p xs) (filter p xs) (λ (kept : List _). length kept ≤ length (x ∷ xs)) (λ fits. omega arith) (λ misfit. omega arith)

few_keys : (owner : List ℕ) → length (keys_of factory_registry owner) ≤ DOMAIN_KEYS
few_keys owner = omega (arith, kept_at_most (λ (key : registry.Key). same_aid key.owner owner) factory_registry.keys)

pub factory_well : Well factory_registry
factory_well = record {
  few_entries = omega arith;
  few_files = omega arith;
  few_keys = omega arith;
  few_objects = omega arith;
  few_pages = omega arith;
  few_keys_each = few_keys;
  issuer = record { domain = refl; file = refl; module_ = refl; life = refl; unlocked = refl };
  factory_file = record { domain = refl; bytes = refl };
  entries = All-from_recursion (IsWellEntry factory_registry) factory_registry.entries (well_issuer, tt);
  files = All-from_recursion (IsWellFile factory_registry) factory_registry.files (well_file, tt);
  keys = All-from_recursion (IsWellKey factory_registry) factory_registry.keys
      (well_key 1 (omega arith) (omega arith), (well_key 2 (omega arith) (omega arith), (well_key 3 (omega arith) (omega arith), tt)));
  counters = All-from_recursion (IsWellCounter factory_registry) factory_registry.counters (well_counter, tt);
  objects = All-from_recursion (IsWellObject factory_registry) factory_registry.objects tt;
}
