-- A registry without the keys of a domain with one key version number is one that a card may have, in order.
use Rattle.std.proofs.Common.{ℕ, List, [], arith}
use Rattle.std.specs.Prelude.{not}
use Rattle.std.proofs.lemmas.List.Sorted.{IsPermutation-refl}
use Rattle.policy_machine.specs.Prelude.{IsAscending, Registry, Well, counter_order, counters_but, is_counter_numbered, is_key_numbered, key_order, keys_but, same_aid, with_keys}
use Rattle.policy_machine.proofs.Filtered.{fewer_pass, filter_sorted, most_pass}
use Rattle.policy_machine.proofs.PutKeyKeys.{put_well}

module _ (registry : Registry) (owner : List ℕ) (version : ℕ) where
  abbrev pub without_version : Registry
  without_version = with_keys registry (keys_but owner version registry.keys) (counters_but owner version registry.counters)

  -- no keys are put in their place
  pub without_version_well : Well registry → Well without_version
  without_version_well well =
      put_well registry owner version [] [] (keys_but owner version registry.keys) (counters_but owner version registry.counters)
      (IsPermutation-refl (keys_but owner version registry.keys)) (IsPermutation-refl (counters_but owner version registry.counters)) well
      (λ key other there. absurd (omega (arith, there.1))) (λ key there. absurd (omega (arith, there.1))) (λ counter there. absurd (omega (arith, there.1))) (λ key there. absurd (omega (arith, there.1)))
      (omega (arith, most_pass (λ key. not (is_key_numbered owner version key)) registry.keys, well.few_keys))
      (omega (arith, fewer_pass (λ key. same_aid key.owner owner) (λ key. not (is_key_numbered owner version key)) registry.keys, well.few_keys_each owner))

  pub without_version_ascending : IsAscending registry → IsAscending without_version
  without_version_ascending ascending = record {
    entries = ascending.entries;
    files = ascending.files;
    keys = filter_sorted (λ key. not (is_key_numbered owner version key)) key_order registry.keys ascending.keys;
    counters = filter_sorted (λ counter. not (is_counter_numbered owner version counter)) counter_order registry.counters ascending.counters;
    objects = ascending.objects;
  }
