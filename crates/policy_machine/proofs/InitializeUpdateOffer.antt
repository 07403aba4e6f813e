-- The offer that INITIALIZE UPDATE makes, and the registry with the counter one higher.
use Rattle.std.proofs.Common.{◌≡◌, ◌≢◌, ℕ, ◌<◌, ◌≤◌, List, Bool, true, false, ◌==◌, ◌&&◌, Some, refl, sym, subst, ◌∙◌, length, arith}
use Rattle.std.specs.Prelude.{Contains, find, map, if◌then◌else◌}
use Rattle.std.proofs.lemmas.Bool.{and_parts, eqb-true}
use Rattle.std.proofs.lemmas.List.Elements.{All-contains}
use Rattle.card_types.proofs.LeastOfList.{found_fits, names_sorted}
use Rattle.card_types.proofs.RaisedCounter.{counter_found, raised_found_well}
use Rattle.card_types.proofs.SameAid.{same_aid_decides}
use Rattle.policy_machine.specs.Prelude.{Admitted, Counter, Fits, IsAscending, IsOfferOf, IsWellCounter, IsWellKey, IsWellOffer, Key, Offer, Registry, Volatile, Well, acting, counter_order, key_named, raised_counter, same_aid, set_counter, with_counter_raised}
use Rattle.card_types.specs.declared.limits.TheConstants.{COUNTER_LIMIT}
use Rattle.policy_machine.proofs.SameThings.{same_fits}
use Rattle.scp03_card.proofs.Lengths.{length-card_challenge}

-- a key that is found has its name
key_found : (registry : Registry) (owner : List ℕ) (version identifier : ℕ) (key : Key) → key_named registry owner version identifier ≡ Some key
    → Contains registry.keys key × (key.owner ≡ owner) × (key.version ≡ version)
key_found registry owner version identifier key named =
    let found = found_fits (λ (k : Key). same_aid k.owner owner && k.version == version && k.identifier == identifier) registry.keys key named in
    let outer = and_parts (same_aid key.owner owner && key.version == version) (key.identifier == identifier) found.1 in
    let inner = and_parts (same_aid key.owner owner) (key.version == version) outer.0 in
    (found.0, (same_aid_decides key.owner owner).0 inner.0, eqb-true key.version version inner.1)

pub well_offer : (admitted : Admitted) (owner : List ℕ) (counter : Counter) (offer : Offer) → Well admitted.at.registry → length admitted.command.body ≡ 8
    → IsOfferOf admitted owner counter offer → IsWellOffer offer
well_offer admitted owner counter offer well long makes =
    let enc = key_found admitted.at.registry owner counter.version 1 makes.enc makes.key_enc in
    let mac = key_found admitted.at.registry owner counter.version 2 makes.mac makes.key_mac in
    let dek = key_found admitted.at.registry owner counter.version 3 makes.dek makes.key_dek in
    let is = All-contains (IsWellKey admitted.at.registry) admitted.at.registry.keys makes.enc well.keys enc.0 in
    subst IsWellOffer (sym makes.is) (record {
      enc = is.size;
      mac = is.size_of_set makes.mac mac.0 (mac.1 ∙ sym enc.1) (mac.2 ∙ sym enc.2);
      dek = is.size_of_set makes.dek dek.0 (dek.1 ∙ sym enc.1) (dek.2 ∙ sym enc.2);
      host = long;
      card = length-card_challenge makes.enc.bytes counter.number (acting admitted);
    })

-- the counter of a key set is one of the domain
counter_of_set : (registry : Registry) (owner : List ℕ) (version : ℕ) (counter : Counter) → set_counter registry owner version ≡ Some counter
    → Contains registry.counters counter × (same_aid counter.owner owner ≡ true)
counter_of_set registry owner version counter found = by (version == 0) found
  where
    by : (any : Bool)
        → (if any then find (λ c. same_aid c.owner owner) registry.counters else find (λ c. same_aid c.owner owner && c.version == version) registry.counters) ≡ Some counter
        → Contains registry.counters counter × (same_aid counter.owner owner ≡ true)
    by true found = found_fits (λ (c : Counter). same_aid c.owner owner) registry.counters counter found
    by false found =
        let fits = found_fits (λ (c : Counter). same_aid c.owner owner && c.version == version) registry.counters counter found in
        (fits.0, (and_parts (same_aid counter.owner owner) (counter.version == version) fits.1).0)

below_limit : (n : ℕ) → n ≤ COUNTER_LIMIT → n ≢ COUNTER_LIMIT → n < COUNTER_LIMIT
below_limit n most other = omega arith

module _ (registry : Registry) (owner : List ℕ) where
  pub set_raised_well : (version : ℕ) (counter : Counter) → Well registry → IsAscending registry → set_counter registry owner version ≡ Some counter
      → counter.number ≢ COUNTER_LIMIT → Well (with_counter_raised registry owner counter.version)
  set_raised_well version counter well ascending found other =
      let of = counter_of_set registry owner version counter found in
      let owned = (same_aid_decides counter.owner owner).0 of.1 in
      let is = All-contains (IsWellCounter registry) registry.counters counter well.counters of.0 in
      raised_found_well registry owner counter.version ascending.counters counter
      (counter_found registry owner counter.version ascending.counters counter of.0 owned refl) (below_limit counter.number is.number other) well

  module _ (version : ℕ) where
    pub raised_ascending : IsAscending registry → IsAscending (with_counter_raised registry owner version)
    raised_ascending ascending = record {
      entries = ascending.entries;
      files = ascending.files;
      keys = ascending.keys;
      counters = names_sorted counter_order (raised_counter owner version) registry.counters ascending.counters;
      objects = ascending.objects;
    }

    pub raised_fits : (volatile : Volatile) → Fits registry volatile → Fits (with_counter_raised registry owner version) volatile
    raised_fits = same_fits registry registry.life registry.keys (map (raised_counter owner version) registry.counters) registry.objects
