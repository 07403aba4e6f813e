-- What is in the charge of a domain is below it, and an Executable Load File in it or below.
use Rattle.std.proofs.Common.{◌≡◌, ◌≢◌, inl, inr, ℕ, List, Option, None, Some, refl, ap, sym, subst, ◌∙◌}
use Rattle.std.specs.Prelude.{Contains, IsSome, MatchOption}
use Rattle.std.specs.Option.{option_map}
use Rattle.std.proofs.lemmas.Cmp.{nat_list_cmp_total, on_total}
use Rattle.card_types.proofs.LeastOfList.{least_found, sorted_by_name}
use Rattle.card_types.proofs.NamedThings.{member_named}
use Rattle.card_types.proofs.SameAid.{aid_same_equal, aid_same_itself, same_aid_decides}
use Rattle.policy_machine.specs.Prelude.{Entry, IsAboveIn, IsAtOrAbove, IsFileInCharge, IsInCharge, IsOfCard, LoadFile, Registry, aid_order, domain_of, entry_named, file_named, same_aid}
use Rattle.policy_machine.proofs.FileApart.{file_apart}

module _ (registry : Registry) (of : IsOfCard registry) where
  -- an Executable Load File is found by its AID
  pub file_found : (file : LoadFile) → Contains registry.files file → file_named registry file.aid ≡ Some file
  file_found file there =
      least_found (λ (a b : LoadFile). aid_order a.aid b.aid) (on_total (λ (f : LoadFile). f.aid) nat_list_cmp_total) (λ f. same_aid f.aid file.aid) registry.files
      (sorted_by_name aid_order (λ (f : LoadFile). f.aid) registry.files of.ascending.files) file there (aid_same_itself file.aid)
      (λ other among fit above.
      (let alike : file.aid ≡ other.aid = sym ((same_aid_decides other.aid file.aid).0 fit) in
      let tied = aid_same_equal file.aid other.aid alike in cc))

  -- an entry has a domain
  pub entry_has_domain : (entry : Entry) → Contains registry.entries entry → domain_of registry entry.aid ≢ None
  entry_has_domain entry there none =
      let named = member_named registry of entry there entry.aid (aid_same_itself entry.aid) in
      let clash = sym (ap (option_map (λ (e : Entry). e.domain)) named) ∙ none in cc

  -- an Executable Load File has none
  pub file_has_none : (aid : List ℕ) (file : LoadFile) → file_named registry aid ≡ Some file → domain_of registry aid ≡ None
  file_has_none aid file named = ap (option_map (λ (e : Entry). e.domain)) (file_apart registry of.well aid file named)

  -- an entry in its charge is below it
  pub charge_above : (domain aid : List ℕ) → IsInCharge registry domain aid → domain_of registry aid ≢ None → IsAboveIn registry domain aid
  charge_above domain aid (inl entry) has = entry.1
  charge_above domain aid (inr file) has = by (file_named registry aid) refl file
    where
      by : (o : Option LoadFile) → file_named registry aid ≡ o → MatchOption o ⊥ (IsFileInCharge registry domain) → IsAboveIn registry domain aid
      by None named is = absurd is
      by (Some f) named is = absurd (has (file_has_none aid f named))

  -- an Executable Load File in its charge is in it or below it
  pub charge_place : (domain : List ℕ) (file : LoadFile) → Contains registry.files file → IsInCharge registry domain file.aid → IsAtOrAbove registry domain file.domain
  charge_place domain file there (inl entry) = (let none = file_apart registry of.well file.aid file (file_found file there) in let clash = entry.0 in absurd (no_entry none clash))
    where
      no_entry : entry_named registry file.aid ≡ None → IsSome (entry_named registry file.aid) → ⊥
      no_entry none some = (let absent = subst IsSome none some in cc)
  charge_place domain file there (inr is) = subst (λ (o : Option LoadFile). MatchOption o ⊥ (IsFileInCharge registry domain)) (file_found file there) is
