-- What steps to anything is an entry of the card.
use Rattle.std.proofs.Common.{◌≡◌, ℕ, List, Option, None, Some, refl}
use Rattle.std.specs.Option.{option_map}
use Rattle.std.proofs.lemmas.List.Elements.{All-contains}
use Rattle.card_types.proofs.LeastOfList.{found_fits}
use Rattle.card_types.proofs.SameAid.{same_aid_decides}
use Rattle.card_types.specs.Aid.{same_aid}
use Rattle.card_types.specs.ChangeLaws.{IsOfCard}
use Rattle.card_types.specs.Registry.{Entry, Registry, domain_of, entry_named}
use Rattle.card_types.specs.Well.{IsWellEntry}

pub stepped : (registry : Registry) → IsOfCard registry → (x next : List ℕ) → domain_of registry x ≡ Some next → (entry : Entry) × (entry.aid ≡ x) × (entry.domain ≡ next) × IsWellEntry registry entry
stepped registry of x next steps = by (entry_named registry x) refl steps
  where
    by : (o : Option Entry) → entry_named registry x ≡ o → option_map (λ (e : Entry). e.domain) o ≡ Some next → (entry : Entry) × (entry.aid ≡ x) × (entry.domain ≡ next) × IsWellEntry registry entry
    by None at on = cc
    by (Some entry) at on =
        (let up : entry.domain ≡ next = cc in
        let found = found_fits (λ (e : Entry). same_aid e.aid x) registry.entries entry at in
        (entry, (same_aid_decides entry.aid x).0 found.1, up, All-contains (IsWellEntry registry) registry.entries entry of.well.entries found.0))
