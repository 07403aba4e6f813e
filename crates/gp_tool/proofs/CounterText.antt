-- The sequence counter of the Issuer Security Domain as text.
use Rattle.std.proofs.Common.{◌≡◌, List, None, Option, Some, refl}
use Rattle.std.specs.Prelude.{MatchOption}
use Rattle.card_types.specs.Represents.{HasIssuer, domain_aid, thing_in}
use Rattle.card_types.specs.declared.factory.TheConstants.{ISSUER}
use Rattle.card_types.specs.declared.tables.Entry.{Entry}
use Rattle.card_types.specs.declared.tables.TheConstants.{ISSUER_SLOT}

-- its entry
pub issuer_held : (entries : List (Option Entry)) → HasIssuer entries → (entry : Entry) × (thing_in entries ISSUER_SLOT ≡ Some entry) × (domain_aid entries ISSUER_SLOT ≡ ISSUER)
issuer_held entries has = by (thing_in entries ISSUER_SLOT) refl has where
  by : (slot : Option Entry) → thing_in entries ISSUER_SLOT ≡ slot → MatchOption slot ⊥ (λ entry. entry.aid ≡ ISSUER)
      → (entry : Entry) × (thing_in entries ISSUER_SLOT ≡ Some entry) × (domain_aid entries ISSUER_SLOT ≡ ISSUER)
  by None is none = absurd none
  by (Some entry) is own = (entry, is, rw is own)
