-- `list P1 [AID]` and `more P1 [AID]` are GET STATUS, for the first and for the next objects (GlobalPlatform Card Specification
-- 2.3.1, 11.4).
use Rattle.std.specs.Prelude.{◌≡◌, ℕ, List, [], ◌∷◌}
use Rattle.script_lines.specs.Words.{SpellsByte, SpellsUpTo}
use Rattle.script_lines.specs.declared.listing.Listing.{Listing}
use Rattle.apdu_core.specs.Apdu.{Apdu}
use Rattle.tokens_receipts.specs.Receipt.{with_length}
use Rattle.script_lines.specs.Command.{plain_command}

-- the first bytes of an AID, 1 to 16, or none where the words end
abbrev pub MayBegin : List (List ℕ) → List ℕ → Type 0
MayBegin [] bytes = bytes ≡ []
MayBegin (word ∷ []) bytes = SpellsUpTo 16 word bytes
MayBegin _ bytes = ⊥

-- P1, and what the AIDs begin with
abbrev pub SaysListing : List (List ℕ) → Listing → Type 0
SaysListing (p1 ∷ aid) l = SpellsByte p1 l.p1 × MayBegin aid l.prefix.items
SaysListing _ l = ⊥

-- GET STATUS, with P2 02 for the first objects and 03 for the next ones (GlobalPlatform Card Specification 2.3.1, 11.4.2)
abbrev pub listing_command : ℕ → Listing → Apdu
listing_command p2 l = plain_command 0xF2 l.p1 p2 (0x4F ∷ with_length l.prefix.items)
