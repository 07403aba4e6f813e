-- What a desk makes of the data field of a reply that is to confirm a command (GlobalPlatform Card Specification 2.3.1, 9.1.3.4 and
-- 11.1.6). Which verdicts there are, and their order, is this profile's own.
use Rattle.std.specs.Prelude.{◌≡◌, ◌≢◌, ℕ, ◌+◌, ◌++◌, List, [], Option, None, Some, length, if◌then◌else◌, nat_lt}
use Rattle.std.specs.Int.{from_be_bytes, w16}
use Rattle.card_types.specs.declared.limits.TheConstants.{RECEIPT_LIMIT}
use Rattle.tokens_receipts.specs.Receipt.{receipt, with_length}
use Rattle.receipt_desk.specs.declared.verdict.Verdict.{Verdict}
use Rattle.receipt_desk.specs.declared.verdict.Verdict.TheVariants.{Fits, Form, Unique, Number, Mac}

-- what a desk has: a key of AES, the card's unique data, and the number of the last receipt
pub record DeskState : Type 0 where
  pub key : Option (List ℕ)
  pub unique : List ℕ
  pub last : ℕ

-- no key and no unique data, before the first receipt
abbrev pub new_desk : DeskState
new_desk = record { key = None; unique = []; last = 0 }

-- what a receipted reply has: the receipt, its number, and the card's unique data
pub record Confirmation : Type 0 where
  pub code : List ℕ
  pub number : List ℕ
  pub unique : List ℕ

-- a data field is these three, with a length before each of them, and one before them all
pub record Spells (confirmation : Confirmation) (reply : List ℕ) : Type 0 where
  pub code : length confirmation.code ≡ 16
  pub number : length confirmation.number ≡ 2
  pub is : reply ≡ with_length (with_length confirmation.code ++ with_length confirmation.number ++ with_length confirmation.unique)

abbrev pub number_in : Confirmation → ℕ
number_in confirmation = from_be_bytes w16 confirmation.number

-- the number after the last one, if there is one
abbrev pub next_receipt : ℕ → Option ℕ
next_receipt last = if nat_lt last RECEIPT_LIMIT then Some (last + 1) else None

-- the data field has the form of a receipted one, and this holds of what it has
abbrev pub ForConfirmation : List ℕ → (Confirmation → Type 0) → Type 0
ForConfirmation reply holds = (confirmation : Confirmation) × Spells confirmation reply × holds confirmation

-- The verdict on a data field, under a key, with the card's unique data and the number of the last receipt, where the command was about
-- these AIDs.
abbrev pub Judged : (key unique : List ℕ) (last : ℕ) (reply : List ℕ) (aids : List (List ℕ)) → Verdict → Type 0
-- it has another form than a receipt
Judged key unique last reply aids Form = (confirmation : Confirmation) → Spells confirmation reply → ⊥
-- it is of another card
Judged key unique last reply aids Unique = ForConfirmation reply (λ confirmation. confirmation.unique ≢ unique)
-- its number is not the next one, or there is no next one
Judged key unique last reply aids (Number have want) = ForConfirmation reply (λ confirmation.
    (confirmation.unique ≡ unique) × (have ≡ number_in confirmation) × (want ≡ next_receipt last) × (want ≢ Some have))
-- all that is right, and it is not the receipt
Judged key unique last reply aids Mac = ForConfirmation reply (λ confirmation.
    (confirmation.unique ≡ unique) × (next_receipt last ≡ Some (number_in confirmation)) × (reply ≢ receipt key (number_in confirmation) unique aids))
-- it is the receipt with the next number
Judged key unique last reply aids (Fits number) = (next_receipt last ≡ Some number) × (reply ≡ receipt key number unique aids)

-- the number of the last receipt after a verdict: one that fits is the last one then
abbrev pub last_after : Verdict → ℕ → ℕ
last_after (Fits number) last = number
last_after verdict last = last
