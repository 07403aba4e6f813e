-- A data field has at most one verdict, and a receipt fits at one place alone.
use Rattle.std.proofs.Common.{◌≡◌, inl, inr, ℕ, ◌+◌, ◌<◌, ◌≤◌, ◌^◌, List, None, Some, Bool, true, false, refl, ap, sym, subst, ◌∙◌, arith}
use Rattle.std.specs.Prelude.{if◌then◌else◌, nat_lt}
use Rattle.std.specs.Int.{to_be_bytes, w16}
use Rattle.std.proofs.lemmas.Bool.{cases_order, lt-ltb, ltb-true}
use Rattle.std.proofs.lemmas.Nat.{from_be_bytes-to_be_bytes_2}
use Rattle.card_types.specs.declared.limits.TheConstants.{RECEIPT_LIMIT}
use Rattle.cmac_kdf.specs.Cmac.{cmac}
use Rattle.cmac_kdf.proofs.CmacLemmas.{cmac_is_block}
use Rattle.tokens_receipts.specs.Receipt.{receipt, signed_by_receipt}
use Rattle.receipt_desk.specs.Judgement.{Confirmation, Judged, Spells, next_receipt, number_in}
use Rattle.receipt_desk.specs.Laws.{OnePlace, OneVerdict, OtherMacsAreNoticed}
use Rattle.receipt_desk.specs.declared.verdict.Verdict.{Verdict}
use Rattle.receipt_desk.specs.declared.verdict.Verdict.TheVariants.{Fits, Form, Unique, Number, Mac}
use Rattle.receipt_desk.proofs.Fields.{one_spelling}

-- the next number is one higher, and a number of two bytes
pub next_is : (last number : ℕ) → next_receipt last ≡ Some number → (number ≡ last + 1) × (number ≤ RECEIPT_LIMIT)
next_is last number = by (nat_lt last RECEIPT_LIMIT) refl
  where
    by : (b : Bool) → nat_lt last RECEIPT_LIMIT ≡ b → (if b then Some (last + 1) else None) ≡ Some number → (number ≡ last + 1) × (number ≤ RECEIPT_LIMIT)
    by true lower is =
        (let same : last + 1 ≡ number = cc in
        let below = ltb-true last RECEIPT_LIMIT lower in
        (sym same, omega (arith, same, below)))
    by false lower is = (let clash : ⊥ = cc in absurd clash)

pub next_of : (last : ℕ) → last + 1 ≤ RECEIPT_LIMIT → next_receipt last ≡ Some (last + 1)
next_of last within = ap (λ (b : Bool). if b then Some (last + 1) else None) (lt-ltb last RECEIPT_LIMIT (omega (arith, within)))

-- what a receipt spells
abbrev confirmed : (key : List ℕ) (number : ℕ) (unique : List ℕ) (aids : List (List ℕ)) → Confirmation
confirmed key number unique aids = record { code = cmac key (signed_by_receipt number unique aids); number = to_be_bytes w16 number; unique = unique }

receipt_spells : (key : List ℕ) (number : ℕ) (unique : List ℕ) (aids : List (List ℕ)) → Spells (confirmed key number unique aids) (receipt key number unique aids)
receipt_spells key number unique aids = record { code = (cmac_is_block key (signed_by_receipt number unique aids)).sixteen; number = refl; is = refl }

-- what a confirmation has that spells a receipt
record HasThese (c : Confirmation) (key : List ℕ) (n : ℕ) (data_ : List ℕ) (aids : List (List ℕ)) : Type 0 where
  pub code : c.code ≡ cmac key (signed_by_receipt n data_ aids)
  pub number : number_in c ≡ n
  pub unique : c.unique ≡ data_

has_these : (c : Confirmation) (key : List ℕ) (number : ℕ) (unique : List ℕ) (aids : List (List ℕ)) → number < 2 ^ 16
    → Spells c (receipt key number unique aids) → HasThese c key number unique aids
has_these c key number unique aids short spells =
    let same = one_spelling (receipt key number unique aids) c (confirmed key number unique aids) spells (receipt_spells key number unique aids) in
    record {
      code = ap (λ (x : Confirmation). x.code) same;
      number = ap (λ (x : Confirmation). number_in x) same ∙ from_be_bytes-to_be_bytes_2 number short;
      unique = ap (λ (x : Confirmation). x.unique) same;
    }

module _ (key unique : List ℕ) (last : ℕ) (reply : List ℕ) (aids : List (List ℕ)) where
  abbrev Says : Verdict → Type 0
  Says = Judged key unique last reply aids

  -- what spells a data field that fits
  fitting : (number : ℕ) → Says (Fits number) → (c : Confirmation) → Spells c reply → HasThese c key number unique aids
  fitting number fits c spells =
      let next = next_is last number fits.0 in
      let most = next.1 in
      has_these c key number unique aids (omega (arith, most)) (subst (Spells c) fits.1 spells)

  form_fits : (number : ℕ) → Says Form → Says (Fits number) → ⊥
  form_fits number none fits = none (confirmed key number unique aids) (subst (Spells (confirmed key number unique aids)) (sym fits.1) (receipt_spells key number unique aids))

  abbrev place : Verdict → ℕ
  place Form = 0
  place Unique = 1
  place (Number have want) = 2
  place Mac = 3
  place (Fits number) = 4

  last_place : (v : Verdict) → place v ≤ 4
  last_place Form = omega arith
  last_place _ = omega arith

  -- two of them do not hold at once
  apart : (a b : Verdict) → place a < place b → Says a → Says b → ⊥
  apart Form Unique _ x y = x y.0 y.1
  apart Form (Number have want) _ x y = x y.0 y.1
  apart Form Mac _ x y = x y.0 y.1
  apart Form (Fits number) _ x y = form_fits number x y
  apart Unique (Number have want) _ x y = x.2 (ap (λ (c : Confirmation). c.unique) (one_spelling reply x.0 y.0 x.1 y.1) ∙ y.2.0)
  apart Unique Mac _ x y = x.2 (ap (λ (c : Confirmation). c.unique) (one_spelling reply x.0 y.0 x.1 y.1) ∙ y.2.0)
  apart Unique (Fits number) _ x y = x.2 (fitting number y x.0 x.1).unique
  apart (Number have want) Mac _ x y =
      let same = ap (λ (c : Confirmation). number_in c) (one_spelling reply x.0 y.0 x.1 y.1) in
      x.2.3 (x.2.2 ∙ y.2.1 ∙ ap Some (sym (x.2.1 ∙ same)))
  apart (Number have want) (Fits number) _ x y = x.2.3 (x.2.2 ∙ y.0 ∙ ap Some (sym (x.2.1 ∙ (fitting number y x.0 x.1).number)))
  apart Mac (Fits number) _ x y = x.2.2 (y.1 ∙ ap (λ (n : ℕ). receipt key n unique aids) (sym (fitting number y x.0 x.1).number))
  apart (Fits number) b lower x y = (let most = last_place b in absurd (omega (arith, lower, most)))
  apart a b lower x y = absurd (omega (arith, lower))

  alike : (a b : Verdict) → place a ≡ place b → Says a → Says b → a ≡ b
  alike Form Form _ x y = refl
  alike Unique Unique _ x y = refl
  alike (Number have want) (Number had wanted) _ x y =
      let same = ap (λ (c : Confirmation). number_in c) (one_spelling reply x.0 y.0 x.1 y.1) in
      let one = x.2.1 ∙ same ∙ sym y.2.1 in
      let other = x.2.2 ∙ sym y.2.2 in
      (λ i. Number (one i) (other i))
  alike Mac Mac _ x y = refl
  alike (Fits number) (Fits other) _ x y = (let same : Some number ≡ Some other = sym x.0 ∙ y.0 in cc)
  alike a b same x y = absurd (omega (arith, same))

pub one_verdict : OneVerdict
one_verdict key unique last reply aids a b x y = elim (cases_order (place key unique last reply aids a) (place key unique last reply aids b)) [
  | inl same ↦ alike key unique last reply aids a b same x y
  | inr (inl lower) ↦ absurd (apart key unique last reply aids a b lower x y)
  | inr (inr higher) ↦ absurd (apart key unique last reply aids b a higher y x)
]

pub one_place : OnePlace
one_place key unique other another last number next aids others short fits =
    let these = fitting key unique last (receipt other number another others) aids next fits (confirmed other number another others) (receipt_spells other number another others) in
    let back = from_be_bytes-to_be_bytes_2 number short in
    let same : next ≡ number = sym these.number ∙ back in
    (same, sym same ∙ (next_is last next fits.0).0, these.unique)

pub other_macs_are_noticed : OtherMacsAreNoticed
other_macs_are_noticed key other unique last number next aids others short differ fits =
    let these = fitting key unique last (receipt other number unique others) aids next fits (confirmed other number unique others) (receipt_spells other number unique others) in
    let same = (one_place key unique other unique last number next aids others short fits).0 in
    differ (sym (these.code ∙ ap (λ (n : ℕ). cmac key (signed_by_receipt n unique aids)) same))
