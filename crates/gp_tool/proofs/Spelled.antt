-- A line has one form.
use Rattle.std.proofs.Common.{◌≡◌, ◌⊎◌, ℕ, ◌*◌, List, [], ◌∷◌, ◌++◌, length, slice_index, true, refl, sym, ap, subst, ◌∙◌, inl, inr, arith}
use Rattle.std.specs.Prelude.{Ok, codes}
use Rattle.std.proofs.lemmas.List.Elements.{All-head, All-tail}
use Rattle.hex.proofs.HexLemmas.{decode_of-ok, decode_of-same}
use Rattle.hex.specs.Hex.{decode_of, is_hex_digit}
use Rattle.policy_machine.specs.Run.{Command, Input}
use Rattle.script_tool.specs.Line.{IsBlank, IsComment}
use Rattle.gp_tool.specs.Form.{IsHex, SpellsInputs}
use Rattle.gp_tool.specs.Replay.{Wants}

-- the first byte of a line in digits
first_digit : (line bytes : List ℕ) → IsHex line bytes → (b : ℕ) × (rest : List ℕ) × (line ≡ b ∷ rest) × (is_hex_digit b ≡ true)
first_digit [] bytes hex =
    let decoded = decode_of-ok [] bytes hex.0 in
    let len : 0 ≡ 2 * length bytes = decoded.2 in
    let some = hex.1 in
    absurd (omega (arith, len, some))
first_digit (b ∷ rest) bytes hex =
    let decoded = decode_of-ok (b ∷ rest) bytes hex.0 in
    (b, rest, refl, All-head (λ x. is_hex_digit x ≡ true) b rest decoded.1)

-- a line that gives a card nothing
abbrev IsNothing : List ℕ → Type 0
IsNothing line = IsBlank line ⊎ IsComment line

-- a line in digits doesn't begin so
begins_digit : (line bytes more : List ℕ) (b : ℕ) → IsHex line bytes → line ≡ b ∷ more → is_hex_digit b ≡ true
begins_digit line bytes more b hex begins =
    let first = first_digit line bytes hex in
    let same : first.0 ≡ b = ap (λ l. slice_index l 0) (sym first.2 ∙ begins) in
    subst (λ (x : ℕ). is_hex_digit x ≡ true) same first.3

no_digits_nothing : (line bytes : List ℕ) → IsNothing line → IsHex line bytes → ⊥
no_digits_nothing line bytes (inl blank) hex =
    let first = first_digit line bytes hex in
    let space : first.0 ≡ 32 = All-head (λ byte. byte ≡ 32) first.0 first.1 (subst IsBlank first.2 blank) in
    let digit : is_hex_digit 32 ≡ true = subst (λ (x : ℕ). is_hex_digit x ≡ true) space first.3 in
    cc digit
no_digits_nothing line bytes (inr comment) hex = cc (begins_digit line bytes comment.0 35 hex comment.1)

no_digits_reset : (line bytes : List ℕ) → line ≡ codes "reset" → IsHex line bytes → ⊥
no_digits_reset line bytes reset hex = cc (begins_digit line bytes (codes "eset") 114 hex reset)

no_nothing_reset : (line : List ℕ) → IsNothing line → line ≡ codes "reset" → ⊥
no_nothing_reset line (inl blank) reset =
    let first : 114 ≡ 32 = All-head (λ byte. byte ≡ 32) 114 (codes "eset") (subst IsBlank reset blank) in
    omega (arith, first)
no_nothing_reset line (inr comment) reset =
    let first : 35 ≡ 114 = ap (λ l. slice_index l 0) (sym comment.1 ∙ reset) in
    omega (arith, first)

-- a line gives a card one thing
pub spells_once : (line : List ℕ) (a b : List Input) → SpellsInputs line a → SpellsInputs line b → a ≡ b
spells_once line a b (inl none) (inl again) = none.1 ∙ sym again.1
spells_once line a b (inl none) (inr (inl reset)) = absurd (no_nothing_reset line none.0 reset.0)
spells_once line a b (inl none) (inr (inr hex)) = absurd (no_digits_nothing line hex.0 none.0 hex.1)
spells_once line a b (inr (inl reset)) (inl none) = absurd (no_nothing_reset line none.0 reset.0)
spells_once line a b (inr (inl reset)) (inr (inl again)) = reset.1 ∙ sym again.1
spells_once line a b (inr (inl reset)) (inr (inr hex)) = absurd (no_digits_reset line hex.0 reset.0 hex.1)
spells_once line a b (inr (inr hex)) (inl none) = absurd (no_digits_nothing line hex.0 none.0 hex.1)
spells_once line a b (inr (inr hex)) (inr (inl reset)) = absurd (no_digits_reset line hex.0 reset.0 hex.1)
spells_once line a b (inr (inr hex)) (inr (inr again)) =
    hex.2 ∙ ap (λ bytes. Command bytes ∷ []) (decode_of-same line hex.0 again.0 hex.1.0 again.1.0) ∙ sym again.2

-- no line that begins with '=' is for a card
pub not_for_card : (line rest : List ℕ) (inputs : List Input) → line ≡ 61 ∷ rest → SpellsInputs line inputs → ⊥
not_for_card line rest inputs begins (inl (inl blank, none)) =
    let first : 61 ≡ 32 = All-head (λ byte. byte ≡ 32) 61 rest (subst IsBlank begins blank) in
    omega (arith, first)
not_for_card line rest inputs begins (inl (inr comment, none)) =
    let first : 35 ≡ 61 = ap (λ l. slice_index l 0) (sym comment.1 ∙ begins) in
    omega (arith, first)
not_for_card line rest inputs begins (inr (inl reset)) =
    let first : 114 ≡ 61 = ap (λ l. slice_index l 0) (sym reset.0 ∙ begins) in
    omega (arith, first)
not_for_card line rest inputs begins (inr (inr hex)) = cc (begins_digit line hex.0 rest 61 hex.1 begins)

-- a line that wants a reply gives a card nothing
pub no_card_wants : (line : List ℕ) (inputs : List Input) (want : List ℕ) → SpellsInputs line inputs → Wants line want → ⊥
no_card_wants line inputs want spells wants = not_for_card line (wants.0 ++ wants.1) inputs wants.2 spells

-- after two runs of spaces stands one text, where it begins with a digit
digits_once : (spaces others digits more some bytes : List ℕ) → IsBlank spaces → IsBlank others → IsHex digits some → IsHex more bytes
    → spaces ++ digits ≡ others ++ more → digits ≡ more
digits_once [] [] digits more some bytes blank blank' hex hex' same = same
digits_once [] (b ∷ others) digits more some bytes blank blank' hex hex' same =
    let space : b ≡ 32 = All-head (λ byte. byte ≡ 32) b others blank' in
    let digit : is_hex_digit 32 ≡ true = subst (λ (x : ℕ). is_hex_digit x ≡ true) space (begins_digit digits some (others ++ more) b hex same) in
    cc digit
digits_once (b ∷ spaces) [] digits more some bytes blank blank' hex hex' same =
    let space : b ≡ 32 = All-head (λ byte. byte ≡ 32) b spaces blank in
    let digit : is_hex_digit 32 ≡ true = subst (λ (x : ℕ). is_hex_digit x ≡ true) space (begins_digit more bytes (spaces ++ digits) b hex' (sym same)) in
    cc digit
digits_once (b ∷ spaces) (c ∷ others) digits more some bytes blank blank' hex hex' same =
    digits_once spaces others digits more some bytes (All-tail (λ byte. byte ≡ 32) b spaces blank) (All-tail (λ byte. byte ≡ 32) c others blank') hex hex' (cc same)

-- after all spaces of a text stand its digits
pub digits_after : (spaces others digits rest some : List ℕ) → IsBlank spaces → IsBlank others → IsHex digits some → ((more : List ℕ) → rest ≡ 32 ∷ more → ⊥)
    → spaces ++ digits ≡ others ++ rest → digits ≡ rest
digits_after [] [] digits rest some blank blank' hex no_more same = same
digits_after [] (b ∷ others) digits rest some blank blank' hex no_more same =
    let space : b ≡ 32 = All-head (λ byte. byte ≡ 32) b others blank' in
    let digit : is_hex_digit 32 ≡ true = subst (λ (x : ℕ). is_hex_digit x ≡ true) space (begins_digit digits some (others ++ rest) b hex same) in
    cc digit
digits_after (b ∷ spaces) [] digits rest some blank blank' hex no_more same =
    let space : b ≡ 32 = All-head (λ byte. byte ≡ 32) b spaces blank in
    absurd (no_more (spaces ++ digits) (sym same ∙ ap (λ x. x ∷ (spaces ++ digits)) space))
digits_after (b ∷ spaces) (c ∷ others) digits rest some blank blank' hex no_more same =
    digits_after spaces others digits rest some (All-tail (λ byte. byte ≡ 32) b spaces blank) (All-tail (λ byte. byte ≡ 32) c others blank') hex no_more (cc same)

-- a line wants one reply
pub wants_once : (line want other : List ℕ) → Wants line want → Wants line other → want ≡ other
wants_once line want other (spaces, digits, is, blank, decoded, two) (spaces', digits', is', blank', decoded', two') =
    let hex : IsHex digits want = (decoded, omega (arith, two)) in
    let hex' : IsHex digits' other = (decoded', omega (arith, two')) in
    let rest : spaces ++ digits ≡ spaces' ++ digits' = cc (is, is') in
    let same = digits_once spaces spaces' digits digits' want other blank blank' hex hex' rest in
    decode_of-same digits want other decoded (subst (λ (d : List ℕ). decode_of d ≡ Ok other) (sym same) decoded')
