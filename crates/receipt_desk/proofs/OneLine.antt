-- A text says at most one line.
use Rattle.std.proofs.Common.{◌≡◌, inl, inr, ℕ, ◌≤◌, List, [], ◌∷◌, refl, ap, sym, ◌∙◌, arith, slice_index}
use Rattle.std.proofs.lemmas.Nat.{from_be_bytes-to_be_bytes_2}
use Rattle.hex.proofs.HexLemmas.{decode_of-same}
use Rattle.std.specs.Int.{from_be_bytes, to_be_bytes, w16}
use Rattle.script_lines.proofs.OneKey.{first, one_key}
use Rattle.script_lines.proofs.OneLine.{blank_first, comment_first}
use Rattle.script_lines.proofs.OneValue.{no_hyphen, one_aid, one_byte, one_up_to, one_vec}
use Rattle.script_tool.specs.Words.{SpellsUpTo, words_of}
use Rattle.script_lines.specs.declared.keys.OfSize.{OfSize}
use Rattle.arrayvec.specs.ArrayVec.{ArrayVec}
use Rattle.receipt_desk.specs.Lines.{OneDeskLine, SaysDesk, SaysFrom, SaysKey, SaysReceipt, SaysSign, SaysUnique, SaysWords, SpellAids, SpellsNumber, SpellsSomeOrNone}
use Rattle.receipt_desk.specs.declared.aids.Aids.{Aids}
use Rattle.receipt_desk.specs.declared.aids.Aids.TheVariants.{One, Two, Three}
use Rattle.receipt_desk.specs.declared.line.DeskLine.{DeskLine}
use Rattle.receipt_desk.specs.declared.line.DeskLine.TheVariants.{Nothing, Key, Unique, From, Sign, Receipt}
use Rattle.receipt_desk.specs.declared.receipted.Receipted.{Receipted}
use Rattle.receipt_desk.specs.declared.signing.Signing.{Signing}

one_some_or_none : (most : ℕ) (word : List ℕ) (a b : ArrayVec ℕ) → SpellsSomeOrNone most word a.items → SpellsSomeOrNone most word b.items → a ≡ b
unfolding SpellsSomeOrNone SpellsUpTo
one_some_or_none most word a b (inl x) (inl y) = one_vec a b (x.1 ∙ sym y.1)
one_some_or_none most word a b (inl x) (inr y) = absurd (no_hyphen word b.items x.0 y.0)
one_some_or_none most word a b (inr x) (inl y) = absurd (no_hyphen word a.items y.0 x.0)
one_some_or_none most word a b (inr x) (inr y) = one_up_to most word a b x y

one_key_line : (words : List (List ℕ)) (a b : OfSize (List ℕ) (List ℕ) (List ℕ)) → SaysKey words a → SaysKey words b → a ≡ b
one_key_line (word ∷ []) a b x y = one_key word a b x y
one_key_line _ a b x y = absurd x

one_unique : (words : List (List ℕ)) (a b : ArrayVec ℕ) → SaysUnique words a.items → SaysUnique words b.items → a ≡ b
one_unique (word ∷ []) a b x y = one_some_or_none 20 word a b x y
one_unique _ a b x y = absurd x

one_number : (word : List ℕ) (a b : ℕ) → SpellsNumber word a → SpellsNumber word b → a ≡ b
unfolding SpellsNumber
one_number word a b x y =
    sym (from_be_bytes-to_be_bytes_2 a x.1) ∙ ap (from_be_bytes w16) (decode_of-same word (to_be_bytes w16 a) (to_be_bytes w16 b) x.0 y.0)
    ∙ from_be_bytes-to_be_bytes_2 b y.1

one_from : (words : List (List ℕ)) (a b : ℕ) → SaysFrom words a → SaysFrom words b → a ≡ b
one_from (word ∷ []) a b x y = one_number word a b x y
one_from _ a b x y = absurd x

one_sign : (words : List (List ℕ)) (a b : Signing) → SaysSign words a → SaysSign words b → a ≡ b
one_sign (p1 ∷ p2 ∷ word ∷ []) a b x y =
    let p = one_byte p1 a.p1 b.p1 x.0 y.0 in
    let q = one_byte p2 a.p2 b.p2 x.1 y.1 in
    let before = one_some_or_none 255 word a.before b.before x.2 y.2 in
    (λ i. record { p1 = p i; p2 = q i; before = before i })
one_sign _ a b x y = absurd x

one_aids : (words : List (List ℕ)) (a b : Aids) → SpellAids words a → SpellAids words b → a ≡ b
one_aids (u ∷ []) (One a) (One b) x y = ap One (one_aid u a b x y)
one_aids (u ∷ v ∷ []) (Two a b) (Two c d) x y =
    let first = one_aid u a c x.0 y.0 in
    let second = one_aid v b d x.1 y.1 in
    (λ i. Two (first i) (second i))
one_aids (u ∷ v ∷ w ∷ []) (Three a b c) (Three d e f) x y =
    let first = one_aid u a d x.0 y.0 in
    let second = one_aid v b e x.1 y.1 in
    let third = one_aid w c f x.2 y.2 in
    (λ i. Three (first i) (second i) (third i))
one_aids (u ∷ []) (One a) (Two c d) x y = absurd y
one_aids (u ∷ []) (One a) (Three d e f) x y = absurd y
one_aids (u ∷ v ∷ []) (Two a b) (One c) x y = absurd y
one_aids (u ∷ v ∷ []) (Two a b) (Three d e f) x y = absurd y
one_aids (u ∷ v ∷ w ∷ []) (Three a b c) (One d) x y = absurd y
one_aids (u ∷ v ∷ w ∷ []) (Three a b c) (Two d e) x y = absurd y
one_aids _ a b x y = absurd x

one_receipt : (words : List (List ℕ)) (a b : Receipted) → SaysReceipt words a → SaysReceipt words b → a ≡ b
one_receipt (word ∷ aids) a b x y =
    let reply = one_up_to 48 word a.reply b.reply x.0 y.0 in
    let named = one_aids aids a.aids b.aids x.1 y.1 in
    (λ i. record { reply = reply i; aids = named i })
one_receipt _ a b x y = absurd x

letter : List ℕ → ℕ
letter word = slice_index word 0

-- the letter that a line begins with, which is below the letters where it says nothing
abbrev Begins : DeskLine → ℕ → Type 0
Begins Nothing l = l ≤ 35
Begins (Key key) l = l ≡ 107
Begins (Unique bytes) l = l ≡ 117
Begins (From number) l = l ≡ 102
Begins (Sign s) l = l ≡ 115
Begins (Receipt r) l = l ≡ 114

words_begin : (words : List (List ℕ)) (line : DeskLine) → SaysWords words line → Begins line (letter (first words))
unfolding letter
words_begin words Nothing says = absurd says
words_begin [] line says = absurd says
words_begin (verb ∷ words) _ says = ap letter says.0

nothing_begins : (text : List ℕ) → SaysDesk text Nothing → letter (first (words_of text)) ≤ 35
unfolding letter
nothing_begins text (inl blank) = let l : letter (first (words_of text)) ≡ 0 = ap letter (blank_first text blank) in omega (arith, l)
nothing_begins text (inr comment) = let l : letter (first (words_of text)) ≡ 35 = ap letter (comment_first text comment).1 in omega (arith, l)

one_words : (words : List (List ℕ)) (a b : DeskLine) → SaysWords words a → SaysWords words b → a ≡ b
one_words (verb ∷ words) (Key a) (Key b) x y = ap Key (one_key_line words a b x.1 y.1)
one_words (verb ∷ words) (Unique a) (Unique b) x y = ap Unique (one_unique words a b x.1 y.1)
one_words (verb ∷ words) (From a) (From b) x y = ap From (one_from words a b x.1 y.1)
one_words (verb ∷ words) (Sign a) (Sign b) x y = ap Sign (one_sign words a b x.1 y.1)
one_words (verb ∷ words) (Receipt a) (Receipt b) x y = ap Receipt (one_receipt words a b x.1 y.1)
one_words words Nothing b x y = absurd x
one_words (verb ∷ words) a b x y =
    let p = words_begin (verb ∷ words) a x in
    let q = words_begin (verb ∷ words) b y in
    absurd (omega (arith, p, q))
one_words [] a b x y = absurd x

-- a line that says nothing says no words
no_words : (text : List ℕ) (line : DeskLine) → SaysDesk text Nothing → SaysWords (words_of text) line → ⊥
no_words text Nothing nothing says = absurd says
no_words text line nothing says =
    let p = nothing_begins text nothing in
    let q = words_begin (words_of text) line says in
    omega (arith, p, q)

pub one_desk_line : OneDeskLine
one_desk_line text Nothing Nothing x y = refl
one_desk_line text Nothing b x y = absurd (no_words text b x y)
one_desk_line text a Nothing x y = absurd (no_words text a y x)
one_desk_line text a b x y = one_words (words_of text) a b x y
