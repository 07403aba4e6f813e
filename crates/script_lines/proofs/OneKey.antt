-- Words spell one key, or one group of keys.
use Rattle.std.proofs.Common.{◌≡◌, ◌≤◌, ◌*◌, ℕ, List, [], ◌∷◌, length, refl, ap, sym, arith, slice_index}
use Rattle.std.specs.Prelude.{codes}
use Rattle.script_lines.proofs.OneValue.{one_byte, one_some, some_digits}
use Rattle.script_lines.specs.Keys.{SpellKeys, SpellTrio, SpellsKey}
use Rattle.script_lines.specs.PutKey.{SaysPutKey, SpellNewKeys, SpellSized}
use Rattle.script_lines.specs.TokenKey.{SaysTokens, token_verb}
use Rattle.script_lines.specs.declared.keys.OfSize.{OfSize}
use Rattle.script_lines.specs.declared.keys.OfSize.TheVariants.{Aes128, Aes192, Aes256}
use Rattle.script_lines.specs.declared.keys.Trio.{Trio}
use Rattle.script_lines.specs.declared.put_key.NewKeys.{NewKeys}
use Rattle.script_lines.specs.declared.put_key.NewKeys.TheVariants.{One, Three}
use Rattle.script_lines.specs.declared.put_key.Putting.{Putting}
use Rattle.script_lines.specs.declared.tokens.Tokens.{Tokens}
use Rattle.script_lines.specs.declared.tokens.Tokens.TheVariants.{Absent, Made, Damaged}

abbrev pub size_of : {A B C : Type 0} → OfSize A B C → ℕ
size_of (Aes128 a) = 16
size_of (Aes192 b) = 24
size_of (Aes256 c) = 32

-- what is said of a thing whose size the number of digits tells, where it says one of each size
abbrev IsOne : {A : Type 0} → (A → Type 0) → Type 0
IsOne {A} Says = (a b : A) → Says a → Says b → a ≡ b

one_sized : {A B C : Type 0} (Says : OfSize A B C → Type 0) (digits : ℕ) → ((x : OfSize A B C) → Says x → digits ≡ 2 * size_of x)
    → IsOne (λ a. Says (Aes128 a)) → IsOne (λ b. Says (Aes192 b)) → IsOne (λ c. Says (Aes256 c)) → IsOne Says
one_sized Says digits sized oa ob oc (Aes128 a) (Aes128 b) x y = ap Aes128 (oa a b x y)
one_sized Says digits sized oa ob oc (Aes192 a) (Aes192 b) x y = ap Aes192 (ob a b x y)
one_sized Says digits sized oa ob oc (Aes256 a) (Aes256 b) x y = ap Aes256 (oc a b x y)
one_sized Says digits sized oa ob oc a b x y =
    let m = sized a x in
    let n = sized b y in
    absurd (omega (arith, m, n))

key_digits : (word : List ℕ) (key : OfSize (List ℕ) (List ℕ) (List ℕ)) → SpellsKey word key → length word ≡ 2 * size_of key
unfolding SpellsKey
key_digits word (Aes128 key) x = some_digits 16 word key x
key_digits word (Aes192 key) x = some_digits 24 word key x
key_digits word (Aes256 key) x = some_digits 32 word key x

least_size : {A B C : Type 0} (x : OfSize A B C) → 16 ≤ size_of x
least_size (Aes128 a) = omega arith
least_size _ = omega arith

pub one_key : (word : List ℕ) (a b : OfSize (List ℕ) (List ℕ) (List ℕ)) → SpellsKey word a → SpellsKey word b → a ≡ b
unfolding SpellsKey
one_key word = one_sized (SpellsKey word) (length word) (key_digits word) (one_some 16 word) (one_some 24 word) (one_some 32 word)

-- the first word, or an empty one
abbrev pub first : List (List ℕ) → List ℕ
first [] = []
first (word ∷ words) = word

one_trio : (size : ℕ) (words : List (List ℕ)) (a b : Trio size) → SpellTrio size words a → SpellTrio size words b → a ≡ b
one_trio size (enc ∷ mac ∷ dek ∷ []) a b x y =
    let e = one_some size enc a.enc b.enc x.0 y.0 in
    let m = one_some size mac a.mac b.mac x.1 y.1 in
    let d = one_some size dek a.dek b.dek x.2 y.2 in
    λ i. record { enc = e i; mac = m i; dek = d i }
one_trio size _ a b x y = absurd x

trio_digits : (size : ℕ) (words : List (List ℕ)) (a : Trio size) → SpellTrio size words a → length (first words) ≡ 2 * size
trio_digits size (enc ∷ mac ∷ dek ∷ []) a x = some_digits size enc a.enc x.0
trio_digits size _ a x = absurd x

keys_digits : (words : List (List ℕ)) (keys : OfSize (Trio 16) (Trio 24) (Trio 32)) → SpellKeys words keys → length (first words) ≡ 2 * size_of keys
keys_digits words (Aes128 keys) x = trio_digits 16 words keys x
keys_digits words (Aes192 keys) x = trio_digits 24 words keys x
keys_digits words (Aes256 keys) x = trio_digits 32 words keys x

pub one_keys : (words : List (List ℕ)) (a b : OfSize (Trio 16) (Trio 24) (Trio 32)) → SpellKeys words a → SpellKeys words b → a ≡ b
one_keys words = one_sized (SpellKeys words) (length (first words)) (keys_digits words) (one_trio 16 words) (one_trio 24 words) (one_trio 32 words)

one_new : (size : ℕ) (words : List (List ℕ)) (a b : NewKeys size) → SpellNewKeys size words a → SpellNewKeys size words b → a ≡ b
one_new size (word ∷ []) (One a) (One b) x y = ap One (one_some size word a b x y)
one_new size (word ∷ []) (One a) (Three b) x y = absurd y
one_new size (word ∷ []) (Three a) b x y = absurd x
one_new size _ (One a) b x y = absurd x
one_new size _ (Three a) (One b) x y = absurd y
one_new size words (Three a) (Three b) x y = ap Three (one_trio size words a b x y)

new_digits : (size : ℕ) (words : List (List ℕ)) (a : NewKeys size) → SpellNewKeys size words a → length (first words) ≡ 2 * size
new_digits size (word ∷ []) (One a) x = some_digits size word a x
new_digits size _ (One a) x = absurd x
new_digits size words (Three a) x = trio_digits size words a x

sized_digits : (words : List (List ℕ)) (keys : OfSize (NewKeys 16) (NewKeys 24) (NewKeys 32)) → SpellSized words keys → length (first words) ≡ 2 * size_of keys
sized_digits words (Aes128 keys) x = new_digits 16 words keys x
sized_digits words (Aes192 keys) x = new_digits 24 words keys x
sized_digits words (Aes256 keys) x = new_digits 32 words keys x

pub one_putting : (words : List (List ℕ)) (a b : Putting) → SaysPutKey words a → SaysPutKey words b → a ≡ b
one_putting (old ∷ new ∷ words) a b x y =
    let r = one_byte old a.replaced b.replaced x.0 y.0 in
    let v = one_byte new a.version b.version x.1 y.1 in
    let k = one_sized (SpellSized words) (length (first words)) (sized_digits words) (one_new 16 words) (one_new 24 words) (one_new 32 words) a.keys b.keys x.2 y.2 in
    λ i. record { replaced = r i; version = v i; keys = k i }
one_putting _ a b x y = absurd x

no_key : (word : List ℕ) (key : OfSize (List ℕ) (List ℕ) (List ℕ)) → word ≡ codes "none" → SpellsKey word key → ⊥
no_key word key none spells =
    let digits = key_digits word key spells in
    let least = least_size key in
    let four : length word ≡ 4 = ap (λ l. length l) none in
    omega (arith, digits, least, four)

other_verb : codes "tokenkey" ≡ codes "badtoken" → ⊥
other_verb same =
    let letters : 116 ≡ 98 = ap (λ l. slice_index l 0) same in
    absurd (omega (arith, letters))

pub one_tokens : (words : List (List ℕ)) (a b : Tokens) → token_verb a ≡ token_verb b → SaysTokens words a → SaysTokens words b → a ≡ b
one_tokens (word ∷ []) Absent Absent e x y = refl
one_tokens (word ∷ []) Absent (Made b) e x y = absurd (no_key word b x y)
one_tokens (word ∷ []) (Made a) Absent e x y = absurd (no_key word a y x)
one_tokens (word ∷ []) (Made a) (Made b) e x y = ap Made (one_key word a b x y)
one_tokens (word ∷ []) (Damaged a) (Damaged b) e x y = ap Damaged (one_key word a b x y)
one_tokens (word ∷ []) (Damaged a) Absent e x y = absurd (other_verb (sym e))
one_tokens (word ∷ []) (Damaged a) (Made b) e x y = absurd (other_verb (sym e))
one_tokens (word ∷ []) Absent (Damaged b) e x y = absurd (other_verb e)
one_tokens (word ∷ []) (Made a) (Damaged b) e x y = absurd (other_verb e)
one_tokens _ Absent b e x y = absurd x
one_tokens _ (Made a) b e x y = absurd x
one_tokens _ (Damaged a) b e x y = absurd x
