-- How the chaining value and the held bytes follow a message as it grows.
use Rattle.std.proofs.Common.{◌≡◌, ℕ, ◌+◌, ◌-◌, ◌*◌, ◌/◌, ◌%◌, ◌<◌, ◌≤◌, List, [], ◌∷◌, ◌++◌, length, take, drop, get_or, ◌≢◌, subst, refl, sym, ap, ◌∙◌, arith, eq-eqb}
use Rattle.std.proofs.lemmas.Bool.{ne_eqb}
use Rattle.std.proofs.lemmas.List.{length-append, length-drop, length-take-le, take-append-drop, append_assoc, append-nil, drop_at, take_more, take_at, drop_all, drop-drop}
use Rattle.std.proofs.lemmas.Slice.{take-put_mid}
use borrow.Rule.Slice.PartMut.{put_mid}
use Rattle.aes_block.specs.Cipher.{IsBlock, cipher, xor_bytes}
use Rattle.aes_block.proofs.CipherLemmas.{cipher_is_block}
use Rattle.cmac_kdf.specs.Blocks.{zero_block, first_blocks, blocks, padded}
use Rattle.cmac_kdf.specs.Cmac.{chained, first_subkey, second_subkey, blocks_before_last, last_bytes, last_block, cmac}
use Rattle.cmac_kdf.specs.Feeding.{MessageState, MacState, state_of, mac_of}
use Rattle.cmac_kdf.proofs.BlockLemmas.{first_blocks-append, blocks-append, blocks_of_one}

pub chained-append : (key c : List ℕ) (xs ys : List (List ℕ)) → chained key c (xs ++ ys) ≡ chained key (chained key c xs) ys
unfolding chained
chained-append key c [] ys = refl
chained-append key c (x ∷ xs) ys = chained-append key (cipher key (xor_bytes c x)) xs ys

-- a loop over the blocks: before the first, one more, and after the last
pub chained_none : (key c : List ℕ) (xs : List (List ℕ)) → c ≡ chained key c (take 0 xs)
unfolding chained
chained_none key c xs = refl

pub chained_more : (key c s t : List ℕ) (xs : List (List ℕ)) (i : ℕ) → i < length xs → s ≡ chained key c (take i xs)
    → t ≡ cipher key (xor_bytes s (get_or xs i [])) → t ≡ chained key c (take (i + 1) xs)
unfolding chained
chained_more key c s t xs i lt es et =
    et ∙ ap (λ (u : List ℕ). cipher key (xor_bytes u (get_or xs i []))) es
    ∙ sym (chained-append key c (take i xs) (get_or xs i [] ∷ [])) ∙ ap (chained key c) (sym (take_more xs i [] lt))

-- ---- the message as the blocks taken in, and what is held

-- the state is that of this message
pub record Stands (key : List ℕ) (state : MessageState) (message : List ℕ) : Type 0 where
  pub before : state.chain ≡ chained key zero_block (first_blocks (blocks_before_last message) message)
  pub last : state.held ≡ last_bytes message

pub stands_for : (key : List ℕ) (s : MessageState) (m : List ℕ) → s ≡ state_of key m → Stands key s m
unfolding state_of
stands_for key s m e = record { before = ap (λ (t : MessageState). t.chain) e; last = ap (λ (t : MessageState). t.held) e }

pub state_is : (key : List ℕ) (s : MessageState) (m : List ℕ) → Stands key s m → s ≡ state_of key m
unfolding state_of
state_is key s m stands = (λ i. record { chain = stands.before i; held = stands.last i })

-- the blocks taken in are a, and the bytes held are h
pub record IsSplit (key : List ℕ) (s : MessageState) (m a h : List ℕ) : Type 0 where
  pub whole : length a % 16 ≡ 0
  pub joined : m ≡ a ++ h
  pub last : (length a + length h - 1) / 16 ≡ length a / 16
  pub short : length h ≤ 16
  pub before : s.chain ≡ chained key zero_block (blocks a)
  pub held : s.held ≡ h

pub Stands-IsSplit : (key : List ℕ) (s : MessageState) (m : List ℕ) → Stands key s m → IsSplit key s m (take (16 * blocks_before_last m) m) s.held
Stands-IsSplit key s m stands =
    let q : ℕ = blocks_before_last m in
    let a : List ℕ = take (16 * q) m in
    let h : List ℕ = drop (16 * q) m in
    let la : length a ≡ 16 * q = length-take-le (16 * q) m (omega arith) in
    let lh : length h ≡ length m - 16 * q = length-drop (16 * q) m in
    let m_is : m ≡ a ++ h = sym (take-append-drop (16 * q) m) in
    let count : length a / 16 ≡ q = omega arith in
    let front : first_blocks q (a ++ h) ≡ blocks a =
    first_blocks-append (length a / 16) 0 q a h (omega arith) (omega arith) ∙ append-nil (blocks a) in
    let lhs : length s.held ≡ length h = ap length stands.last in
    record {
      whole = omega arith;
      joined = m_is ∙ ap (λ (t : List ℕ). a ++ t) (sym stands.last);
      last = omega arith;
      short = omega arith;
      before = stands.before ∙ ap (λ (t : List ℕ). chained key zero_block (first_blocks q t)) m_is ∙ ap (chained key zero_block) front;
      held = refl;
    }

pub IsSplit-Stands : (key : List ℕ) (s : MessageState) (m a h : List ℕ) → IsSplit key s m a h → Stands key s m
IsSplit-Stands key s m a h split =
    let lm : length m ≡ length a + length h = ap length split.joined ∙ length-append a h in
    let count : blocks_before_last m ≡ length a / 16 = omega (arith, split.last) in
    let front : first_blocks (blocks_before_last m) m ≡ blocks a =
    (λ i. first_blocks (count i) (split.joined i))
    ∙ first_blocks-append (length a / 16) 0 (length a / 16) a h (omega (arith, split.whole)) (omega arith) ∙ append-nil (blocks a) in
    let back : last_bytes m ≡ h =
    (λ i. drop (16 * count i) (split.joined i)) ∙ drop_at a h (16 * (length a / 16)) (omega (arith, split.whole)) in
    record {
      before = split.before ∙ ap (chained key zero_block) (sym front);
      last = split.held ∙ sym back;
    }

-- a state with nothing taken in and nothing held
pub state_of_none : (key : List ℕ) → record { chain = zero_block; held = [] } ≡ state_of key []
unfolding state_of chained
state_of_none key = refl

-- bytes that the held block has room for
pub Stands_short : (key : List ℕ) (s t : MessageState) (m d : List ℕ) → Stands key s m → length s.held + length d ≤ 16
    → t.chain ≡ s.chain → t.held ≡ s.held ++ d → Stands key t (m ++ d)
Stands_short key s t m d stands room ec eh =
    let a : List ℕ = take (16 * blocks_before_last m) m in
    let p : IsSplit key s m a s.held = Stands-IsSplit key s m stands in
    let whole : length a % 16 ≡ 0 = p.whole in
    let last : (length a + length s.held - 1) / 16 ≡ length a / 16 = p.last in
    let lh : length (s.held ++ d) ≡ length s.held + length d = length-append s.held d in
    IsSplit-Stands key t (m ++ d) a (s.held ++ d) (record {
      whole = whole;
      joined = ap (λ (x : List ℕ). x ++ d) p.joined ∙ append_assoc a s.held d;
      last = omega arith;
      short = omega arith;
      before = ec ∙ p.before;
      held = eh;
    })

-- more bytes: the held block is filled and taken in, then further blocks, and the rest is held
pub Stands_long : (key : List ℕ) (s t : MessageState) (m d first middle rest c : List ℕ) → Stands key s m → d ≡ first ++ (middle ++ rest)
    → length s.held + length first ≡ 16 → length middle % 16 ≡ 0 → 0 < length rest → length rest ≤ 16
    → c ≡ cipher key (xor_bytes s.chain (s.held ++ first)) → t.chain ≡ chained key c (blocks middle) → t.held ≡ rest → Stands key t (m ++ d)
unfolding chained
Stands_long key s t m d first middle rest c stands ed full whole some few ec et eh =
    let a : List ℕ = take (16 * blocks_before_last m) m in
    let p : IsSplit key s m a s.held = Stands-IsSplit key s m stands in
    let b : List ℕ = s.held ++ first in
    let lb : length b ≡ 16 = length-append s.held first ∙ full in
    let a_whole : length a % 16 ≡ 0 = p.whole in
    let lab : length (a ++ b) ≡ length a + length b = length-append a b in
    let labm : length ((a ++ b) ++ middle) ≡ length (a ++ b) + length middle = length-append (a ++ b) middle in
    let taken : blocks ((a ++ b) ++ middle) ≡ (blocks a ++ b ∷ []) ++ blocks middle =
    blocks-append (a ++ b) middle (omega arith) ∙ ap (λ (x : List (List ℕ)). x ++ blocks middle) (blocks-append a b a_whole ∙ ap (λ (x : List (List ℕ)). blocks a ++ x) (blocks_of_one b lb)) in
    let chain : chained key zero_block ((blocks a ++ b ∷ []) ++ blocks middle) ≡ chained key (cipher key (xor_bytes (chained key zero_block (blocks a)) b)) (blocks middle) =
    chained-append key zero_block (blocks a ++ b ∷ []) (blocks middle)
    ∙ ap (λ (x : List ℕ). chained key x (blocks middle)) (chained-append key zero_block (blocks a) (b ∷ [])) in
    let filled : c ≡ cipher key (xor_bytes (chained key zero_block (blocks a)) b) = ec ∙ (λ i. cipher key (xor_bytes (p.before i) b)) in
    let joined : m ++ d ≡ ((a ++ b) ++ middle) ++ rest =
    (λ i. p.joined i ++ ed i) ∙ sym (append_assoc (a ++ s.held) first (middle ++ rest)) ∙ ap (λ (x : List ℕ). x ++ (middle ++ rest)) (append_assoc a s.held first)
    ∙ sym (append_assoc (a ++ b) middle rest) in
    IsSplit-Stands key t (m ++ d) ((a ++ b) ++ middle) rest (record {
      whole = omega arith;
      joined = joined;
      last = omega arith;
      short = few;
      before = et ∙ (λ i. chained key (filled i) (blocks middle)) ∙ sym chain ∙ ap (chained key zero_block) (sym taken);
      held = eh;
    })

-- ---- the last block

pub last_block_whole : (key b : List ℕ) → length b ≡ 16 → xor_bytes (first_subkey key) b ≡ last_block key b
unfolding last_block
last_block_whole key b lb = rw (eq-eqb (length b) 16 lb) refl

pub last_block_cut : (key b : List ℕ) → length b < 16 → xor_bytes (second_subkey key) (padded b) ≡ last_block key b
unfolding last_block
last_block_cut key b lb = rw (ne_eqb (length b) 16 (λ e. absurd (omega arith))) refl

-- the cipher of the last block added to the chaining value
pub cmac_from : (key c b x m : List ℕ) → c ≡ chained key zero_block (first_blocks (blocks_before_last m) m) → b ≡ last_block key (last_bytes m)
    → x ≡ cipher key (xor_bytes c b) → x ≡ cmac key m
unfolding cmac chained
cmac_from key c b x m ec eb e =
    e ∙ (λ i. cipher key (xor_bytes (ec i) (eb i)))
    ∙ sym (chained-append key zero_block (first_blocks (blocks_before_last m) m) (last_block key (last_bytes m) ∷ []))

-- a whole last block added to the first subkey, and a cut one, padded, to the second
pub masked_whole : (key b k : List ℕ) → length b ≡ 16 → k ≡ first_subkey key → xor_bytes k b ≡ last_block key b
masked_whole key b k lb ek = ap (λ (t : List ℕ). xor_bytes t b) ek ∙ last_block_whole key b lb

pub masked_cut : (key b k p : List ℕ) → length b ≤ 16 → length b ≢ 16 → k ≡ second_subkey key → p ≡ padded b → xor_bytes k p ≡ last_block key b
masked_cut key b k p le ne ek ep = (λ i. xor_bytes (ek i) (ep i)) ∙ last_block_cut key b (omega arith)

-- ---- what feed writes

-- d written after the first n bytes of the held block
pub held_more : (held d ys : List ℕ) (n k : ℕ) → length held ≡ 16 → n ≤ 16 → ys ≡ d → take (n + length d) (put_mid n k held ys) ≡ take n held ++ d
held_more held d ys n k lh le e =
    take-put_mid n k held ys (n + length d) (omega (arith, ap length e)) (omega arith) ∙ ap (λ (x : List ℕ). take n held ++ x) e

-- d written over the rest of the held block
pub held_full : (held d ys : List ℕ) (n : ℕ) → length held ≡ 16 → n ≤ 16 → ys ≡ d → put_mid n (16 - n) held ys ≡ take n held ++ d
held_full held d ys n lh le e =
    let none : drop (16 - n) (drop n held) ≡ [] = drop_all (16 - n) (drop n held) (omega (arith, length-drop n held)) in
    (λ i. take n held ++ (e i ++ none i)) ∙ ap (λ (x : List ℕ). take n held ++ x) (append-nil d)

module _ (key chain held m d : List ℕ) (n last : ℕ) (lh : length held ≡ 16) (le : n ≤ 16) (more : 16 - n < length d)
    (at : last ≡ 16 - n + (length d - (16 - n) - 1) / 16 * 16) where
  -- the bytes fed: those that fill the block, whole blocks, and the rest
  fed_parts : d ≡ take (16 - n) d ++ (take (last - (16 - n)) (drop (16 - n) d) ++ drop last d)
  fed_parts =
      let e : 16 - n + (last - (16 - n)) ≡ last = omega arith in
      let rest : drop (last - (16 - n)) (drop (16 - n) d) ≡ drop last d = drop-drop (last - (16 - n)) (16 - n) d ∙ ap (λ (j : ℕ). drop j d) e in
      sym (take-append-drop (16 - n) d)
      ∙ ap (λ (x : List ℕ). take (16 - n) d ++ x) (sym (take-append-drop (last - (16 - n)) (drop (16 - n) d)) ∙ ap (λ (x : List ℕ). take (last - (16 - n)) (drop (16 - n) d) ++ x) rest)

  pub Stands_fed : (first tail c e z : List ℕ) (j : ℕ) → Stands key (record { chain = chain; held = take n held }) m
      → first ≡ take (16 - n) d → c ≡ cipher key (xor_bytes chain (put_mid n (16 - n) held first))
      → e ≡ chained key c (blocks (take (last - (16 - n)) (drop (16 - n) d))) → tail ≡ drop last d → j ≡ length (drop last d)
      → Stands key (record { chain = e; held = take j (tail ++ z) }) (m ++ d)
  Stands_fed first tail c e z j stands ef ec ee et ej =
      let middle : List ℕ = take (last - (16 - n)) (drop (16 - n) d) in
      let lf : length (take (16 - n) d) ≡ 16 - n = length-take-le (16 - n) d (omega arith) in
      let lk : length (take n held) ≡ n = length-take-le n held (omega arith) in
      let lm : length middle ≡ last - (16 - n) = length-take-le (last - (16 - n)) (drop (16 - n) d) (omega (arith, length-drop (16 - n) d)) in
      let lr : length (drop last d) ≡ length d - last = length-drop last d in
      Stands_long key (record { chain = chain; held = take n held }) _ m d (take (16 - n) d) middle (drop last d) c stands
      fed_parts (omega arith) (omega arith) (omega arith) (omega arith)
      (ec ∙ ap (λ (x : List ℕ). cipher key (xor_bytes chain x)) (held_full held (take (16 - n) d) first n lh le ef))
      ee (take_at tail z j (ap length et ∙ sym ej) ∙ et)

-- whatever the key and the message are, the CMAC is sixteen bytes
pub cmac_is_block : (key m : List ℕ) → IsBlock (cmac key m)
unfolding cmac chained
cmac_is_block key m =
    let xs : List (List ℕ) = first_blocks (blocks_before_last m) m in
    let b : List ℕ = last_block key (last_bytes m) in
    let P : List ℕ → Type 0 = λ s. IsBlock s in
    subst P (sym (chained-append key zero_block xs (b ∷ []))) (cipher_is_block key (xor_bytes (chained key zero_block xs) b))

-- ---- a message that is there whole

-- the blocks of the bytes before the last block
pub blocks_before : (m : List ℕ) (n last : ℕ) → n ≡ length m - 1 → last ≡ n / 16 * 16 → blocks (take last m) ≡ first_blocks (blocks_before_last m) m
blocks_before m n last en el =
    let long : length (take last m) ≡ last = length-take-le last m (omega arith) in
    sym (append-nil (blocks (take last m)))
    ∙ sym (first_blocks-append (length (take last m) / 16) 0 (blocks_before_last m) (take last m) (drop last m) (omega arith) (omega arith))
    ∙ ap (first_blocks (blocks_before_last m)) (take-append-drop last m)

pub last_past : (m : List ℕ) (n last : ℕ) → n ≡ length m - 1 → last ≡ n / 16 * 16 → drop last m ≡ last_bytes m
last_past m n last en el =
    let same : last ≡ 16 * blocks_before_last m = omega arith in
    ap (λ (k : ℕ). drop k m) same

pub mac_parts : (key m k : List ℕ) (s : MessageState) → record { key = k; state = s } ≡ mac_of key m → (k ≡ key) × (s ≡ state_of key m)
unfolding mac_of
mac_parts key m k s e = (ap (λ (t : MacState). t.key) e, ap (λ (t : MacState). t.state) e)
