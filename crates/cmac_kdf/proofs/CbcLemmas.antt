-- CBC block by block; that it gives as many bytes as it takes, and that no others give the same.
use Rattle.std.proofs.Common.{◌≡◌, ℕ, zero, suc, ◌+◌, ◌*◌, ◌/◌, ◌%◌, ◌≤◌, List, [], ◌∷◌, ◌++◌, length, take, drop, subst, refl, sym, ap, ◌∙◌, arith, inl, inr}
use Rattle.std.proofs.lemmas.Bool.{cases_lt}
use Rattle.std.proofs.lemmas.List.{length-append, length-drop, length-take-le, take-append-drop, append_assoc, append-nil, nil_from_length, take_all, take_at, drop_at, get_or-take, get_or_past, get_or-drop, take-take, drop-take, drop-drop}
use Rattle.std.proofs.lemmas.Slice.{take-put_mid, drop-put_mid}
use borrow.Rule.Slice.PartMut.{put_mid}
use Rattle.aes_block.specs.Cipher.{IsBlock, cipher, xor_bytes}
use Rattle.aes_block.proofs.CipherLemmas.{cipher_is_block, same_block, xor_bytes_is_block, xor_bytes_twice}
use Rattle.cmac_kdf.specs.Blocks.{IsBytes, first_blocks, blocks, padded, padded_length}
use Rattle.cmac_kdf.specs.Cbc.{cbc_blocks, cbc, sealed}
use Rattle.cmac_kdf.proofs.BlockLemmas.{blocks-append, blocks_of_one}
use Rattle.cmac_kdf.proofs.PaddingLemmas.{length-padded, IsBytes-padded, padded_cancel}

-- the first blocks, plain, are encrypted to done, and c is the chaining value after them
pub record Encrypts (key icv plain done c : List ℕ) : Type 0 where
  pub then : (rest : List (List ℕ)) → cbc_blocks key icv (blocks plain ++ rest) ≡ done ++ cbc_blocks key c rest

pub Encrypts_none : (key icv : List ℕ) → Encrypts key icv [] [] icv
Encrypts_none key icv = record { then = λ rest. refl }

pub Encrypts_more : (key icv plain done c b x : List ℕ) → Encrypts key icv plain done c → length plain % 16 ≡ 0 → length b ≡ 16
    → x ≡ cipher key (xor_bytes b c) → Encrypts key icv (plain ++ b) (done ++ x) x
unfolding cbc_blocks
Encrypts_more key icv plain done c b x so_far whole lb ex = record {
  then = λ rest.
      let split : blocks (plain ++ b) ≡ blocks plain ++ b ∷ [] = blocks-append plain b whole ∙ ap (λ (s : List (List ℕ)). blocks plain ++ s) (blocks_of_one b lb) in
      ap (λ (s : List (List ℕ)). cbc_blocks key icv (s ++ rest)) split
      ∙ ap (cbc_blocks key icv) (append_assoc (blocks plain) (b ∷ []) rest)
      ∙ so_far.then (b ∷ rest)
      ∙ ap (λ (s : List ℕ). done ++ (s ++ cbc_blocks key s rest)) (sym ex)
      ∙ sym (append_assoc done x (cbc_blocks key x rest));
}

pub Encrypts_all : (key icv plain done c : List ℕ) → Encrypts key icv plain done c → done ≡ cbc key icv plain
unfolding cbc cbc_blocks
Encrypts_all key icv plain done c e =
    sym (append-nil done) ∙ sym (e.then []) ∙ ap (cbc_blocks key icv) (append-nil (blocks plain))

-- ---- a buffer that is worked through block by block

pub take_block : (s : List ℕ) (i : ℕ) → take (16 * (i + 1)) s ≡ take (16 * i) s ++ take 16 (drop (16 * i) s)
take_block s i =
    let e : 16 * (i + 1) ≡ 16 * i + 16 = omega arith in
    let front : take (16 * i) (take (16 * i + 16) s) ≡ take (16 * i) s = take-take (16 * i) (16 * i + 16) s (omega arith) in
    ap (λ (n : ℕ). take n s) e ∙ sym (take-append-drop (16 * i) (take (16 * i + 16) s)) ∙ (λ j. front j ++ drop-take (16 * i) 16 s j)

pub drop_block : (s : List ℕ) (i : ℕ) → drop (16 * (i + 1)) s ≡ drop 16 (drop (16 * i) s)
drop_block s i =
    let e : 16 * (i + 1) ≡ 16 * i + 16 = omega arith in
    ap (λ (n : ℕ). drop n s) e ∙ sym (drop-drop 16 (16 * i) s)

module _ (s b : List ℕ) (i k : ℕ) (fits : 16 * i + 16 ≤ length s) (lb : length b ≡ 16) (lk : k ≡ 16) where
  pub take_written : take (16 * (i + 1)) (put_mid (16 * i) k s b) ≡ take (16 * i) s ++ b
  take_written = take-put_mid (16 * i) k s b (16 * (i + 1)) (omega arith) (omega arith)

  pub drop_written : drop (16 * (i + 1)) (put_mid (16 * i) k s b) ≡ drop 16 (drop (16 * i) s)
  drop_written = drop-put_mid (16 * i) k s b (16 * (i + 1)) (omega arith) (omega arith) (lb ∙ sym lk) ∙ drop_block s i

-- a buffer that was old, after i blocks of sealing
pub record SealsUpTo (key icv old now chain : List ℕ) (i : ℕ) : Type 0 where
  pub front : Encrypts key icv (take (16 * i) old) (take (16 * i) now) chain
  pub back : drop (16 * i) now ≡ drop (16 * i) old

-- a buffer that was old, after i blocks of unsealing
pub record UnsealsUpTo (key icv old now chain : List ℕ) (i : ℕ) : Type 0 where
  pub front : Encrypts key icv (take (16 * i) now) (take (16 * i) old) chain
  pub back : drop (16 * i) now ≡ drop (16 * i) old
  pub block : length chain ≡ 16
  pub bytes : IsBytes now

pub SealsUpTo_none : (key icv old : List ℕ) → SealsUpTo key icv old old icv 0
SealsUpTo_none key icv old = record { front = Encrypts_none key icv; back = refl }

pub UnsealsUpTo_none : (key icv old : List ℕ) → length icv ≡ 16 → IsBytes old → UnsealsUpTo key icv old old icv 0
UnsealsUpTo_none key icv old li b = record { front = Encrypts_none key icv; back = refl; block = li; bytes = b }

module _ (key icv old now chain : List ℕ) (i k : ℕ) (long : length now ≡ length old) (fits : 16 * i + 16 ≤ length old) (lk : k ≡ 16) where
  pub SealsUpTo_more : (b x w : List ℕ) → SealsUpTo key icv old now chain i → b ≡ xor_bytes (take 16 (drop (16 * i) now)) chain
      → x ≡ cipher key b → w ≡ x → SealsUpTo key icv old (put_mid (16 * i) k now w) x (i + 1)
  SealsUpTo_more b x w s eb ex ew =
      let lw : length w ≡ 16 = ap length (ew ∙ ex) ∙ (cipher_is_block key b).sixteen in
      let block : take 16 (drop (16 * i) now) ≡ take 16 (drop (16 * i) old) = ap (take 16) s.back in
      let lp : length (take (16 * i) old) ≡ 16 * i = length-take-le (16 * i) old (omega arith) in
      let lb : length (take 16 (drop (16 * i) old)) ≡ 16 = length-take-le 16 (drop (16 * i) old) (omega (arith, length-drop (16 * i) old)) in
      let made : x ≡ cipher key (xor_bytes (take 16 (drop (16 * i) old)) chain) = ex ∙ ap (cipher key) (eb ∙ ap (λ (u : List ℕ). xor_bytes u chain) block) in
      let P : List ℕ → List ℕ → Type 0 = λ p d. Encrypts key icv p d x in
      let front : P (take (16 * i) old ++ take 16 (drop (16 * i) old)) (take (16 * i) now ++ x) =
      Encrypts_more key icv (take (16 * i) old) (take (16 * i) now) chain (take 16 (drop (16 * i) old)) x s.front (omega arith) lb made in
      let done : take (16 * (i + 1)) (put_mid (16 * i) k now w) ≡ take (16 * i) now ++ x =
      take_written now w i k (omega arith) lw lk ∙ ap (λ (u : List ℕ). take (16 * i) now ++ u) ew in
      record {
        front = subst (λ (d : List ℕ). P (take (16 * (i + 1)) old) d) (sym done) (subst (λ (p : List ℕ). P p (take (16 * i) now ++ x)) (sym (take_block old i)) front);
        back = drop_written now w i k (omega arith) lw lk ∙ ap (drop 16) s.back ∙ sym (drop_block old i);
      }

  pub UnsealsUpTo_more : (c u b w : List ℕ) → UnsealsUpTo key icv old now chain i → c ≡ take 16 (drop (16 * i) now)
      → length u ≡ 16 → cipher key u ≡ c → b ≡ xor_bytes u chain → length b ≡ 16 → w ≡ b → IsBytes (put_mid (16 * i) k now w) → UnsealsUpTo key icv old (put_mid (16 * i) k now w) c (i + 1)
  UnsealsUpTo_more c u b w s ec lu eu eb lb ew bw =
      let lw : length w ≡ 16 = ap length ew ∙ lb in
      let block : c ≡ take 16 (drop (16 * i) old) = ec ∙ ap (take 16) s.back in
      let lc : length c ≡ 16 = ap length block ∙ length-take-le 16 (drop (16 * i) old) (omega (arith, length-drop (16 * i) old)) in
      let lp : length (take (16 * i) now) ≡ 16 * i = length-take-le (16 * i) now (omega arith) in
      let twice : xor_bytes b chain ≡ u = ap (λ (v : List ℕ). xor_bytes v chain) eb ∙ xor_bytes_twice u chain (omega (arith, s.block)) in
      let made : c ≡ cipher key (xor_bytes b chain) = sym eu ∙ ap (cipher key) (sym twice) in
      let P : List ℕ → List ℕ → Type 0 = λ p d. Encrypts key icv p d c in
      let front : P (take (16 * i) now ++ b) (take (16 * i) old ++ c) =
      Encrypts_more key icv (take (16 * i) now) (take (16 * i) old) chain b c s.front (omega arith) lb made in
      let plain : take (16 * (i + 1)) (put_mid (16 * i) k now w) ≡ take (16 * i) now ++ b =
      take_written now w i k (omega arith) lw lk ∙ ap (λ (v : List ℕ). take (16 * i) now ++ v) ew in
      let done : take (16 * (i + 1)) old ≡ take (16 * i) old ++ c = take_block old i ∙ ap (λ (v : List ℕ). take (16 * i) old ++ v) (sym block) in
      record {
        front = subst (λ (d : List ℕ). P (take (16 * (i + 1)) (put_mid (16 * i) k now w)) d) (sym done) (subst (λ (p : List ℕ). P p (take (16 * i) old ++ c)) (sym plain) front);
        back = drop_written now w i k (omega arith) lw lk ∙ ap (drop 16) s.back ∙ sym (drop_block old i);
        block = lc;
        bytes = bw;
      }

module _ (key icv old now chain : List ℕ) (i : ℕ) (long : length now ≡ length old) (whole : length old % 16 ≡ 0) (end : length old / 16 ≤ i) where
  pub SealsUpTo_all : SealsUpTo key icv old now chain i → now ≡ cbc key icv old
  SealsUpTo_all s =
      let n : take (16 * i) now ≡ now = take_all (16 * i) now (omega arith) in
      let o : take (16 * i) old ≡ old = take_all (16 * i) old (omega arith) in
      sym n ∙ Encrypts_all key icv (take (16 * i) old) (take (16 * i) now) chain s.front ∙ ap (cbc key icv) o

  pub UnsealsUpTo_all : UnsealsUpTo key icv old now chain i → cbc key icv now ≡ old
  UnsealsUpTo_all s =
      let n : take (16 * i) now ≡ now = take_all (16 * i) now (omega arith) in
      let o : take (16 * i) old ≡ old = take_all (16 * i) old (omega arith) in
      ap (cbc key icv) (sym n) ∙ sym (Encrypts_all key icv (take (16 * i) now) (take (16 * i) old) chain s.front) ∙ o

-- no bytes are encrypted to none
pub cbc_none : (key icv p : List ℕ) → length p ≡ 0 → cbc key icv p ≡ p
unfolding cbc cbc_blocks
cbc_none key icv p e = rw (nil_from_length p e) refl

-- ---- lengths

length-cbc_blocks : (key c p : List ℕ) (n : ℕ) → length (cbc_blocks key c (first_blocks n p)) ≡ 16 * n
unfolding cbc_blocks
length-cbc_blocks key c p zero = refl
length-cbc_blocks key c p (suc n) =
    let x : List ℕ = cipher key (xor_bytes (take 16 p) c) in
    let lx : length x ≡ 16 = (cipher_is_block key (xor_bytes (take 16 p) c)).sixteen in
    omega (arith, length-append x (cbc_blocks key x (first_blocks n (drop 16 p))), length-cbc_blocks key x (drop 16 p) n)

pub length-cbc : (key icv p : List ℕ) → length (cbc key icv p) ≡ 16 * (length p / 16)
unfolding cbc
length-cbc key icv p = length-cbc_blocks key icv p (length p / 16)

pub length-sealed : (key icv p : List ℕ) → length (sealed key icv p) ≡ padded_length (length p)
unfolding sealed
length-sealed key icv p = omega (arith, length-cbc key icv (padded p), length-padded p)

-- ---- at most one

block_of_bytes : (p : List ℕ) → IsBytes p → 16 ≤ length p → IsBlock (take 16 p)
block_of_bytes p b fits = record {
  sixteen = length-take-le 16 p fits;
  bytes = λ i. elim (cases_lt i 16) [
    | inl lt ↦ rw (get_or-take 16 p i 0 lt) (b.at i)
    | inr ge ↦ rw (get_or_past (take 16 p) i 0 (omega (arith, length-take-le 16 p fits))) (omega arith)
  ];
}

bytes_after : (p : List ℕ) → IsBytes p → IsBytes (drop 16 p)
bytes_after p b = record { at = λ i. rw (get_or-drop 16 p i 0) (b.at (16 + i)) }

-- blocks that differ are encrypted to blocks that differ
same_blocks : (key c p q : List ℕ) (n : ℕ) → IsBlock c → IsBytes p → IsBytes q → length p ≡ 16 * n → length q ≡ 16 * n
    → cbc_blocks key c (first_blocks n p) ≡ cbc_blocks key c (first_blocks n q) → p ≡ q
unfolding cbc_blocks
same_blocks key c p q zero bc bp bq lp lq e = nil_from_length p (omega arith) ∙ sym (nil_from_length q (omega arith))
same_blocks key c p q (suc n) bc bp bq lp lq e =
    let pb : IsBlock (take 16 p) = block_of_bytes p bp (omega arith) in
    let qb : IsBlock (take 16 q) = block_of_bytes q bq (omega arith) in
    let px : List ℕ = xor_bytes (take 16 p) c in
    let qx : List ℕ = xor_bytes (take 16 q) c in
    let x : List ℕ = cipher key px in
    let y : List ℕ = cipher key qx in
    let xs : List ℕ = cbc_blocks key x (first_blocks n (drop 16 p)) in
    let ys : List ℕ = cbc_blocks key y (first_blocks n (drop 16 q)) in
    let lx : length x ≡ 16 = (cipher_is_block key px).sixteen in
    let ly : length y ≡ 16 = (cipher_is_block key qx).sixteen in
    let first : x ≡ y = sym (take_at x xs 16 lx) ∙ ap (take 16) e ∙ take_at y ys 16 ly in
    let rest : xs ≡ ys = sym (drop_at x xs 16 lx) ∙ ap (drop 16) e ∙ drop_at y ys 16 ly in
    let sums : px ≡ qx = same_block key px qx (xor_bytes_is_block (take 16 p) c pb bc) (xor_bytes_is_block (take 16 q) c qb bc) first in
    let front : take 16 p ≡ take 16 q =
    sym (xor_bytes_twice (take 16 p) c (omega (arith, pb.sixteen, bc.sixteen))) ∙ ap (λ (s : List ℕ). xor_bytes s c) sums ∙ xor_bytes_twice (take 16 q) c (omega (arith, qb.sixteen, bc.sixteen)) in
    let back : drop 16 p ≡ drop 16 q =
    same_blocks key x (drop 16 p) (drop 16 q) n (cipher_is_block key px) (bytes_after p bp) (bytes_after q bq) (omega (arith, length-drop 16 p)) (omega (arith, length-drop 16 q))
    (rest ∙ ap (λ (s : List ℕ). cbc_blocks key s (first_blocks n (drop 16 q))) (sym first)) in
    sym (take-append-drop 16 p) ∙ (λ i. front i ++ back i) ∙ take-append-drop 16 q

-- whole blocks that are encrypted to the same are the same
pub same_plain : (key icv p q : List ℕ) → IsBlock icv → IsBytes p → IsBytes q → length p % 16 ≡ 0 → length p ≡ length q → cbc key icv p ≡ cbc key icv q → p ≡ q
unfolding cbc
same_plain key icv p q bi bp bq whole same e =
    let count : length q / 16 ≡ length p / 16 = omega arith in
    same_blocks key icv p q (length p / 16) bi bp bq (omega arith) (omega arith) (e ∙ ap (λ (n : ℕ). cbc_blocks key icv (first_blocks n q)) count)

-- bytes that are sealed to the same are the same
pub same_sealed : (key icv p q : List ℕ) → IsBlock icv → IsBytes p → IsBytes q → sealed key icv p ≡ sealed key icv q → p ≡ q
unfolding sealed
same_sealed key icv p q bi bp bq e =
    let long : length (cbc key icv (padded p)) ≡ length (cbc key icv (padded q)) = ap length e in
    padded_cancel p q
    (same_plain key icv (padded p) (padded q) bi (IsBytes-padded p bp) (IsBytes-padded q bq) (omega (arith, length-padded p))
    (omega (arith, length-padded p, length-padded q, length-cbc key icv (padded p), length-cbc key icv (padded q))) e)

-- the only bytes that can be sealed to old are those whose padding the unsealed blocks are
pub sealed_plain : (key icv old now p : List ℕ) → length now ≡ length old
    → ((q : List ℕ) → IsBytes q → length q ≡ length old → cbc key icv q ≡ old → q ≡ now) → IsBytes p → sealed key icv p ≡ old → padded p ≡ now
unfolding sealed
sealed_plain key icv old now p long alone b e =
    alone (padded p) (IsBytes-padded p b) (omega (arith, length-padded p, length-cbc key icv (padded p), ap length e)) e
