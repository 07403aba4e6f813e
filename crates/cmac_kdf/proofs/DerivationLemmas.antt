-- The input of a round of the derivation, and its output of one round or two.
use Rattle.std.proofs.Common.{◌≡◌, ℕ, ◌+◌, ◌-◌, ◌*◌, ◌/◌, ◌<◌, ◌≤◌, List, [], ◌∷◌, ◌++◌, length, take, drop, get_or, sym, ap, ◌∙◌, arith}
use Rattle.std.specs.Int.{w16, to_be_bytes}
use Rattle.std.proofs.lemmas.List.{length-append, length-drop, take_at, drop_all, append-nil}
use Rattle.std.proofs.Math.Seq.{take-append-add}
use Rattle.std.proofs.lemmas.Slice.{take-put_mid}
use borrow.Rule.Slice.PartMut.{post_of, put_mid}
use Rattle.cmac_kdf.specs.Cmac.{cmac}
use Rattle.cmac_kdf.specs.Derivation.{derivation_data, derived_blocks, kdf}
use Rattle.cmac_kdf.proofs.CmacLemmas.{cmac_is_block}

abbrev header : ℕ → List ℕ → ℕ → List ℕ
header constant b i = 0 ∷ 0 ∷ 0 ∷ 0 ∷ 0 ∷ 0 ∷ 0 ∷ 0 ∷ 0 ∷ 0 ∷ 0 ∷ constant ∷ 0 ∷ get_or b 0 0 ∷ get_or b 1 0 ∷ i ∷ []

-- the front of a buffer over which the header x and then the context y were written
pub derivation_input : (constant bits i k : ℕ) (context b x y z : List ℕ) → b ≡ to_be_bytes w16 bits → x ≡ header constant b i → y ≡ context
    → take (16 + length context) (put_mid 16 k (x ++ z) y) ≡ derivation_data constant bits context i
unfolding derivation_data
derivation_input constant bits i k context b x y z eb ex ey =
    let lx : length x ≡ 16 = ap length ex in
    take-put_mid 16 k (x ++ z) y (16 + length context) (omega (arith, ap length ey)) (omega (arith, length-append x z))
    ∙ (λ j. (take_at x z 16 lx ∙ ex) j ++ ey j)
    ∙ ap (λ (s : List ℕ). header constant s i ++ context) eb

module _ (key context : List ℕ) (constant n : ℕ) where
  pub kdf_one : (x : List ℕ) → 0 < n → n ≤ 16 → x ≡ cmac key (derivation_data constant (8 * n) context 1) → take n x ≡ kdf key constant (8 * n) context
  unfolding kdf derived_blocks
  kdf_one x some few ex =
      let count : (8 * n + 127) / 128 ≡ 1 = omega arith in
      let cut : 8 * n / 8 ≡ n = omega arith in
      ap (take n) ex ∙ ap (λ (k : ℕ). take k (derived_blocks key constant (8 * n) context 1)) (sym cut)
      ∙ ap (λ (k : ℕ). take (8 * n / 8) (derived_blocks key constant (8 * n) context k)) (sym count)

  pub kdf_two : (x y out a b : List ℕ) (k : ℕ) → length out ≡ n → 16 < n → n ≤ 32
      → x ≡ cmac key (derivation_data constant (8 * n) context 1) → y ≡ cmac key (derivation_data constant (8 * n) context 2)
      → a ≡ x → b ≡ take (n - 16) y → k ≡ length (a ++ drop 16 out) - 16
      → take 16 (a ++ drop 16 out) ++ (b ++ post_of 16 k (a ++ drop 16 out)) ≡ kdf key constant (8 * n) context
  unfolding kdf derived_blocks
  kdf_two x y out a b k lo more few ex ey ea eb ek =
      let count : (8 * n + 127) / 128 ≡ 2 = omega arith in
      let cut : 8 * n / 8 ≡ n = omega arith in
      let la : length a ≡ 16 = ap length (ea ∙ ex) ∙ (cmac_is_block key (derivation_data constant (8 * n) context 1)).sixteen in
      let none : post_of 16 k (a ++ drop 16 out) ≡ [] = drop_all k (drop 16 (a ++ drop 16 out)) (omega (arith, length-drop 16 (a ++ drop 16 out))) in
      let front : take 16 (a ++ drop 16 out) ≡ x = take_at a (drop 16 out) 16 la ∙ ea in
      let lx : length x ≡ 16 = ap length (sym ea) ∙ la in
      let past : n ≡ length x + (n - 16) = omega arith in
      let joined : take n (x ++ y) ≡ x ++ take (n - 16) y = ap (λ (j : ℕ). take j (x ++ y)) past ∙ take-append-add x y (n - 16) in
      (λ i. front i ++ (eb i ++ none i)) ∙ ap (λ (s : List ℕ). x ++ s) (append-nil (take (n - 16) y)) ∙ sym joined
      ∙ ap (take n) (λ i. ex i ++ ey i)
      ∙ ap (λ (j : ℕ). take j (derived_blocks key constant (8 * n) context 2)) (sym cut)
      ∙ ap (λ (j : ℕ). take (8 * n / 8) (derived_blocks key constant (8 * n) context j)) (sym count)
