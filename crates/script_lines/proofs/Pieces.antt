-- The bytes of a Load File, piece by piece.
use Rattle.std.proofs.Common.{◌≡◌, ◌≤◌, ℕ, ◌+◌, ◌-◌, ◌*◌, List, [], ◌++◌, drop, length, replicate, take, ap, sym, ◌∙◌, arith, inl, inr}
use Rattle.std.specs.Prelude.{min}
use Rattle.std.proofs.Math.Seq.{drop-append-add, take-add, take-append-add}
use Rattle.std.proofs.lemmas.Bool.{cases_lt}
use Rattle.std.proofs.lemmas.List.{append-nil, drop-append-le, drop-replicate, drop_all, length-replicate, length-take-le, take-append-le, take-replicate, take_all, take_min}

-- a piece of bytes of one value
pub same_bytes : (count from size byte k : ℕ) → k ≡ min size (count - from) → size ≤ 247 → take k (replicate {A = ℕ} 247 byte) ≡ take size (drop from (replicate count byte))
same_bytes count from size byte k ek short =
    let left : ℕ = count - from in
    let some : min size (length (replicate {A = ℕ} left byte)) ≡ k = ap (min size) (length-replicate left byte) ∙ sym ek in
    take-replicate {X = ℕ} k 247 byte (omega (arith, ek))
    ∙ sym (take-replicate {X = ℕ} k left byte (omega (arith, ek)))
    ∙ ap (λ (n : ℕ). take n (replicate {A = ℕ} left byte)) (sym some)
    ∙ take_min size (replicate {A = ℕ} left byte)
    ∙ ap (λ (s : List ℕ). take size s) (sym (drop-replicate {X = ℕ} from count byte))

-- one piece more
pub take_piece : (s : List ℕ) (i : ℕ) → take (247 * (i + 1)) s ≡ take (247 * i) s ++ take 247 (drop (247 * i) s)
take_piece s i =
    let next : 247 * (i + 1) ≡ 247 * i + 247 = omega arith in
    ap (λ (n : ℕ). take n s) next ∙ take-add (247 * i) 247 s

-- the front of two lists, one after the other
front_of_two : (x b : List ℕ) (size : ℕ) → take size x ++ take (size - length (take size x)) b ≡ take size (x ++ b)
front_of_two x b size = elim (cases_lt size (length x)) [
  | inl lt ↦
      let none : size - length (take size x) ≡ 0 = omega (arith, length-take-le size x (omega arith)) in
      ap (λ (n : ℕ). take size x ++ take n b) none ∙ append-nil (take size x) ∙ sym (take-append-le size x b (omega arith))
  | inr ge ↦
      let whole : take size x ≡ x = take_all size x ge in
      let more : length x + (size - length x) ≡ size = omega arith in
      ap (λ (s : List ℕ). s ++ take (size - length s) b) whole ∙ sym (take-append-add x b (size - length x)) ∙ ap (λ (n : ℕ). take n (x ++ b)) more
]

-- a part of them
pub part_of_two : (h b : List ℕ) (sent size : ℕ)
    → take size (drop sent h) ++ take (size - length (take size (drop sent h))) (drop (sent - length h) b) ≡ take size (drop sent (h ++ b))
part_of_two h b sent size = elim (cases_lt sent (length h)) [
  | inl lt ↦
      let none : sent - length h ≡ 0 = omega arith in
      ap (λ (n : ℕ). take size (drop sent h) ++ take (size - length (take size (drop sent h))) (drop n b)) none
      ∙ front_of_two (drop sent h) b size
      ∙ ap (λ (s : List ℕ). take size s) (sym (drop-append-le sent h b (omega arith)))
  | inr ge ↦
      let rest : List ℕ = drop (sent - length h) b in
      let none : drop sent h ≡ [] = drop_all sent h ge in
      let more : length h + (sent - length h) ≡ sent = omega arith in
      ap (λ (s : List ℕ). take size s ++ take (size - length (take size s)) rest) none
      ∙ front_of_two [] rest size
      ∙ ap (λ (s : List ℕ). take size s) (sym (drop-append-add h b (sent - length h)) ∙ ap (λ (n : ℕ). drop n (h ++ b)) more)
]

pub two_parts : (h b front back : List ℕ) (sent size : ℕ) → front ≡ take size (drop sent h) → back ≡ take (size - length front) (drop (sent - length h) b)
    → front ++ back ≡ take size (drop sent (h ++ b))
two_parts h b front back sent size ef eb =
    (λ i. ef i ++ (eb ∙ ap (λ (s : List ℕ). take (size - length s) (drop (sent - length h) b)) ef) i) ∙ part_of_two h b sent size
