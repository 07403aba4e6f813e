-- The lines of a list, as they are written one after the other.
use Rattle.std.proofs.Common.{◌≡◌, ℕ, ◌+◌, ◌≤◌, List, [], ◌∷◌, ◌++◌, length, take, Option, None, Some, refl, ap, sym, ◌∙◌, arith, length-append}
use Rattle.std.specs.Prelude.{find}
use Rattle.std.specs.Cmp.{IsTotalOrder}
use Rattle.std.specs.List.{flat_map}
use Rattle.std.specs.List.Sorted.{IsStrictlySortedBy}
use Rattle.std.specs.declared.cmp.Ordering.{Ordering}
use Rattle.std.proofs.lemmas.Grind.{flat_map-append}
use Rattle.std.proofs.lemmas.List.{append-nil, flat_map_more}
use Rattle.gp_tool.proofs.Listed.{IsSplit, end_of, next_of, none_done}
use Rattle.gp_tool.proofs.Parts.{part_written}
use Rattle.gp_tool.specs.Listing.{is_past_last}

-- `count` lines of the list were written, up to that of the last one.
pub record IsWritten {X : Type 0} (c : X → X → Ordering) (line_of : X → List ℕ) (tells : Type 0) (xs : List X) (count : ℕ) (last : Option X) (old new : List ℕ) : Type 0 where
  pub done : List X
  pub rest : List X
  pub split : IsSplit c xs last done rest
  pub counted : length done ≡ count
  pub text : tells → new ≡ old ++ flat_map line_of done

module _ {X : Type 0} {c : X → X → Ordering} {line_of : X → List ℕ} {tells : Type 0} {xs : List X} where
  pub none_written : {old : List ℕ} → IsStrictlySortedBy c xs → IsWritten c line_of tells xs 0 None old old
  none_written {old} sorted = record {
    done = [];
    rest = xs;
    split = none_done c xs sorted;
    counted = refl;
    text = λ told. sym (append-nil old);
  }

  pub all_written : {count : ℕ} {last : Option X} {old new : List ℕ} → IsWritten c line_of tells xs count last old new → find (is_past_last c last) xs ≡ None
      → tells → new ≡ old ++ flat_map line_of xs
  all_written {last = last} {old = old} written none told =
      written.text told ∙ ap (λ done. old ++ flat_map line_of done) (sym (end_of c xs last written.done written.rest written.split none))

  -- as many lines were written as there are, or more
  pub enough_written : {count : ℕ} {last : Option X} {old new : List ℕ} → IsWritten c line_of tells xs count last old new → length xs ≤ count
      → tells → new ≡ old ++ flat_map line_of xs
  enough_written {old = old} written enough told =
      let none = no_rest written.rest (omega (arith, written.counted, ap (λ (x : List X). length x) written.split.all, length-append written.done written.rest)) in
      written.text told ∙ ap (λ done. old ++ flat_map line_of done) (sym (written.split.all ∙ ap (λ rest. written.done ++ rest) none ∙ append-nil written.done))
    where
      no_rest : (rest : List X) → length rest ≤ 0 → rest ≡ []
      no_rest [] none = refl
      no_rest (x ∷ rest) none = absurd (omega arith)

  -- the next line was written
  pub next_written : {count : ℕ} {last : Option X} {old mid new : List ℕ} → IsTotalOrder c → IsWritten c line_of tells xs count last old mid
      → (x : X) → find (is_past_last c last) xs ≡ Some x → (tells → new ≡ mid ++ line_of x) → IsWritten c line_of tells xs (count + 1) (Some x) old new
  next_written {last = last} {old = old} total written x found wrote =
      let next = next_of c total xs last written.done written.rest written.split x found in
      record {
        done = written.done ++ x ∷ [];
        rest = next.0;
        split = next.2;
        counted = length-append written.done (x ∷ []) ∙ ap (λ n. n + 1) written.counted;
        text = λ told. wrote told ∙ ap (λ m. m ++ line_of x) (written.text told) ∙ flat_map_more line_of old written.done x;
      }

  -- a part of the next line was written
  pub part_of_lines : {count : ℕ} {last : Option X} {old mid new : List ℕ} → IsTotalOrder c → IsWritten c line_of tells xs count last old mid
      → (x : X) → find (is_past_last c last) xs ≡ Some x → tells → (n : ℕ) × (new ≡ mid ++ take n (line_of x)) → (n : ℕ) × (new ≡ old ++ take n (flat_map line_of xs))
  part_of_lines {last = last} {old = old} {mid = mid} {new = new} total written x found told part =
      let next = next_of c total xs last written.done written.rest written.split x found in
      let all : flat_map line_of xs ≡ flat_map line_of written.done ++ (line_of x ++ flat_map line_of next.0)
      = ap (flat_map line_of) (written.split.all ∙ ap (λ rest. written.done ++ rest) next.1) ∙ flat_map-append line_of written.done (x ∷ next.0) in
      let wrote = part_written old (flat_map line_of written.done) (line_of x) (flat_map line_of next.0) mid new (written.text told) part in
      (wrote.0, wrote.1 ∙ ap (λ text. old ++ take wrote.0 text) (sym all))
