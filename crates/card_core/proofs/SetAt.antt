-- A place of a list that is set, and what holds of two lists place by place.
use Rattle.std.proofs.Common.{◌≡◌, ◌≢◌, ℕ, zero, suc, ◌<◌, List, [], ◌∷◌, Option, None, refl, sym, subst, inl, inr, length}
use Rattle.std.specs.Prelude.{slice_index_or, slice_set}
use Rattle.std.proofs.lemmas.Bool.Decides.{eqb_tells}
use Rattle.std.proofs.lemmas.List.{get_or-set_other, get_or-set_same}

-- the list is another one but for this place, and has this there
pub record IsSetAt {A : Type 0} (before after : List A) (number : ℕ) (x none : A) : Type 0 where
  pub here : slice_index_or after number none ≡ x
  pub other : (n : ℕ) → n ≢ number → slice_index_or after n none ≡ slice_index_or before n none

pub set_at : {A : Type 0} (xs : List A) (number : ℕ) (x none : A) → number < length xs → IsSetAt xs (slice_set xs number x) number x none
set_at xs number x none within = record {
  here = get_or-set_same xs number x none within;
  other = λ n apart. get_or-set_other xs number n x none apart;
}

-- nothing is put where there may be no place
pub none_at : {A : Type 0} (xs : List (Option A)) (number : ℕ) → IsSetAt xs (slice_set xs number None) number None None
none_at {A} xs number = record { here = none_there xs number; other = λ n apart. get_or-set_other xs number n None None apart }
  where
    none_there : (xs : List (Option A)) (number : ℕ) → slice_index_or (slice_set xs number None) number None ≡ None
    none_there [] zero = refl
    none_there [] (suc number) = refl
    none_there (x ∷ xs) zero = refl
    none_there (x ∷ xs) (suc number) = none_there xs number

-- the list stays as it was
pub same_at : {A : Type 0} (xs : List A) (number : ℕ) (none : A) → IsSetAt xs xs number (slice_index_or xs number none) none
same_at xs number none = record { here = refl; other = λ n apart. refl }

-- what holds of two lists place by place holds of them when a place of each is set
pub set_each : {A B : Type 0} (holds : A → B → Type 0) (xs xs' : List A) (ys ys' : List B) (number : ℕ) (x none : A) (y nothing : B)
    → IsSetAt xs xs' number x none → IsSetAt ys ys' number y nothing → holds x y → (n : ℕ) → holds (slice_index_or xs n none) (slice_index_or ys n nothing)
    → holds (slice_index_or xs' n none) (slice_index_or ys' n nothing)
set_each holds xs xs' ys ys' number x none y nothing set_x set_y there n kept = elim (eqb_tells n number) [
  | inl same ↦ subst (λ (m : ℕ). holds (slice_index_or xs' m none) (slice_index_or ys' m nothing)) (sym same.1)
      (subst (λ a. holds a (slice_index_or ys' number nothing)) (sym set_x.here) (subst (holds x) (sym set_y.here) there))
  | inr differs ↦ subst (λ a. holds a (slice_index_or ys' n nothing)) (sym (set_x.other n differs.1))
      (subst (holds (slice_index_or xs n none)) (sym (set_y.other n differs.1)) kept)
]
