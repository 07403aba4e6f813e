-- What the data field of a DELETE of a key names, it names once.
use Rattle.std.proofs.Common.{◌≡◌, ℕ, List, ◌∷◌, Option, None, Some, refl, ap, sym, ◌∙◌, inl, inr, arith}
use Rattle.std.specs.Prelude.{slice_index_or}
use Rattle.policy_machine.specs.DeleteKey.{Chooses, AsksToDeleteKey, KeyChosen}

other_first : (rest others : List ℕ) → 0xD2 ∷ rest ≡ 0xD0 ∷ others → ⊥
other_first rest others same = (let first = ap (λ (bytes : List ℕ). slice_index_or bytes 0 0) same in omega (arith, first))

pub chosen_once : (body : List ℕ) (v w : ℕ) (i j : Option ℕ) → Chooses body v i → Chooses body w j → (v ≡ w) × (i ≡ j)
chosen_once body v w None None one other = (let both = sym one ∙ other in (cc, refl))
chosen_once body v w None (Some j) one (inl other) = (let both = sym one ∙ other in cc)
chosen_once body v w None (Some j) one (inr other) = (let both = sym one ∙ other in cc)
chosen_once body v w (Some i) None (inl one) other = (let both = sym one ∙ other in cc)
chosen_once body v w (Some i) None (inr one) other = (let both = sym one ∙ other in cc)
chosen_once body v w (Some i) (Some j) (inl one) (inl other) = (let both = sym one ∙ other in let same : i ≡ j = cc in (cc, ap Some same))
chosen_once body v w (Some i) (Some j) (inl one) (inr other) = absurd (other_first _ _ (sym one ∙ other))
chosen_once body v w (Some i) (Some j) (inr one) (inl other) = absurd (other_first _ _ (sym other ∙ one))
chosen_once body v w (Some i) (Some j) (inr one) (inr other) = (let both = sym one ∙ other in let same : i ≡ j = cc in (cc, ap Some same))

pub one_choice : (body : List ℕ) (a b : KeyChosen) → AsksToDeleteKey body a → AsksToDeleteKey body b → a ≡ b
one_choice body a b one other =
    let same = chosen_once body a.version b.version a.identifier b.identifier one other in
    (λ i. record { version = same.0 i; identifier = same.1 i })
