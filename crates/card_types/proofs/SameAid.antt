-- When two AIDs are the same.
use Rattle.std.proofs.Common.{◌≡◌, ℕ, List, true, Decides, refl, ap, sym, ◌∙◌}
use Rattle.std.proofs.lemmas.Bool.Decides.{Decides-eqb}
use Rattle.std.proofs.lemmas.Slice.Eq.{slice_eq-Decides}
use Rattle.std.proofs.lemmas.Cmp.{nat_list_cmp_total, tied_itself}
use Rattle.std.proofs.lemmas.Map.Lookups.{exact_bytes}
use Rattle.std.specs.declared.cmp.Ordering.TheVariants.{Equal}
use Rattle.card_types.specs.Aid.{same_aid, aid_order}

pub same_aid_decides : (a b : List ℕ) → Decides (same_aid a b) (a ≡ b)
same_aid_decides a b = slice_eq-Decides Decides-eqb a b (same_aid a b) refl

pub aid_same_itself : (a : List ℕ) → same_aid a a ≡ true
aid_same_itself a = (same_aid_decides a a).1 refl

pub aid_equal_itself : (a : List ℕ) → aid_order a a ≡ Equal
aid_equal_itself a = tied_itself nat_list_cmp_total a

pub aid_equal_same : (a b : List ℕ) → aid_order a b ≡ Equal → a ≡ b
aid_equal_same a b equal = exact_bytes a b equal

pub aid_same_equal : (a b : List ℕ) → a ≡ b → aid_order a b ≡ Equal
aid_same_equal a b same = ap (aid_order a) (sym same) ∙ aid_equal_itself a
