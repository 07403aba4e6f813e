-- Lists of applets, put together and taken apart.
use Rattle.std.proofs.Common.{◌≡◌, ◌≤◌, ◌<◌, ◌+◌, ℕ, zero, suc, List, [], ◌∷◌, ◌++◌, Some, length, refl, sym, subst, ap, ◌∙◌, arith, append_assoc}
use Rattle.std.specs.Prelude.{slice_get}
use Rattle.std.proofs.lemmas.List.{length-append}
use Rattle.card_types.specs.Aid.{IsAid}
use Rattle.tokens_receipts.specs.Receipt.{with_length}
use Rattle.cap_pack.specs.Cap.{AreApplets, ListsApplets}
use Rattle.cap_pack.proofs.Fronts.{get_after, same_fields, same_fronts}

-- bytes begin with an applet
abbrev pub BeginsApplet : (aid rest bytes : List ℕ) → Type 0
BeginsApplet aid rest bytes = (unread : List ℕ) × IsAid aid × (length unread ≡ 2) × (bytes ≡ with_length aid ++ unread ++ rest)

-- with one applet alone
one_applet : (a b r s x : List ℕ) → BeginsApplet a r x → BeginsApplet b s x → (a ≡ b) × (r ≡ s)
one_applet a b r s x (u, ia, lu, isa) (v, ib, lv, isb) =
    let joined : with_length a ++ (u ++ r) ≡ with_length b ++ (v ++ s) =
    sym (append_assoc (with_length a) u r) ∙ sym isa ∙ isb ∙ append_assoc (with_length b) v s in
    let named = same_fields a b (u ++ r) (v ++ s) joined in
    (named.0, (same_fronts u v r s (lu ∙ sym lv) named.1).1)

-- one applet more
pub more_applets : (aids : List (List ℕ)) (aid rest next bytes : List ℕ) → AreApplets aids rest bytes → BeginsApplet aid next rest → AreApplets (aids ++ aid ∷ []) next bytes
more_applets [] aid rest next bytes is (unread, is_aid, two, begins) = (unread, next, is_aid, two, is ∙ begins, refl)
more_applets (a ∷ aids) aid rest next bytes (unread, left, is_aid, two, begins, others) more =
    (unread, left, is_aid, two, begins, more_applets aids aid rest next left others more)

-- what is left of a list after some applets of it
pub rest_lists : (some all : List (List ℕ)) (rest bytes : List ℕ) → AreApplets some rest bytes → ListsApplets all bytes → length some ≤ length all
    → (later : List (List ℕ)) × (all ≡ some ++ later) × ListsApplets later rest
rest_lists [] all rest bytes is lists short = (all, refl, subst (ListsApplets all) is lists)
rest_lists (a ∷ some) [] rest bytes is lists short = absurd (omega arith)
rest_lists (a ∷ some) (b ∷ all) rest bytes (u, r, ia, lu, isa, others) (last, (v, s, ib, lv, isb, more)) short =
    let one = one_applet a b r s bytes (u, ia, lu, isa) (v, ib, lv, isb) in
    let left = rest_lists some all rest r others (last, subst (AreApplets all last) (sym one.1) more) (omega arith) in
    (left.0, λ i. sym one.0 i ∷ left.1 i, left.2)

-- a list that is not at its end begins with an applet
pub next_applet : (later : List (List ℕ)) (bytes : List ℕ) → 0 < length later → ListsApplets later bytes
    → (aid : List ℕ) × (next : List ℕ) × BeginsApplet aid next bytes × (slice_get later 0 ≡ Some aid)
next_applet [] bytes some lists = absurd (omega arith)
next_applet (aid ∷ later) bytes some (last, (unread, next, is_aid, two, is, others)) = (aid, next, (unread, is_aid, two, is), refl)

-- `count` applets of the list were passed
pub record Passed (count : ℕ) (rest bytes : List ℕ) : Type 0 where
  pub aids : List (List ℕ)
  pub many : length aids ≡ count
  pub are : AreApplets aids rest bytes

pub none_passed : (bytes : List ℕ) → Passed 0 bytes bytes
none_passed bytes = record { aids = []; many = refl; are = refl }

pub one_passed : (count : ℕ) (aid rest next bytes : List ℕ) → Passed count rest bytes → BeginsApplet aid next rest → Passed (count + 1) next bytes
one_passed count aid rest next bytes passed begins = record {
  aids = passed.aids ++ aid ∷ [];
  many = length-append passed.aids (aid ∷ []) ∙ ap (λ (n : ℕ). n + 1) passed.many;
  are = more_applets passed.aids aid rest next bytes passed.are begins;
}

-- a list of more applets than were passed goes on with one
pub not_over : (count : ℕ) (rest bytes : List ℕ) (all : List (List ℕ)) → Passed count rest bytes → ListsApplets all bytes → count < length all
    → (aid : List ℕ) × (next : List ℕ) × BeginsApplet aid next rest × (slice_get all count ≡ Some aid)
not_over count rest bytes all passed lists more =
    let left = rest_lists passed.aids all rest bytes passed.are lists (omega (arith, passed.many)) in
    let some : 0 < length left.0 = omega (arith, passed.many, ap length left.1, length-append passed.aids left.0) in
    let next = next_applet left.0 rest some left.2 in
    (next.0, next.1, next.2, ap (λ (l : List (List ℕ)). slice_get l count) left.1 ∙ get_after passed.aids left.0 count passed.many ∙ next.3)

-- the first applets of a list are one
pub front_lists : (n : ℕ) (all : List (List ℕ)) (bytes : List ℕ) → n ≤ length all → ListsApplets all bytes → (some : List (List ℕ)) × (length some ≡ n) × ListsApplets some bytes
front_lists zero all bytes short lists = ([], refl, (bytes, refl))
front_lists (suc n) [] bytes short lists = absurd (omega arith)
front_lists (suc n) (aid ∷ all) bytes short (last, (unread, next, is_aid, two, is, others)) =
    let front = front_lists n all next (omega arith) (last, others) in
    (aid ∷ front.0, ap (λ (k : ℕ). suc k) front.1, (front.2.0, (unread, next, is_aid, two, is, front.2.1)))

-- what is read after the applets that were passed
pub applet_read : (count : ℕ) (aid rest next bytes : List ℕ) (all : List (List ℕ)) → Passed count rest bytes → BeginsApplet aid next rest
    → ListsApplets all bytes → count < length all → Some aid ≡ slice_get all count
applet_read count aid rest next bytes all passed begins lists more =
    let there = not_over count rest bytes all passed lists more in
    let same = one_applet aid there.0 next there.1 rest begins there.2 in
    ap (λ (a : List ℕ). Some a) same.0 ∙ sym there.3
