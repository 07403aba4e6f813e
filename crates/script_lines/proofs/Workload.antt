-- The lines that are still to come, one at a time.
use Rattle.std.proofs.Common.{◌≡◌, ◌<◌, ◌+◌, ◌-◌, ℕ, zero, suc, List, [], ◌∷◌, ◌++◌, drop, refl, sym, ap, ◌∙◌, arith, Option, Some, None}
use Rattle.std.specs.Prelude.{slice_get, flat_map, codes, MatchOption}
use Rattle.std.specs.Option.{option_map}
use Rattle.arrayvec.specs.ArrayVec.{ArrayVec}
use Rattle.rand_chacha.specs.ChaCha.{ChaCha}
use Rattle.script_lines.specs.Mill.{after_round, round_of, rounds, to_come}
use Rattle.script_lines.specs.Round.{lines_of}
use Rattle.script_lines.specs.declared.mill.Mill.{Mill}
use Rattle.script_lines.specs.declared.round.Round.{Round}

-- a list from a place on begins with what stands there
pub drop_at : {A : Type 0} (xs : List A) (i : ℕ) (x : A) → slice_get xs i ≡ Some x → drop i xs ≡ x ∷ drop (i + 1) xs
drop_at [] i x at = cc at
drop_at (y ∷ ys) zero x at = let same : y ≡ x = cc at in ap (λ z. z ∷ ys) same
drop_at (y ∷ ys) (suc i) x at =
    let next : suc (i + 1) ≡ suc i + 1 = omega arith in
    drop_at ys i x at ∙ ap (λ n. x ∷ drop n (y ∷ ys)) next

pub drop_past : {A : Type 0} (xs : List A) (i : ℕ) → slice_get xs i ≡ None → drop i xs ≡ []
drop_past [] zero at = refl
drop_past [] (suc i) at = refl
drop_past (y ∷ ys) zero at = cc at
drop_past (y ∷ ys) (suc i) at = drop_past ys i at

pub rounds_step : (n : ℕ) (g : ChaCha) → 0 < n → rounds n g ≡ round_of g ∷ rounds (n - 1) (after_round g)
unfolding rounds
rounds_step zero g some = absurd (omega arith)
rounds_step (suc n) g some =
    let same : suc n - 1 ≡ n = omega arith in
    ap (λ k. round_of g ∷ rounds k (after_round g)) (sym same)

pub rounds_none : (g : ChaCha) → rounds 0 g ≡ []
unfolding rounds
rounds_none g = refl

pub no_more : (m : Mill) → slice_get (lines_of m.round) m.at ≡ None → m.left ≡ 0 → to_come m ≡ []
no_more m past none =
    ap (λ l. l ++ flat_map lines_of (rounds m.left m.rng)) (drop_past (lines_of m.round) m.at past)
    ∙ ap (λ n. flat_map lines_of (rounds n m.rng)) none ∙ ap (λ l. flat_map lines_of l) (rounds_none m.rng)

pub one_more : (m : Mill) (line : List ℕ) → slice_get (lines_of m.round) m.at ≡ Some line → to_come m ≡ line ∷ (drop (m.at + 1) (lines_of m.round) ++ flat_map lines_of (rounds m.left m.rng))
one_more m line here = ap (λ l. l ++ flat_map lines_of (rounds m.left m.rng)) (drop_at (lines_of m.round) m.at line here)

pub next_round : (m : Mill) (r : Round) (g : ChaCha) → slice_get (lines_of m.round) m.at ≡ None → 0 < m.left → r ≡ round_of m.rng → g ≡ after_round m.rng
    → to_come m ≡ codes "reset" ∷ (drop 1 (lines_of r) ++ flat_map lines_of (rounds (m.left - 1) g))
next_round m r g past some chosen left' =
    ap (λ l. l ++ flat_map lines_of (rounds m.left m.rng)) (drop_past (lines_of m.round) m.at past)
    ∙ ap (λ l. flat_map lines_of l) (rounds_step m.left m.rng some)
    ∙ ap (λ q. lines_of q ++ flat_map lines_of (rounds (m.left - 1) (after_round m.rng))) (sym chosen)
    ∙ ap (λ h. lines_of r ++ flat_map lines_of (rounds (m.left - 1) h)) (sym left')

-- a line that was given is the first of those to come
pub given : (old rest : List (List ℕ)) (text : List ℕ) (line : Option (ArrayVec ℕ)) → Some text ≡ option_map (λ l. l.items) line → old ≡ text ∷ rest
    → MatchOption line (old ≡ []) (λ l. old ≡ l.items ∷ rest)
given old rest text None is first = cc is
given old rest text (Some l) is first = let same : text ≡ l.items = cc is in first ∙ ap (λ t. t ∷ rest) same
