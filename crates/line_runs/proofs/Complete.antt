-- Where each line has a form and the input is short, only a fault keeps the taking from the end of the input.
use Rattle.std.proofs.Common.{◌≡◌, ◌≢◌, ℕ, ◌<◌, ◌≤◌, List, [], ◌∷◌, ◌++◌, length, sym, ap, subst, ◌∙◌, inl, inr, arith, length-append}
use Rattle.std.specs.Str.Lines.{lines}
use Rattle.io_edge.proofs.Cuts.{lines_ahead}
use Rattle.io_edge.specs.Lines.{IsNextLine, IsCut}
use Rattle.io_edge.specs.declared.line.TheConstants.{INPUT_LIMIT, LINE_LIMIT}
use Rattle.line_runs.proofs.ComeFirst.{lines_come, shrinks}
use Rattle.line_runs.specs.Ends.{AreTakable, IsTakableInput, LinesEnds, TakesLines}
use Rattle.line_runs.specs.Outside.{Outside}
use Rattle.line_runs.specs.Taken.{ComeFirst, IsBadLine, room_ahead}
use Rattle.line_runs.specs.Taker.{Taker}
use Rattle.line_runs.specs.declared.ending.LinesEnd.{LinesEnd}
use Rattle.line_runs.specs.declared.ending.LinesEnd.TheVariants.{BadLine, InputTooLong}

-- the limit does not come within a short input
pub never_cut : (input : List ℕ) (given : List (List ℕ)) (ahead cut : List ℕ)
    → ComeFirst INPUT_LIMIT input given ahead → length input < INPUT_LIMIT → IsCut (room_ahead input ahead) ahead cut → ⊥
never_cut input given ahead cut reached short is_cut =
    let less = shrinks INPUT_LIMIT input given ahead reached in
    let part = ap length is_cut.is ∙ length-append is_cut.piece is_cut.rest in
    let full = is_cut.full in
    omega arith

-- a line that comes after others is good
good_after : {T : Type 0} (does : Taker T) (given : List (List ℕ)) (line : List ℕ) (more : List (List ℕ)) (at last : T) (texts : List (List ℕ))
    → TakesLines does.takes at given last texts → AreTakable does at (given ++ line ∷ more) → does.has_form last line × (length line ≤ LINE_LIMIT)
good_after {T} does [] line more at last texts runs good =
    subst (λ (t : T). does.has_form t line × (length line ≤ LINE_LIMIT)) (sym runs.0) (good.0, good.1)
good_after does (first ∷ given) line more at last texts (next, text, later, one, runs, are) good =
    good_after does given line more next last later runs (good.2 next text one)

module _ {T : Type 0} (does : Taker T) (first : T) (input : List ℕ) (given texts : List (List ℕ)) (last : T) (ahead : List ℕ)
    (runs : TakesLines does.takes first given last texts) (reached : ComeFirst INPUT_LIMIT input given ahead) (good : IsTakableInput does first input) where
  -- a line that comes next is good
  good_next : (room : ℕ) (line after : List ℕ) → IsNextLine room ahead line after → does.has_form last line × (length line ≤ LINE_LIMIT)
  good_next room line after next =
      let all : lines input ≡ given ++ line ∷ lines after
      = lines_come INPUT_LIMIT input given ahead reached ∙ ap (λ rest. given ++ rest) (lines_ahead room ahead line after next) in
      good_after does given line (lines after) first last texts runs (subst (λ (ls : List (List ℕ)). AreTakable does first ls) all good.0)

  never_bad : IsBadLine (does.has_form last) (room_ahead input ahead) ahead → ⊥
  never_bad (line, inl none) = (let next = good_next (room_ahead input ahead) line none.0 none.1 in none.2 next.0)
  never_bad (line, inr long) =
      elim long.0 [
        | inl next ↦
            (let fits = good_next (room_ahead input ahead) line next.0 next.1 in
            let few = fits.1 in
            let many = long.1 in
            omega (arith, few, many))
        | inr cut ↦ never_cut input given ahead line reached good.1 cut
      ]

module _ {T : Type 0} (does : Taker T) (reads writes : Type 0) (first last : T) (before now : Outside) where
  never_refused : LinesEnds does reads writes first last BadLine before now → reads → IsTakableInput does first before.source.left → ⊥
  never_refused ends told good =
      let course = ends.course in
      let at = ends.ends in
      never_bad does first before.source.left course.given course.texts course.last course.ahead course.played (course.reached told) good (at.0 told)

  never_limited : LinesEnds does reads writes first last InputTooLong before now → reads → IsTakableInput does first before.source.left → ⊥
  never_limited ends told good =
      let course = ends.course in
      let at = ends.ends in
      let cut = at.0 told in
      never_cut before.source.left course.given course.ahead cut.0 (course.reached told) good.1 cut.1

  pub is_complete : (end : LinesEnd) → LinesEnds does reads writes first last end before now → reads → IsTakableInput does first before.source.left
      → (end ≢ BadLine) × (end ≢ InputTooLong)
  is_complete end ends told good = (
    λ is. never_refused (subst (λ (e : LinesEnd). LinesEnds does reads writes first last e before now) is ends) told good,
    λ is. never_limited (subst (λ (e : LinesEnd). LinesEnds does reads writes first last e before now) is ends) told good,
  )
