-- Lines that come first in an input, and what stands ahead of the next one.
use Rattle.std.proofs.Common.{◌≡◌, ℕ, ◌-◌, ◌≤◌, List, [], ◌∷◌, ◌++◌, length, refl, sym, ap, subst, ◌∙◌, arith, length-append}
use Rattle.std.specs.Str.Lines.{lines}
use Rattle.io_edge.proofs.Cuts.{line_suffix, lines_ahead}
use Rattle.io_edge.specs.Lines.{IsNextLine}
use Rattle.line_runs.specs.Taken.{ComeFirst}

-- how many bytes may be taken of what stands ahead, where so many might be taken of the whole
abbrev pub room_left : ℕ → List ℕ → List ℕ → ℕ
room_left room input ahead = room - (length input - length ahead)

-- what follows a line is shorter
line_shrinks : (room : ℕ) (ahead line after : List ℕ) → IsNextLine room ahead line after → length after ≤ length ahead
line_shrinks room ahead line after next =
    let suffix = line_suffix room ahead line after next in
    let all = ap length suffix.1 ∙ length-append suffix.0 after in
    omega (arith, all)

-- what stands ahead is no longer than the input
pub shrinks : (room : ℕ) (input : List ℕ) (given : List (List ℕ)) (ahead : List ℕ) → ComeFirst room input given ahead → length ahead ≤ length input
shrinks room input [] ahead first = (let all = ap length first in omega (arith, all))
shrinks room input (line ∷ given) ahead first =
    let more = shrinks (room_left room input first.0) first.0 given ahead first.2 in
    let less = line_shrinks room input line first.0 first.1 in
    omega (arith, more, less)

pub room_whole : (room : ℕ) (input ahead : List ℕ) → ahead ≡ input → room_left room input ahead ≡ room
room_whole room input ahead same = (let all = ap length same in omega (arith, all))

pub room_further : (room : ℕ) (input line after ahead : List ℕ) (given : List (List ℕ)) → IsNextLine room input line after
    → ComeFirst (room_left room input after) after given ahead → room_left room input ahead ≡ room_left (room_left room input after) after ahead
room_further room input line after ahead given next first =
    let more = shrinks (room_left room input after) after given ahead first in
    let less = line_shrinks room input line after next in
    omega (arith, more, less)

-- one line more
pub come_more : (room : ℕ) (input : List ℕ) (given : List (List ℕ)) (ahead line after : List ℕ)
    → ComeFirst room input given ahead → IsNextLine (room_left room input ahead) ahead line after → ComeFirst room input (given ++ line ∷ []) after
come_more room input [] ahead line after first next =
    let here : IsNextLine room ahead line after = subst (λ (n : ℕ). IsNextLine n ahead line after) (room_whole room input ahead first) next in
    (after, subst (λ (bytes : List ℕ). IsNextLine room bytes line after) first here, refl)
come_more room input (l ∷ given) ahead line after first next = (
  first.0,
  first.1,
  come_more (room_left room input first.0) first.0 given ahead line after first.2
      (subst (λ (n : ℕ). IsNextLine n ahead line after) (room_further room input l first.0 ahead given first.1 first.2) next),
)

-- the lines of the input are those that come first, and then those of what stands ahead
pub lines_come : (room : ℕ) (input : List ℕ) (given : List (List ℕ)) (ahead : List ℕ) → ComeFirst room input given ahead → lines input ≡ given ++ lines ahead
lines_come room input [] ahead first = ap lines (sym first)
lines_come room input (line ∷ given) ahead first =
    lines_ahead room input line first.0 first.1 ∙ ap (λ rest. line ∷ rest) (lines_come (room_left room input first.0) first.0 given ahead first.2)
