-- The workload: rounds that ChaCha20 chooses.
use Rattle.std.specs.Prelude.{ℕ, zero, suc, ◌+◌, ◌*◌, ◌/◌, ◌%◌, ◌^◌, List, [], ◌∷◌, ◌++◌, drop, flat_map, replicate, slice_index}
use Rattle.std.specs.Int.{w64, to_be_bytes}
use Rattle.rand_chacha.specs.ChaCha.{ChaCha, next_word, of_seed}
use Rattle.script_lines.specs.Round.{lines_of}
use Rattle.script_lines.specs.declared.mill.Mill.{Mill}
use Rattle.script_lines.specs.declared.round.Round.{Round}

-- the generator of a seed: its 8 bytes, and 24 zeros
abbrev pub generator : ℕ → ChaCha
generator seed = of_seed (to_be_bytes w64 seed ++ replicate 24 0)

-- the next word, and the generator after it
unfoldable pub word : ChaCha → ℕ
word g = (next_word 10 g).0

unfoldable pub after : ChaCha → ChaCha
after g = (next_word 10 g).1

-- the codes of the five security levels
abbrev pub levels : List ℕ
levels = 0x01 ∷ 0x03 ∷ 0x11 ∷ 0x13 ∷ 0x33 ∷ []

-- what five words choose
abbrev pub choice : ℕ → ℕ → ℕ → ℕ → ℕ → Round
choice w1 w2 w3 w4 w5 = record {
  level = slice_index levels (w1 % 5);
  challenge = w2 * 2 ^ 32 + w3;
  number = w4;
  count = 1 + w5 % 200;
  byte = w5 / 2 ^ 24;
}

-- the round that the next five words choose, and the generator after them
abbrev pub round_of : ChaCha → Round
round_of g =
    let g1 = after g in
    let g2 = after g1 in
    let g3 = after g2 in
    let g4 = after g3 in
    choice (word g) (word g1) (word g2) (word g3) (word g4)

abbrev pub after_round : ChaCha → ChaCha
after_round g = after (after (after (after (after g))))

-- the first rounds from a generator, as many as the number says
unfoldable pub rounds : ℕ → ChaCha → List Round
rounds zero g = []
rounds (suc n) g = round_of g ∷ rounds n (after_round g)

-- the lines of a seed's workload of this many rounds
abbrev pub workload : ℕ → ℕ → List (List ℕ)
workload seed count = flat_map lines_of (rounds count (generator seed))

-- the lines that are still to come
abbrev pub to_come : Mill → List (List ℕ)
to_come m = drop m.at (lines_of m.round) ++ flat_map lines_of (rounds m.left m.rng)
