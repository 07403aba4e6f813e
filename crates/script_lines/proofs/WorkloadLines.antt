-- Each line of a workload is one of the language.
use Rattle.std.proofs.Common.{◌≡◌, ◌<◌, ◌%◌, ◌^◌, ℕ, zero, suc, refl, arith, slice_index}
use Rattle.std.specs.Prelude.{flat_map}
use Rattle.rand_chacha.specs.Block.{block_word}
use Rattle.rand_chacha.specs.ChaCha.{ChaCha}
use Rattle.card_types.specs.Level.{code_of}
use Rattle.card_types.specs.declared.level.Level.{Level}
use Rattle.card_types.specs.declared.level.Level.TheVariants.{Mac, EncMac, MacR, EncMacR, Full}
use Rattle.script_lines.proofs.RoundLines.{IsChosen, round_lines}
use Rattle.script_lines.specs.Mill.{after_round, choice, generator, levels, round_of, rounds, word}
use Rattle.script_lines.specs.Round.{lines_of}
use Rattle.script_lines.specs.Workload as law

word_small : (g : ChaCha) → word g < 2 ^ 32
unfolding block_word word
word_small g = omega arith

level_at : (place : ℕ) → place < 5 → (level : Level) × (slice_index levels place ≡ code_of level)
level_at zero within = (Mac, refl)
level_at (suc zero) within = (EncMac, refl)
level_at (suc (suc zero)) within = (MacR, refl)
level_at (suc (suc (suc zero))) within = (EncMacR, refl)
level_at (suc (suc (suc (suc zero)))) within = (Full, refl)
level_at (suc (suc (suc (suc (suc n))))) within = absurd (omega arith)

is_chosen : (w1 w2 w3 w4 w5 : ℕ) → w5 < 2 ^ 32 → IsChosen (choice w1 w2 w3 w4 w5)
is_chosen w1 w2 w3 w4 w5 small = record {
  level = level_at (w1 % 5) (omega arith);
  least = omega arith;
  most = omega arith;
  byte = omega arith;
}

rounds_lines : (n : ℕ) (g : ChaCha) → law.AreLines (flat_map lines_of (rounds n g))
unfolding rounds
rounds_lines zero g = tt
rounds_lines (suc n) g =
    round_lines (round_of g) (flat_map lines_of (rounds n (after_round g))) (is_chosen _ _ _ _ _ (word_small _)) (rounds_lines n (after_round g))

pub workload_lines : law.WorkloadLines
workload_lines seed count = rounds_lines count (generator seed)
