use Rattle.std.proofs.Common.{◌≡◌, ◌+◌, ◌/◌, ◌∙◌, length, take, bit_xor, refl, ap, arith, ℕ, slice_index}
use Rattle.aes_block.specs.Words.{first_words, words_after}
use Rattle.aes_block.proofs.ScheduleRules.{first_words_more, words_more, schedule_length, whole_schedule}
use Rattle.aes_block.proofs.schedule.expand.Goals as goal

pub first-init : goal.first-init
unfolding first_words
first-init c = refl

pub first-preserved : goal.first-preserved
first-preserved c =
    first_words_more c.args.key.now c.first.words c.first.i c.word_at.result (omega (arith, c.first.auto.words, schedule_length _ c.requires.standard)) c.first.invariant c.word_at.ensures

pub next-init : goal.next-init
unfolding words_after
next-init c =
    let done : length c.args.key.now / 4 + 0 ≡ c.first.i = omega (arith, c.first.auto.i-end) in
    ap (λ (n : ℕ). take n c.first.words) done ∙ c.first.invariant ∙ ap (first_words c.args.key.now) (omega (arith, c.first.auto.i-end))

pub next-preserved : goal.next-preserved
next-preserved c =
    words_more (length c.args.key.now / 4) c.args.key.now c.next.words c.next.i _ (schedule_length _ c.requires.standard).1 (omega arith) c.next.invariant
    (ap (bit_xor (slice_index c.next.words c.next.i)) c.carried.ensures)

pub returns : goal.returns
returns c =
    whole_schedule c.args.key.now c.next.words c.next.i c.requires.standard (omega arith) (omega (arith, c.next.auto.i-end)) c.next.invariant
