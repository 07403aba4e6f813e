use Rattle.std.proofs.Common.{◌<◌, ◌/◌, ◌-◌, bit_xor, sym, ◌∙◌, arith, ap}
use Rattle.std.proofs.lemmas.Nat.{div_below}
use Rattle.aes_block.specs.Words.{rot_word, round_constant, sub_word}
use Rattle.aes_block.proofs.ScheduleRules.{constant_entry, core_at_key, core_in_middle, core_elsewhere}
use Rattle.aes_block.proofs.schedule.carried.Goals as goal
use Rattle.aes_block.proofs.schedule.carried.Goals.{else-key_len-eq8-via-then-key_len-eq8+else-i-eq4, else-key_len-eq8-via-else-key_len-eq8}

pub returns-then-i-key_len-eq0 : goal.returns-then-i-key_len-eq0
unfolding rot_word round_constant
returns-then-i-key_len-eq0 c =
    let turned = c.substituted.ensures ∙ ap sub_word c.rotate_left.ensures in
    let small : c.args.i / c.args.key_len - 1 < 10 =
    omega (arith, div_below c.args.i c.args.key_len 11 c.requires.any c.requires.high) in
    (λ t. bit_xor (turned t) (constant_entry (c.args.i / c.args.key_len - 1) small t))
    ∙ sym (core_at_key c.args.key_len c.args.i c.args.before c.if-i-key_len-eq0.true)

pub returns-then-i-eq4 : goal.returns-then-i-eq4
returns-then-i-eq4 c =
    c.substituted-then-i-eq4.ensures
    ∙ sym (core_in_middle c.args.key_len c.args.i c.args.before c.if-i-key_len-eq0.false c.if-key_len-eq8.true c.if-i-eq4.true)

pub returns-else-key_len-eq8 : goal.returns-else-key_len-eq8
returns-else-key_len-eq8 c =
    sym (core_elsewhere c.args.key_len c.args.i c.args.before c.if-i-key_len-eq0.false
    (elim c.else-key_len-eq8.branch [
      | else-key_len-eq8-via-then-key_len-eq8+else-i-eq4 w ↦ λ e. w.if-i-eq4.false
      | else-key_len-eq8-via-else-key_len-eq8 w ↦ λ e. absurd (w.if-key_len-eq8.false e)
    ]))
