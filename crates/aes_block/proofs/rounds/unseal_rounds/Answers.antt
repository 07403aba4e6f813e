use Rattle.std.proofs.Common.{◌≡◌, ℕ, ◌-◌, ◌*◌, ◌∙◌, ap, arith}
use Rattle.aes_block.specs.Cipher.{xor_bytes, four_words, add_round_key}
use Rattle.aes_block.specs.Inverse.{inv_state_after}
use Rattle.aes_block.proofs.RoundRules.{one_more_inverse_round, last_inverse_round}
use Rattle.aes_block.proofs.rounds.unseal_rounds.Goals as goal

pub loop-round-init : goal.loop-round-init
unfolding inv_state_after add_round_key
loop-round-init c =
    let n = c.args.rounds in
    let at : 4 * (n - 1) ≡ 4 * (n - 1 - 0) = omega arith in
    let key = c.round_key-2.ensures ∙ ap (λ (i : ℕ). four_words c.args.words.now i) at in
    one_more_inverse_round c.args.words.now c.args.block.now _ _ _ c.args.rounds 0
    (c.plus-start.ensures ∙ (λ i. xor_bytes (c.load.ensures i) (c.round_key.ensures i))) key c.unsealed-state.ensures

pub loop-round-preserved : goal.loop-round-preserved
loop-round-preserved c =
    one_more_inverse_round c.args.words.now c.args.block.now _ _ _ c.args.rounds c.loop-round.round c.loop-round.invariant c.round_key-in-loop-round.ensures c.unsealed-state-in-loop-round.ensures

pub returns : goal.returns
returns c =
    let done : c.loop-round.round ≡ c.args.rounds - 1 = omega (arith, c.loop-round.auto.round-end, c.requires.some) in
    c.store.ensures
    ∙ last_inverse_round c.args.words.now c.args.block.now _ _ _ c.args.rounds c.loop-round.round done c.loop-round.invariant c.round_key-3.ensures c.unsealed_last.ensures
