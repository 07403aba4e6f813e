use Rattle.std.proofs.Common.{◌≡◌, ◌-◌, ◌∙◌, arith}
use Rattle.aes_block.specs.Cipher.{xor_bytes, add_round_key, state_after}
use Rattle.aes_block.proofs.RoundRules.{one_more_round, last_round}
use Rattle.aes_block.proofs.rounds.seal_rounds.Goals as goal

pub loop-round-init : goal.loop-round-init
unfolding state_after add_round_key
loop-round-init c =
    one_more_round c.args.words.now c.args.block.now _ _ _ 0
    (c.plus-start.ensures ∙ (λ i. xor_bytes (c.load.ensures i) (c.round_key.ensures i))) c.round_key-2.ensures c.sealed-state.ensures

pub loop-round-preserved : goal.loop-round-preserved
loop-round-preserved c =
    one_more_round c.args.words.now c.args.block.now _ _ _ c.loop-round.round c.loop-round.invariant c.round_key-in-loop-round.ensures c.sealed-state-in-loop-round.ensures

pub returns : goal.returns
returns c =
    let done : c.loop-round.round ≡ c.args.rounds - 1 = omega (arith, c.loop-round.auto.round-end, c.requires.some) in
    c.store.ensures
    ∙ last_round c.args.words.now c.args.block.now _ _ _ c.args.rounds c.loop-round.round done c.loop-round.invariant c.round_key-3.ensures c.sealed_last.ensures
