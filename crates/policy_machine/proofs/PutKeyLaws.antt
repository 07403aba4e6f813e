-- The laws of PUT KEY.
use Rattle.std.proofs.Common.{refl, arith, inl}
use Rattle.policy_machine.specs.Prelude.{Admitted, IsFirst, IsJudgeable, Judges, TakesCommand, command_form, managed_put_key, with_keys}
use Rattle.policy_machine.specs.declared.put_key.RulePK.TheVariants.{PK2, PK4}
use Rattle.policy_machine.proofs.PutKeyKeeps.{put_keeps}
use Rattle.policy_machine.proofs.SameThings.{same_fits}
use Rattle.policy_machine.proofs.Judging.{judged}
use Rattle.policy_machine.specs.declared.rule.Rule.{Rule}
use Rattle.std.proofs.Common.{Option}
use Rattle.policy_machine.proofs.ManagedLawful.{IsManagedLawful, KeepsCard, may_follow, undelegated}
use Rattle.policy_machine.proofs.PutKeyOnce.{one_put, keys_put_once}
use Rattle.policy_machine.proofs.Lawful.{sound_of_card}

pub put_key_judgeable : IsJudgeable managed_put_key.judged
put_key_judgeable = record { one_asked = one_put; own = λ rule. tt; one_rule = λ a b same. cc; approving = tt }

-- it changes neither entries nor Executable Load Files, and nothing that the channels hold
putting_keeps : KeepsCard managed_put_key
putting_keeps admitted asked changed passed put =
    let registry = admitted.at.registry in
    may_follow admitted (with_keys registry put.keys put.counters) changed put.registry
    (put_keeps admitted asked changed (sound_of_card passed.sound) passed.domain passed.asks
    (passed.own PK2 (1, omega arith, refl)) (passed.own PK4 (3, omega arith, refl)) put)
    (same_fits registry registry.life put.keys put.counters registry.objects admitted.at.volatile passed.sound.fits)

pub managed_put_key_lawful : IsManagedLawful managed_put_key
managed_put_key_lawful = undelegated managed_put_key (λ admitted delegated. delegated) put_key_judgeable putting_keeps keys_put_once

pub put_judged : (admitted : Admitted) (found : Option Rule) → TakesCommand (command_form managed_put_key) admitted.command → IsFirst ((command_form managed_put_key).fails admitted) (command_form managed_put_key).rules found
    → Judges admitted found
put_judged admitted found takes first = judged (command_form managed_put_key) (λ P is. inl is) admitted takes refl found first
