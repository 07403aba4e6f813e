-- The laws of DELETE of a key.
use Rattle.std.proofs.Common.{Option, inl, refl}
use Rattle.policy_machine.specs.Prelude.{Admitted, IsFirst, IsJudgeable, Judges, TakesCommand, acting, command_form, counters_but, keys_but, managed_delete_key}
use Rattle.policy_machine.proofs.SameThings.{same_fits}
use Rattle.policy_machine.proofs.Judging.{judged}
use Rattle.policy_machine.specs.declared.rule.Rule.{Rule}
use Rattle.policy_machine.proofs.ManagedLawful.{IsManagedLawful, leaves_one}
use Rattle.policy_machine.proofs.DeleteKeyChosen.{one_choice}
use Rattle.policy_machine.proofs.DeleteKeyKeeps.{without_version, without_version_ascending, without_version_well}

pub delete_key_judgeable : IsJudgeable managed_delete_key.judged
delete_key_judgeable = record { one_asked = λ p1 p2. one_choice; own = λ rule. tt; one_rule = λ a b same. cc; approving = tt }

-- keys and counters go
pub managed_delete_key_lawful : IsManagedLawful managed_delete_key
managed_delete_key_lawful =
    leaves_one managed_delete_key.judged (λ admitted chosen. without_version admitted.at.registry (acting admitted) chosen.version) managed_delete_key.reply delete_key_judgeable
    (λ admitted delegated. absurd delegated)
    (λ admitted chosen passed.
    (let registry = admitted.at.registry in
    let owner = acting admitted in
    let version = chosen.version in
    record {
      of = record { well = without_version_well registry owner version passed.sound.well; ascending = without_version_ascending registry owner version passed.sound.ascending };
      fits = same_fits registry registry.life (keys_but owner version registry.keys) (counters_but owner version registry.counters) registry.objects
          admitted.at.volatile passed.sound.fits;
    }))

pub deletion_judged : (admitted : Admitted) (found : Option Rule) → TakesCommand (command_form managed_delete_key) admitted.command
    → IsFirst ((command_form managed_delete_key).fails admitted) (command_form managed_delete_key).rules found → Judges admitted found
deletion_judged admitted found takes first = judged (command_form managed_delete_key) (λ P is. inl is) admitted takes refl found first
