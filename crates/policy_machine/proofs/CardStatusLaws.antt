-- The laws of SET STATUS of the card.
use Rattle.std.proofs.Common.{refl, ap, sym, ◌∙◌}
use Rattle.card_types.proofs.LifeChanges.{card_life_keeps}
use Rattle.card_types.proofs.OneOfCode.{card_life_by_code}
use Rattle.policy_machine.specs.Prelude.{IsJudgeable, managed_card_status, with_card_life}
use Rattle.policy_machine.proofs.SameThings.{same_fits}
use Rattle.policy_machine.proofs.ManagedLawful.{IsManagedLawful, KeepsCard, LeavesOne, may_follow, undelegated}
use Rattle.policy_machine.proofs.Lawful.{sound_of_card}

pub card_status_judgeable : IsJudgeable managed_card_status.judged
card_status_judgeable = record { one_asked = λ p1 p2 body a b one other. refl; own = λ rule. tt; one_rule = λ a b same. cc; approving = tt }

setting_keeps : KeepsCard managed_card_status
setting_keeps admitted asked changed passed set =
    let registry = admitted.at.registry in
    may_follow admitted _ changed set.registry (card_life_keeps registry set.life (sound_of_card passed.sound))
    (same_fits registry set.life registry.keys registry.counters registry.objects admitted.at.volatile passed.sound.fits)

set_once : LeavesOne managed_card_status
set_once admitted asked a b asks one other =
    one.registry ∙ ap (with_card_life admitted.at.registry) (card_life_by_code one.life other.life (one.code ∙ sym other.code)) ∙ sym other.registry

pub managed_card_status_lawful : IsManagedLawful managed_card_status
managed_card_status_lawful = undelegated managed_card_status (λ admitted delegated. delegated) card_status_judgeable setting_keeps set_once
