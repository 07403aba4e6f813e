-- SET STATUS of the card spares the tree of each domain.
use Rattle.std.proofs.Common.{refl, sym, subst}
use Rattle.policy_machine.specs.Prelude.{Registry, managed_card_status, with_card_life}
use Rattle.policy_machine.proofs.SparingForms.{IsManagedSparing}
use Rattle.policy_machine.proofs.TreeKept.{SparesTree, spares_left}
use Rattle.policy_machine.proofs.TreesAlike.{same_lists_leave}

pub card_status_sparing : IsManagedSparing managed_card_status
card_status_sparing admitted asked changed passed judges set domain apart =
    let before = admitted.at.registry in
    let after = with_card_life before set.life in
    subst (λ (r : Registry). SparesTree admitted r domain) (sym set.registry)
    (spares_left admitted domain apart after (λ x. refl) (same_lists_leave before after refl refl refl refl domain))
