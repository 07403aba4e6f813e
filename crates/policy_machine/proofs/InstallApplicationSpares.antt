-- INSTALL [for install] spares the trees in which the acting domain is not: it makes an entry in its own domain.
use Rattle.std.proofs.Common.{refl}
use Rattle.policy_machine.specs.InstallApplication.{entry_made, managed_install}
use Rattle.policy_machine.proofs.InstallApplicationLaws.{may_be_added}
use Rattle.policy_machine.proofs.SparingForms.{IsManagedSparing}
use Rattle.policy_machine.proofs.TreesAdded.{added_spared}

pub install_sparing : IsManagedSparing managed_install
install_sparing admitted asked changed passed judges added domain apart =
    let may = may_be_added admitted asked passed.own passed.asks passed.domain in
    added_spared admitted domain apart (entry_made admitted asked) changed may added refl
