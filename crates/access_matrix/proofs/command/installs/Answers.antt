use Rattle.std.proofs.Common.{◌≡◌, ◌≤◌, List, ℕ, None, [], ◌∷◌, length, arith, refl, subst, sym, ◌∙◌}
use Rattle.std.specs.List.{flat_map}
use Rattle.std.specs.Prelude.{IsTrue}
use Rattle.card_types.specs.Aid.{IsAid}
use Rattle.card_types.specs.Privileges.{delegated_management}
use Rattle.card_types.specs.Represents.{domain_aid}
use Rattle.policy_machine.specs.Delegation.{Holds}
use Rattle.policy_machine.specs.InstallApplication.{managed_install}
use Rattle.policy_machine.specs.ManagedForm.{command_form}
use Rattle.policy_slots.specs.StateShown.{IsLoadNamed}
use Rattle.policy_slots.specs.declared.live.Live.{Live}
use Rattle.tokens_receipts.specs.Receipt.{with_length}
use Rattle.access_matrix.specs.There.{judged_there}
use Rattle.access_matrix.proofs.DeedCommands.{install_accepted, install_command, install_front, install_request, told_token}
use Rattle.access_matrix.proofs.DomainSelected.{acts_there, used_entry}
use Rattle.access_matrix.proofs.JudgedOnce.{passes_told}
use Rattle.access_matrix.proofs.command.installs.Goals as goal

pub returns : goal.returns
returns c page said says well =
    let tables = c.args.tables.now in
    let slot = c.args.domain in
    let domain = domain_aid tables.entries.items slot in
    let file = c.args.file in
    let aid = c.free_aid-aid.result in
    let given = c.token_for-token.result in
    let command = install_command file aid given in
    let admitted = judged_there said domain command in
    let entry = used_entry tables slot c.requires.domain in
    let acts = acts_there page tables said says slot entry.0 entry.1 well command in
    let none = subst (λ (live : Live). IsLoadNamed tables.entries.items live.load None) (sym c.live_with.ensures) tt in
    let part = c.as_bytes-2.ensures.bytes ∙ c.module_from-module.ensures in
    let spelled = c.privileges_from-spelled.ensures.spelled in
    let front : c.five_fields-before.result.items ≡ install_front file aid given =
    c.five_fields-before.ensures.items
    ∙ (λ i. flat_map with_length (c.as_bytes.ensures.bytes i ∷ part i ∷ c.as_bytes-3.ensures.bytes i ∷ spelled i ∷ (0xC9 ∷ 0x00 ∷ []) ∷ [])) in
    let approved = told_token said domain (IsTrue c.is_delegate-delegated.result) (Holds admitted delegated_management) 0x0C 0x00 (install_front file aid given) c.deref.result.now given
    (c.is_delegate-delegated.ensures page admitted acts) (c.deref.ensures.0 ∙ front) (c.token_for-token.ensures.approved page admitted acts) in
    let is = install_request file aid given _ c.as_bytes.ensures.length (subst IsAid c.module_from-module.ensures c.as_bytes-2.ensures.length) c.as_bytes-3.ensures.length
    (subst (λ (bytes : List ℕ). length bytes ≤ 0x7F) spelled (omega arith)) c.privileges_from-spelled.ensures.named c.token_for-token.ensures.size
    refl refl c.module_from-module.ensures refl refl refl (c.deref-2.ensures.0 ∙ front) c.token_bytes.ensures in
    install_accepted file aid given said domain (c.free_aid-aid.ensures page said says) approved
    (passes_told ((command_form managed_install).fails admitted) (command_form managed_install).rules c.judge_request.result
    (c.judge_request.ensures.passed page admitted acts none is) (c.judge_request.ensures.refused page admitted acts none is) c.is_ok.result c.is_ok.ensures.value)
