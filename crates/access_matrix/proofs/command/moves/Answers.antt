use Rattle.std.proofs.Common.{◌≡◌, [], ◌∷◌, refl, ◌∙◌}
use Rattle.std.specs.List.{flat_map}
use Rattle.std.specs.Prelude.{IsTrue}
use Rattle.card_types.specs.Privileges.{delegated_management}
use Rattle.card_types.specs.Represents.{domain_aid}
use Rattle.policy_machine.specs.Delegation.{Holds}
use Rattle.policy_machine.specs.Extradition.{managed_extradition}
use Rattle.policy_machine.specs.ManagedForm.{command_form}
use Rattle.tokens_receipts.specs.Receipt.{with_length}
use Rattle.access_matrix.specs.There.{judged_there}
use Rattle.access_matrix.proofs.DeedCommands.{move_accepted, move_command, move_front, move_request, told_token}
use Rattle.access_matrix.proofs.DomainSelected.{acts_there, used_entry}
use Rattle.access_matrix.proofs.JudgedOnce.{passes_told}
use Rattle.access_matrix.proofs.command.moves.Goals as goal

pub returns : goal.returns
returns c page said says well =
    let tables = c.args.tables.now in
    let slot = c.args.domain in
    let domain = domain_aid tables.entries.items slot in
    let to = c.args.to in
    let aid = c.args.aid in
    let given = c.token_for-token.result in
    let command = move_command to aid given in
    let admitted = judged_there said domain command in
    let entry = used_entry tables slot c.requires.domain in
    let acts = acts_there page tables said says slot entry.0 entry.1 well command in
    let front : c.five_fields-before.result.items ≡ move_front to aid given =
    c.five_fields-before.ensures.items ∙ (λ i. flat_map with_length (c.as_bytes.ensures.bytes i ∷ [] ∷ c.as_bytes-2.ensures.bytes i ∷ [] ∷ [] ∷ [])) in
    let approved = told_token said domain (IsTrue c.is_delegate-delegated.result) (Holds admitted delegated_management) 0x10 0x00 (move_front to aid given) c.deref.result.now given
    (c.is_delegate-delegated.ensures page admitted acts) (c.deref.ensures.0 ∙ front) (c.token_for-token.ensures.approved page admitted acts) in
    let is = move_request to aid given _ c.as_bytes.ensures.length c.as_bytes-2.ensures.length c.token_for-token.ensures.size refl refl refl refl
    (c.deref-2.ensures.0 ∙ front) c.token_bytes.ensures in
    move_accepted to aid given said domain approved
    (passes_told ((command_form managed_extradition).fails admitted) (command_form managed_extradition).rules c.judge_request.result
    (c.judge_request.ensures.passed page admitted acts tt is) (c.judge_request.ensures.refused page admitted acts tt is) c.is_ok.result c.is_ok.ensures.value)
