use Rattle.std.proofs.Common.{inl, inr, refl, sym, subst, ◌∙◌}
use Rattle.card_types.specs.Represents.{domain_aid}
use Rattle.policy_machine.specs.DeleteObject.{IsDelegated, managed_delete_object}
use Rattle.policy_machine.specs.ManagedForm.{command_form}
use Rattle.policy_slots.specs.StateShown.{RepresentsState}
use Rattle.policy_slots.specs.declared.live.Live.{Live}
use Rattle.std.specs.Prelude.{IsTrue}
use Rattle.tokens_receipts.specs.Token.{object_named_by}
use Rattle.access_matrix.specs.There.{judged_there, with_domain}
use Rattle.access_matrix.proofs.DeedCommands.{IsDeletionP2, deletion_accepted, deletion_command, deletion_request, told_token}
use Rattle.access_matrix.proofs.DomainSelected.{acts_there, represented_there, used_entry}
use Rattle.access_matrix.proofs.JudgedOnce.{passes_told}
use Rattle.access_matrix.proofs.command.deletes.Goals.{then-related, else-related}
use Rattle.access_matrix.proofs.command.deletes.Goals as goal

pub returns : goal.returns
returns c page said says well =
    let tables = c.args.tables.now in
    let slot = c.args.domain in
    let domain = domain_aid tables.entries.items slot in
    let aid = c.args.aid in
    let given = c.token_for-token.result in
    let p2 = c.if-related.p2 in
    let told : IsDeletionP2 c.args.related p2 = elim c.if-related.branch [
      | then-related w ↦ inl (w.if-related.true, w.p2-is)
      | else-related w ↦ inr (w.if-related.false, w.p2-is)
    ] in
    let command = deletion_command aid given c.args.related p2 told in
    let admitted = judged_there said domain command in
    let entry = used_entry tables slot c.requires.domain in
    let acts = acts_there page tables said says slot entry.0 entry.1 well command in
    let represented = subst (λ (live : Live). RepresentsState page tables live (with_domain said domain)) (sym c.live_with.ensures)
    (represented_there page tables said says slot entry.0 entry.1) in
    let approved = told_token said domain (IsTrue c.deletes_as_delegate-delegated.result) (IsDelegated admitted) 0x00 p2 (object_named_by aid) c.deref.result.now given
    (c.deletes_as_delegate-delegated.ensures page admitted acts) (c.deref.ensures.0 ∙ c.object_field-before.ensures.items)
    (c.token_for-token.ensures.approved page admitted acts) in
    let is = deletion_request aid given c.args.related p2 told _ c.requires.aid c.token_for-token.ensures.size refl refl refl refl
    (c.deref-2.ensures.0 ∙ c.object_field-before.ensures.items) c.token_bytes.ensures in
    deletion_accepted aid given c.args.related p2 told said domain approved
    (passes_told ((command_form managed_delete_object).fails admitted) (command_form managed_delete_object).rules c.judge_request.result
    (c.judge_request.ensures.passed page admitted acts (represented, refl) is) (c.judge_request.ensures.refused page admitted acts (represented, refl) is)
    c.is_ok.result c.is_ok.ensures.value)
