use Rattle.std.proofs.Common.{◌≡◌, List, ℕ, Some, refl, subst, sym}
use Rattle.std.specs.Prelude.{◌↔◌, IsTrue}
use Rattle.card_types.proofs.Domains.{domain_aid_is}
use Rattle.card_types.proofs.EntryNames.{entry_in_slot}
use Rattle.card_types.specs.Represents.{domain_aid, entry_of, thing_in}
use Rattle.policy_machine.specs.EntryStatus.{managed_entry_status}
use Rattle.policy_machine.specs.ManagedForm.{command_form}
use Rattle.access_matrix.specs.Passing.{IsDeedAccepted}
use Rattle.access_matrix.specs.There.{judged_there}
use Rattle.access_matrix.specs.declared.deed.Deed.TheVariants.{Lock}
use Rattle.access_matrix.proofs.AidsInSlots.{entry_has_aid}
use Rattle.access_matrix.proofs.DeedCommands.{lock_accepted, lock_command, lock_request}
use Rattle.access_matrix.proofs.DomainSelected.{acts_there, used_entry}
use Rattle.access_matrix.proofs.JudgedOnce.{passes_told}
use Rattle.access_matrix.proofs.command.locks.Goals as goal

pub returns : goal.returns
returns c page said says well =
    let tables = c.args.tables.now in
    let slot = c.args.domain in
    let domain = domain_aid tables.entries.items slot in
    let target = c.unwrap-entry.result.now in
    let found = rw c.unwrap-entry.ensures at c.in_slot.ensures in
    let at : thing_in tables.entries.items c.args.slot ≡ Some target = rw c.deref.ensures.value at found in
    let p2 = c.code.result in
    let command = lock_command target.aid p2 in
    let admitted = judged_there said domain command in
    let entry = used_entry tables slot c.requires.domain in
    let acts = acts_there page tables said says slot entry.0 entry.1 well command in
    let is = lock_request target.aid p2 _ (entry_has_aid tables c.requires.in_order c.args.slot target at) refl refl refl in
    subst (λ (aid : List ℕ). IsTrue c.is_ok.result ↔ IsDeedAccepted said domain (Lock aid)) (sym (domain_aid_is tables.entries.items c.args.slot target at))
    (lock_accepted target.aid p2 said domain (entry_of tables.entries.items tables.files.items target)
    (entry_in_slot page tables said says c.args.slot target at) c.code.ensures
    (passes_told ((command_form managed_entry_status).fails admitted) (command_form managed_entry_status).rules c.judge_entry_status.result
    (c.judge_entry_status.ensures.passed page admitted acts is) (c.judge_entry_status.ensures.refused page admitted acts is) c.is_ok.result c.is_ok.ensures.value))
