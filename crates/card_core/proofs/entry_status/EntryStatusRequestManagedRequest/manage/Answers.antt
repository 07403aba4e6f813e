use Rattle.std.proofs.Common.{◌≡◌, inl, inr, None, Some, refl, ap, sym, subst, ◌∙◌}
use Rattle.card_core.proofs.Answered.{aids_selected}
use Rattle.card_core.proofs.Cards.{in_order}
use Rattle.card_core.proofs.FreePages.{files_free}
use Rattle.card_core.proofs.Managing.{refused_as, replied_managed}
use Rattle.card_core.proofs.SomeAdmitted.{of_card, some_acts, some_admitted}
use Rattle.card_core.proofs.StatusChanged.{change_says, changed_aids, changed_cards, used_by_name}
use Rattle.card_core.specs.Prelude.{ActsIn, IsInOrder, IsOther, MakesChange, aid_of, command_form, managed_entry_status, slot_of}
use Rattle.card_types.specs.declared.found.Found.TheVariants as found
use Rattle.card_types.specs.declared.tables.Tables.{Tables}
use Rattle.domain_tree.proofs.AboveNamed.{free_of_loops}
use Rattle.policy_machine.proofs.Judging.{judged}
use Rattle.policy_machine.proofs.EntryStatusLaws.{set_of_card}
use Rattle.policy_rules.specs.declared.entry_status.StatusChange.{StatusChange}
use Rattle.policy_rules.specs.declared.entry_status.StatusChange.TheVariants.{One, Tree}
use Rattle.card_core.proofs.entry_status.EntryStatusRequestManagedRequest.manage.Goals as goal

pub judge_entry_status-requires : goal.judge_entry_status-requires
judge_entry_status-requires g c = record { in_order = subst IsInOrder (sym c.tables.ensures.tables) (in_order c.args.records.now.tables c.requires.cards) }

pub returns-in_err-change-clause-done : goal.returns-in_err-change-clause-done
returns-in_err-change-clause-done g c page admitted acts says channels request holds =
    let here = subst (λ (t : Tables). ActsIn page t c.args.acting.now.domain admitted) (sym c.tables.ensures.tables) acts in
    refused_as (command_form managed_entry_status) (λ held here. inr (inl here)) admitted request.form refl page c.args.records.now.tables c.args._reply.now.items c.from_residual.result c.in_err-change.field-0.0 c.from_residual.ensures.1
    (c.in_err-change.ensures.refused page admitted here request.means) c.requires.empty

pub make_change-requires-clause-slot : goal.make_change-requires-clause-slot
make_change-requires-clause-slot g c =
    let change = c.in_ok-change.change in
    let named = subst (λ (t : Tables). aid_of t (found.Entry (slot_of change)) ≡ Some c.args.self.now.aid) c.tables.ensures.tables c.in_ok-change.ensures.named in
    used_by_name c.args.records.now.tables.entries.items (slot_of change) c.args.self.now.aid named

pub make_change-requires-clause-no_loops : goal.make_change-requires-clause-no_loops
make_change-requires-clause-no_loops g c =
    let order = in_order c.args.records.now.tables c.requires.cards in
    free_of_loops order.page c.args.records.now.tables order.said order.says order.well

pub make_change-requires-clause-other : goal.make_change-requires-clause-other
make_change-requires-clause-other g c = subst (λ (t : Tables). IsOther t.entries.items c.in_ok-change.change) c.tables.ensures.tables c.in_ok-change.ensures.other

pub returns-clause-done : goal.returns-clause-done
returns-clause-done g c page admitted acts says channels request holds =
    let before = c.args.records.now.tables in
    let after = c.make_change.new.records.tables in
    let change = c.in_ok-change.change in
    let here = subst (λ (t : Tables). ActsIn page t c.args.acting.now.domain admitted) (sym c.tables.ensures.tables) acts in
    let named = subst (λ (t : Tables). aid_of t (found.Entry (slot_of change)) ≡ Some c.args.self.now.aid) c.tables.ensures.tables c.in_ok-change.ensures.named in
    let left = change_says page before after admitted change (named ∙ ap Some request.means.aid) (c.in_ok-change.ensures.change page admitted here request.means)
    (c.make_change.ensures.said page admitted.at.registry acts.says acts.well) in
    replied_managed managed_entry_status (λ held here. inr (inl here)) admitted request.form tt request.means.field left.0 left.2
    (judged (command_form managed_entry_status) (λ held here. inr (inl here)) admitted request.form refl None (c.in_ok-change.ensures.passed page admitted here request.means)) (λ no. no)
    page after left.1 c.args._reply.now.items c.requires.empty (record { 0 = 0x9000 }) refl

pub returns-clause-selected : goal.returns-clause-selected
returns-clause-selected g c =
    let before = c.args.records.now.tables in
    let change = c.in_ok-change.change in
    let named = subst (λ (t : Tables). aid_of t (found.Entry (slot_of change)) ≡ Some c.args.self.now.aid) c.tables.ensures.tables c.in_ok-change.ensures.named in
    aids_selected c.args.acting.now.live.now before.entries.items c.make_change.new.records.tables.entries.items
    (changed_aids before c.make_change.new.records.tables change c.requires.cards
    (used_by_name before.entries.items (slot_of change) c.args.self.now.aid named) c.make_change.ensures.made c.make_change.ensures.said)

pub returns-clause-cards : goal.returns-clause-cards
returns-clause-cards g c =
    let before = c.args.records.now.tables in
    let after = c.make_change.new.records.tables in
    let change = c.in_ok-change.change in
    let asked = c.requires.formed in
    let named = subst (λ (t : Tables). aid_of t (found.Entry (slot_of change)) ≡ Some c.args.self.now.aid) c.tables.ensures.tables c.in_ok-change.ensures.named in
    let aids = changed_aids before after change c.requires.cards
    (used_by_name before.entries.items (slot_of change) c.args.self.now.aid named) c.make_change.ensures.made c.make_change.ensures.said in
    changed_cards before after change c.make_change.ensures.made aids (λ page said says well.
    (let some = some_admitted page before said says well c.args.acting.now.domain c.requires.domain None asked.0 in
    let acts = some_acts page before said says well c.args.acting.now.domain c.requires.domain None asked.0 in
    let here = subst (λ (t : Tables). ActsIn page t c.args.acting.now.domain some) (sym c.tables.ensures.tables) acts in
    let left = change_says page before after some change (named ∙ ap Some asked.1.means.aid) (c.in_ok-change.ensures.change page some here asked.1.means)
    (c.make_change.ensures.said page said says well) in
    let kept = set_of_card some asked.1.means.field (c.in_ok-change.ensures.passed page some here asked.1.means) (of_card page before said says well c.args.acting.now.domain c.requires.domain) left.0 left.2 in
    (left.0, left.1, kept.well))) c.requires.cards

same_files : (before after : Tables) (change : StatusChange) → MakesChange before after change → after.files.items ≡ before.files.items
same_files before after (One slot life) made = made.files
same_files before after (Tree domain locked) made = made.files

pub returns-clause-free : goal.returns-clause-free
returns-clause-free g c = files_free c.args.records.now.tables c.make_change.new.records.tables (same_files c.args.records.now.tables c.make_change.new.records.tables c.in_ok-change.change c.make_change.ensures.made)
