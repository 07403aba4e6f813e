use Rattle.std.proofs.Common.{ℕ, inl, List, [], ◌∷◌, ◌++◌, refl, ap, sym, subst, ◌∙◌}
use Rattle.card_core.proofs.Answered.{entries_selected}
use Rattle.card_core.proofs.Cards.{in_order}
use Rattle.card_core.proofs.FreePages.{files_free}
use Rattle.card_core.proofs.DeleteKeyDone.{deleted_cards, deleted_says}
use Rattle.card_core.proofs.Managing.{refusal_managed, replied_managed}
use Rattle.card_core.specs.Prelude.{ActsIn, IsInOrder, Represents, acting, managed_delete_key}
use Rattle.card_types.specs.declared.tables.Tables.{Tables}
use Rattle.policy_machine.proofs.DeleteKeyKeeps.{without_version}
use Rattle.card_core.proofs.delete_key.DeleteKeyRequestManagedRequest.manage.Goals as goal

pub judge_delete_key-requires : goal.judge_delete_key-requires
judge_delete_key-requires g c = record { in_order = subst IsInOrder (sym c.tables.ensures.tables) (in_order c.args.records.now.tables c.requires.cards) }

pub returns-in_err-judge_delete_key-clause-done : goal.returns-in_err-judge_delete_key-clause-done
returns-in_err-judge_delete_key-clause-done g c page admitted acts says channels request holds =
    let here = subst (λ (t : Tables). ActsIn page t c.args.acting.now.domain admitted) (sym c.tables.ensures.tables) acts in
    refusal_managed admitted page c.args.records.now.tables c.args.reply.now.items c.from_residual.result c.in_err-judge_delete_key.field-0.0 c.from_residual.ensures.1
    (c.in_err-judge_delete_key.ensures.refused page admitted here request)
    c.requires.empty

pub returns-clause-done : goal.returns-clause-done
returns-clause-done g c page admitted acts says channels request holds =
    let here = subst (λ (t : Tables). ActsIn page t c.args.acting.now.domain admitted) (sym c.tables.ensures.tables) acts in
    let registry = without_version admitted.at.registry (acting admitted) c.args.self.now.version in
    let says = deleted_says c.args.records.now c.delete.new.keeper c.delete.ensures.same_else c.args.acting.now.domain c.args.self.now.version c.delete.ensures.deletes page
    admitted.at.registry acts.says acts.well acts.entry acts.at in
    replied_managed managed_delete_key (λ holds here. inl here) admitted request.form (record { version = c.args.self.now.version; identifier = c.args.self.now.identifier }) request.means
    registry refl (c.in_ok-judge_delete_key.ensures.passed page admitted here request) (λ no. no) page c.delete.new.keeper.tables
    (subst (λ (aid : List ℕ). Represents page c.delete.new.keeper.tables (without_version admitted.at.registry aid c.args.self.now.version)) (sym acts.on) says)
    _ (c.push.ensures.items ∙ ap (λ (items : List ℕ). items ++ 0x00 ∷ []) c.requires.empty) (record { 0 = 0x9000 }) refl

pub returns-clause-cards : goal.returns-clause-cards
returns-clause-cards g c =
    deleted_cards c.args.records.now c.delete.new.keeper c.delete.ensures.same_else c.args.acting.now.domain c.args.self.now.version c.delete.ensures.deletes
    c.delete.result c.delete.ensures.found c.delete.ensures.unchanged c.requires.cards

pub returns-clause-selected : goal.returns-clause-selected
returns-clause-selected g c = entries_selected c.args.acting.now.live.now c.args.records.now.tables.entries.items c.delete.new.keeper.tables.entries.items (c.delete.ensures.same_else.entries)

pub returns-clause-free : goal.returns-clause-free
returns-clause-free g c = files_free c.args.records.now.tables c.delete.new.keeper.tables (c.delete.ensures.same_else.files)
