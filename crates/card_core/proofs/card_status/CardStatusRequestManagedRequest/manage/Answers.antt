use Rattle.std.proofs.Common.{None, ap, inl, refl, sym, subst, ◌∙◌}
use Rattle.card_core.proofs.Answered.{entries_selected}
use Rattle.card_core.proofs.CardLifeSet.{card_life_cards, card_life_says}
use Rattle.card_core.proofs.FreePages.{files_free}
use Rattle.card_core.proofs.Managing.{refused_as, replied_managed}
use Rattle.card_core.specs.Prelude.{ActsIn, IsCardStatusOf, command_form, managed_card_status, with_card_life}
use Rattle.card_types.specs.declared.tables.Tables.{Tables}
use Rattle.policy_machine.proofs.Judging.{judged}
use Rattle.card_core.proofs.card_status.CardStatusRequestManagedRequest.manage.Goals as goal

pub returns-in_err-life-clause-done : goal.returns-in_err-life-clause-done
returns-in_err-life-clause-done g c page admitted acts says channels request holds =
    let is : IsCardStatusOf c.args.self.now.life admitted.command = record { parameters = request.form.1; code_is = request.means } in
    let here = subst (λ (t : Tables). ActsIn page t c.args.acting.now.domain admitted) (sym c.tables.ensures.tables) acts in
    refused_as (command_form managed_card_status) (λ held here. inl here) admitted request.form refl page c.args.records.now.tables c.args._reply.now.items c.from_residual.result c.in_err-life.field-0.0 c.from_residual.ensures.1
    (c.in_err-life.ensures.refused page admitted here is) c.requires.empty

pub returns-clause-done : goal.returns-clause-done
returns-clause-done g c page admitted acts says channels request holds =
    let before = c.args.records.now.tables in
    let life = c.in_ok-life.life in
    let is : IsCardStatusOf c.args.self.now.life admitted.command = record { parameters = request.form.1; code_is = request.means } in
    let here = subst (λ (t : Tables). ActsIn page t c.args.acting.now.domain admitted) (sym c.tables.ensures.tables) acts in
    replied_managed managed_card_status (λ held here. inl here) admitted request.form tt tt (with_card_life admitted.at.registry life)
    (record { life = life; code = c.in_ok-life.ensures.life ∙ is.code_is; registry = refl })
    (judged (command_form managed_card_status) (λ held here. inl here) admitted request.form refl None (c.in_ok-life.ensures.passed page admitted here is)) (λ no. no)
    page c.set_card_life.new.self.tables (card_life_says before c.set_card_life.new.self.tables life c.set_card_life.ensures.tables page admitted.at.registry acts.says)
    c.args._reply.now.items c.requires.empty (record { 0 = 0x9000 }) refl

pub returns-clause-cards : goal.returns-clause-cards
returns-clause-cards g c = card_life_cards c.args.records.now.tables c.set_card_life.new.self.tables c.in_ok-life.life c.set_card_life.ensures.tables c.requires.cards

pub returns-clause-selected : goal.returns-clause-selected
returns-clause-selected g c = entries_selected c.args.acting.now.live.now c.args.records.now.tables.entries.items c.set_card_life.new.self.tables.entries.items (ap (λ (t : Tables). t.entries.items) c.set_card_life.ensures.tables)

pub returns-clause-free : goal.returns-clause-free
returns-clause-free g c = files_free c.args.records.now.tables c.set_card_life.new.self.tables (ap (λ (t : Tables). t.files.items) c.set_card_life.ensures.tables)
