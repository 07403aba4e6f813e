use Rattle.std.proofs.Common.{None, Some, arith, refl, subst, sym, ◌∙◌}
use Rattle.card_core.proofs.Answered.{entries_selected, selected_on}
use Rattle.card_core.proofs.Cards.{in_order}
use Rattle.card_core.proofs.Confirming.{finds_receipter}
use Rattle.card_core.proofs.FreePages.{files_free, free_twice}
use Rattle.card_core.proofs.Managing.{confirmed_managed, refusal_managed}
use Rattle.card_core.proofs.SomeAdmitted.{some_acts, some_admitted}
use Rattle.card_types.specs.Represents.{IsInOrder}
use Rattle.card_core.proofs.confirmed_request.AnyManagedRequest.manage.Goals as goal

pub judge_request-requires-clause-in_order : goal.judge_request-requires-clause-in_order
judge_request-requires-clause-in_order g c = subst IsInOrder (sym c.tables.ensures.tables) (in_order c.args.records.now.tables c.requires.cards)

pub judge_request-requires-clause-short : goal.judge_request-requires-clause-short
judge_request-requires-clause-short g c =
    let formed = c.requires.formed in
    omega (arith, g.met.M.FormRequest.fits c.args.self.now formed.0.p1 formed.0.p2 formed.0.body formed.1.means, formed.2)

pub returns-in_err-judged-clause-done : goal.returns-in_err-judged-clause-done
returns-in_err-judged-clause-done g c page admitted acts says channels request holds =
    let met = g.met.M.FormRequest in
    let rule = c.in_err-judged.field-0.0 in
    let told = met.shown page c.args.records.now.tables c.args.acting.now.live.now admitted says channels in
    refusal_managed admitted page c.args.records.now.tables c.args.reply.now.items c.from_residual.result rule c.from_residual.ensures.1
    (met.judges c.args.self.now admitted request (Some rule)
    ((rw c.tables.ensures.tables at c.in_err-judged.ensures.refused) page admitted acts told (met.read c.args.self.now admitted.command request))) c.requires.empty

pub returns-in_err-judged-clause-selected : goal.returns-in_err-judged-clause-selected
returns-in_err-judged-clause-selected g c = entries_selected c.args.acting.now.live.now c.args.records.now.tables.entries.items c.args.records.now.tables.entries.items refl

pub change-about-requires-clause-found : goal.change-about-requires-clause-found
change-about-requires-clause-found g c = rw c.tables.ensures.tables at c.in_ok-judged.ensures.found

pub change-about-requires-clause-passed : goal.change-about-requires-clause-passed
change-about-requires-clause-passed g c = rw c.tables.ensures.tables at c.in_ok-judged.ensures.passed

pub confirm-requires-clause-able : goal.confirm-requires-clause-able
confirm-requires-clause-able g c =
    let before = c.args.records.now.tables in
    let receipter = c.in_ok-judged.judged.receipter in
    let order = in_order before c.requires.cards in
    let some = some_admitted order.page before order.said order.says order.well c.args.acting.now.domain c.requires.domain None c.requires.formed.0 in
    let acts = some_acts order.page before order.said order.says order.well c.args.acting.now.domain c.requires.domain None c.requires.formed.0 in
    let is = g.met.M.ConfirmedRequest.formed c.args.self.now some c.requires.formed.1 in
    let finds = (rw c.tables.ensures.tables at c.in_ok-judged.ensures.receipter) order.page some acts is.receipted_is in
    let found = finds_receipter (g.M.JudgedRequest.form.delegation.is_delegated some) before some receipter finds in
    (c.change-about.ensures.confirmer order.page some acts receipter found).1 (rw c.tables.ensures.tables at c.in_ok-judged.ensures.able)

pub returns : goal.returns
returns g c =
    let met = g.met.M.FormRequest in
    let rules = g.M.JudgedRequest.form in
    let live = c.args.acting.now.live.now in
    let before = c.args.records.now.tables in
    let after = c.change-about.new.records.tables in
    let last = c.confirm.new.records.tables in
    let receipter = c.in_ok-judged.judged.receipter in
    record {
      done = λ page admitted acts says channels request holds.
          (let is = g.met.M.ConfirmedRequest.formed c.args.self.now admitted request in
          let told = met.shown page before live admitted says channels in
          let first = (rw c.tables.ensures.tables at c.in_ok-judged.ensures.passed) page admitted acts told (met.read c.args.self.now admitted.command request) in
          let finds = (rw c.tables.ensures.tables at c.in_ok-judged.ensures.receipter) page admitted acts is.receipted_is in
          let found = finds_receipter (rules.delegation.is_delegated admitted) before admitted receipter finds in
          confirmed_managed g.M.ConfirmedRequest.managed rules admitted g.M.JudgedRequest.receipted is (met.judges c.args.self.now admitted request None first) page before after last c.args.acting.now.domain c.requires.cards acts
          receipter finds (c.change-about.ensures.confirmer page admitted acts receipter found).0
          _ (c.change-about.ensures.becomes page admitted acts request) c.confirm.new.reply.items c.confirm.ensures.answered (record { 0 = 0x9000 }) refl);
      selected = selected_on live before.entries.items after.entries.items last.entries.items c.change-about.ensures.selected c.confirm.ensures.aids;
      free = free_twice before after last c.change-about.ensures.free (files_free after last c.confirm.ensures.files);
      cards = c.confirm.ensures.cards;
      same = (c.confirm.ensures.same.0 ∙ c.change-about.ensures.same.0, c.confirm.ensures.same.1);
      refused = tt;
      room = c.confirm.ensures.room;
    }
