use Rattle.std.proofs.Common.{refl, sym, ap, subst, ◌∙◌}
use Rattle.policy_machine.proofs.NumbersRisen.{numbers_rise}
use Rattle.policy_machine.proofs.Opened.{changes_are_opened}
use Rattle.policy_machine.proofs.TreesStayed.{trees_stay}
use Rattle.card_core.specs.Prelude.{AreCards, Changes, pages_after}
use Rattle.load_session.proofs.Loading.{pages_stay_whole}
use Rattle.card_core.proofs.LoadsKept.{free_spare}
use Rattle.card_core.proofs.Over.{committed, registry_told, served_keeps, served_load, served_says}
use Rattle.card_core.proofs.card.Card.process.Goals as goal

pub serve-rule-requires-clause-some : goal.serve-rule-requires-clause-some
serve-rule-requires-clause-some g c = (c.self.invariant.1 (ap (λ view. view.live) c.self.view_is ∙ c.requires.live)).1

pub commit-requires-clause-spare : goal.commit-requires-clause-spare
commit-requires-clause-spare g c = λ told.
    let idle = (c.self.invariant.1 (ap (λ view. view.live) c.self.view_is ∙ c.requires.live)).0 in
    rw c.deref.ensures.0 (free_spare g.F.Flash c.self.inside.records.flash c.serve-rule.new.records.flash c.self.inside.records.tables c.serve-rule.new.channels.loading.writes.items
    c.serve-rule.ensures.same.0 (idle.spare told) c.serve-rule.ensures.writes)

pub invariant_of-self : goal.invariant_of-self
invariant_of-self g c = (
  subst AreCards (sym c.in-Ok.ensures.tables) c.serve-rule.ensures.cards,
  λ live. (
    record { live = c.in-Ok.ensures.ok.1; staged = c.in-Ok.ensures.ok.0; writes = c.clear-in-Ok.ensures; spare = c.in-Ok.ensures.spare },
    (let some = (c.self.invariant.1 (ap (λ view. view.live) c.self.view_is ∙ c.requires.live)).1 in
        let writes = c.serve-rule.new.channels.loading.writes.items in
        let served = c.serve-rule.ensures.served some.page some.state some.whole some.shows some.sound in
        record {
          page = pages_after some.page writes;
          whole = pages_stay_whole some.page writes c.serve-rule.ensures.writes.whole some.whole;
          state = served.0;
          shows = rw c.in-Ok.ensures.tables served.1;
          sound = served.2;
        }),
  ),
)

pub invariant_of-self-in-Err : goal.invariant_of-self-in-Err
invariant_of-self-in-Err g c = (subst AreCards (sym c.in-Err.ensures.tables) c.serve-rule.ensures.cards, λ live. cc)

-- power lost at any moment leaves the registry from before, or the one after the command
pub returns-in-Ok-clause-step : goal.returns-in-Ok-clause-step
returns-in-Ok-clause-step g c state stands =
    let F = g.F.Flash in
    let card = c.args.self.now in
    let rule = c.serve-rule in
    let writes = rule.new.channels.loading.writes.items in
    let served = rule.ensures.served stands.page state stands.whole (rw (← c.self.view_is) at stands.shows) stands.sound in
    let says = served.1.says.registry in
    let same = rule.ensures.same.0 ∙ ap (λ view. view.flash) c.self.view_is in (
      record { state = served.0; reply = rule.new.reply.items; rule = rule.result },
      served.3,
      committed F card state stands rule.new.records.flash same c.commit.new.records.flash writes rule.new.records.tables served.0.registry says (rw c.deref.ensures.0 at c.in-Ok.ensures.moments),
      (
        record {
          live = ap (λ view. view.live) c.self.view_is ∙ stands.live;
          page = pages_after stands.page writes;
          whole = pages_stay_whole stands.page writes rule.ensures.writes.whole stands.whole;
          shows = rw c.in-Ok.ensures.tables served.1;
          sound = served.2;
          load = λ told. (rw c.deref.ensures.0 at c.in-Ok.ensures.load) told ∙ ap (λ page. pages_after page writes) (served_load F card state stands rule.new.records.flash same told);
          keeps = λ told. (rw c.deref.ensures.0 at c.in-Ok.ensures.keeps) told state.registry served.0.registry (served_keeps F card state stands rule.new.records.flash same told)
              (served_says F card state stands rule.new.records.flash same writes rule.new.records.tables served.0.registry says told);
        },
        refl,
        refl,
      ),
    )

pub returns-in-Err-clause-step : goal.returns-in-Err-clause-step
returns-in-Err-clause-step g c state stands =
    let F = g.F.Flash in
    let rule = c.serve-rule in
    let served = rule.ensures.served stands.page state stands.whole (rw (← c.self.view_is) at stands.shows) stands.sound in
    let same = rule.ensures.same.0 ∙ ap (λ view. view.flash) c.self.view_is in (
      record { state = served.0; reply = rule.new.reply.items; rule = rule.result },
      served.3,
      committed F c.args.self.now state stands rule.new.records.flash same c.commit.new.records.flash rule.new.channels.loading.writes.items rule.new.records.tables served.0.registry
          served.1.says.registry (rw c.deref.ensures.0 at c.in-Err.ensures.moments),
      tt,
    )

-- what changes more than a counter opens in a session
pub returns-in-Ok-clause-changes : goal.returns-in-Ok-clause-changes
returns-in-Ok-clause-changes g c state next stands after told changes =
    let F = g.F.Flash in
    let did = returns-in-Ok-clause-step g c state stands in
    let same = registry_told F _ did.0.state next did.3.0 after told in
    let opened = changes_are_opened state c.args.command.now did.0 did.1 (subst (Changes state.registry) (sym same) changes) in
    (did.3.2 ∙ opened.0, opened.1)

pub returns-in-Ok-clause-apart : goal.returns-in-Ok-clause-apart
returns-in-Ok-clause-apart g c state stands outcome step = trees_stay state c.args.command.now outcome stands.sound step

pub returns-in-Ok-clause-receipts : goal.returns-in-Ok-clause-receipts
returns-in-Ok-clause-receipts g c state stands outcome step = numbers_rise state c.args.command.now outcome stands.sound step

pub returns-in-Err-clause-apart : goal.returns-in-Err-clause-apart
returns-in-Err-clause-apart g c state stands outcome step = trees_stay state c.args.command.now outcome stands.sound step

pub returns-in-Err-clause-receipts : goal.returns-in-Err-clause-receipts
returns-in-Err-clause-receipts g c state stands outcome step = numbers_rise state c.args.command.now outcome stands.sound step
