use Rattle.std.proofs.Common.{refl, ◌∙◌, inl, inr}
use Rattle.policy_machine.specs.State.{powered_on}
use Rattle.gp_tool.proofs.Powered.{cause_since, no_other_cause}
use Rattle.gp_tool.proofs.ShownCard.{has_shown, shows_all}
use Rattle.gp_tool.proofs.show_verb.show_verb.Goals as goal

pub returns-in-Ok-clause-show : goal.returns-in-Ok-clause-show
returns-in-Ok-clause-show g c fits =
    let F = g.F.Flash in
    let powered = c.in-Ok.ensures in
    let stands = powered.stands in
    let first = powered_on stands.0 in
    let showing = c.show_card-ending in
    rw c.into_flash.ensures (
      refl,
      inr (record {
        registry = stands.0;
        reopens = stands.1;
        ending = showing.result;
        ended = record {
          status_is = c.status.ensures;
          cause = cause_since showing.result _ _ _ _ _ powered.later showing.ensures.cause;
          flushes = showing.ensures.flushes;
        };
        ends = showing.ensures.ends first stands.2;
        shown = has_shown F g.met.F.Flash.counts_now c.args.flash showing.new.card.flash c.in-Ok.card first stands.2 powered.moments
            (λ told. showing.ensures.moments told first stands.2) showing.ensures.pages;
      }),
    )

pub returns-in-Ok-clause-no_card : goal.returns-in-Ok-clause-no_card
returns-in-Ok-clause-no_card g c told none = (let stands = c.in-Ok.ensures.stands in absurd (none (stands.0, stands.1 told)))

pub returns-in-Ok-clause-complete : goal.returns-in-Ok-clause-complete
returns-in-Ok-clause-complete g c told card no_write no_flash =
    let K = g.K.Sink in
    let stands = c.in-Ok.ensures.stands in
    let showing = c.show_card-ending in
    let seen = K.state in
    inl (c.status.ensures ∙ shows_all c.args.view (g.F.Flash.tells × K.tells) stands.0 (seen c.args.sink.now) (seen showing.new.sink) _ _ showing.result (showing.ensures.ends (powered_on stands.0) stands.2)
    (cause_since showing.result 0 _ _ _ _ c.in-Ok.ensures.later showing.ensures.cause) no_write (rw c.into_flash.ensures at no_flash))

pub returns-in-Err-clause-complete : goal.returns-in-Err-clause-complete
returns-in-Err-clause-complete g c told card no_write no_flash =
    let F = g.F.Flash in
    inr (no_other_cause F c.args.flash c.in-Err.refused.flash c.in-Err.refused.cause c.refusal.result c.in-Err.ensures.err c.refusal.ensures told card.0 card.1 no_flash)
