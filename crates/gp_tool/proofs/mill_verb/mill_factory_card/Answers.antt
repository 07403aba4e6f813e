use Rattle.std.proofs.Common.{[], ◌∷◌, ◌∙◌, refl, inl, inr}
use Rattle.policy_machine.specs.State.{powered_on}
use Rattle.gp_tool.proofs.MillEnding.{is_factory, leaves_made, mill_since, mills_all, not_milled}
use Rattle.gp_tool.proofs.Moments.{left_now}
use Rattle.gp_tool.proofs.Powered.{cause_since, no_other_cause}
use Rattle.card_types.specs.Factory.{factory_registry}
use Rattle.gp_tool.proofs.mill_verb.mill_factory_card.Goals as goal

pub returns-in-Ok-clause-mill : goal.returns-in-Ok-clause-mill
returns-in-Ok-clause-mill g c other =
    let F = g.F.Flash in
    let K = g.K.Sink in
    let powered = c.in-Ok.ensures in
    let stands = powered.stands in
    let milling = c.mill_card-ending in
    rw c.into_flash.ensures (inl (record {
      made = c.args.flash;
      factory = c.requires.factory;
      registry = stands.0;
      same = is_factory F c.args.flash stands.0 c.requires.factory stands.1;
      ending = milling.result;
      ended = record {
        status_is = c.status.ensures;
        cause = cause_since milling.result _ _ _ _ _ powered.later milling.ensures.cause;
        flushes = milling.ensures.flushes;
      };
      ends = mill_since F c.args.flash c.in-Ok.card (powered_on stands.0) stands.2 powered.moments c.args.work milling.new.end.card.flash milling.new.end.done
          K.tells milling.result (K.state c.args.sink.now) (K.state milling.new.sink) (milling.ensures.ends (powered_on stands.0) stands.2);
    }))

pub returns-in-Ok-clause-complete : goal.returns-in-Ok-clause-complete
returns-in-Ok-clause-complete g c told no_write no_flash =
    let F = g.F.Flash in
    let K = g.K.Sink in
    let powered = c.in-Ok.ensures in
    let stands = powered.stands in
    let milling = c.mill_card-ending in
    inl (c.status.ensures ∙ mills_all F K.tells c.args.work _ (powered_on stands.0) milling.result milling.new.end.card.flash milling.new.end.done (K.state c.args.sink.now) (K.state milling.new.sink) _ _
    (milling.ensures.ends (powered_on stands.0) stands.2)
    (cause_since milling.result 0 _ _ _ _ powered.later milling.ensures.cause) no_write (rw c.into_flash.ensures at no_flash))

pub returns-in-Err-clause-mill : goal.returns-in-Err-clause-mill
returns-in-Err-clause-mill g c other =
    let F = g.F.Flash in
    let e = c.in-Err.ensures in
    let new = c.in-Err.refused.flash in
    let leaves = leaves_made F c.args.flash new c.requires.factory e.err_moments in
    inr (
      not_milled F c.args.flash c.in-Err.refused.flash c.in-Err.refused.cause c.refusal.result c.requires.factory e.err
          (left_now F g.met.F.Flash.counts_now c.args.flash new (factory_registry ∷ []) leaves) leaves c.refusal.ensures other,
      refl,
    )

pub returns-in-Err-clause-complete : goal.returns-in-Err-clause-complete
returns-in-Err-clause-complete g c told no_write no_flash =
    let F = g.F.Flash in
    let keeps = c.requires.factory told in
    inr (no_other_cause F c.args.flash c.in-Err.refused.flash c.in-Err.refused.cause c.refusal.result c.in-Err.ensures.err c.refusal.ensures told factory_registry keeps.now no_flash)
