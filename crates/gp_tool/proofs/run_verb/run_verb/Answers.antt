use Rattle.std.proofs.Common.{refl, inl, inr}
use Rattle.policy_machine.specs.State.{powered_on}
use Rattle.gp_tool.proofs.Powered.{no_other_cause, not_powered, rose_since, serves_since}
use Rattle.gp_tool.proofs.run_verb.run_verb.Goals as goal

pub returns-in-Ok-clause-memory : goal.returns-in-Ok-clause-memory
returns-in-Ok-clause-memory g c is = (let never = c.serve-served.ensures.never in absurd (never.2 is))

pub returns-in-Ok-clause-run : goal.returns-in-Ok-clause-run
returns-in-Ok-clause-run g c fits =
    let powered = c.in-Ok.ensures in
    let stands = powered.stands in
    rw c.into_flash.ensures (inr (record {
      registry = stands.0;
      reopens = stands.1;
      serves = serves_since c.args.verb g.S.Source g.K.Sink g.F.Flash c.args.flash c.in-Ok.card (powered_on stands.0) stands.2 powered.moments powered.later _ _ _ _ _ _ _ _
          (c.serve-served.ensures.run (powered_on stands.0) stands.2);
    }))

pub returns-in-Ok-clause-no_card : goal.returns-in-Ok-clause-no_card
returns-in-Ok-clause-no_card g c told none = (let stands = c.in-Ok.ensures.stands in absurd (none (stands.0, stands.1 told)))

pub returns-in-Ok-clause-complete : goal.returns-in-Ok-clause-complete
returns-in-Ok-clause-complete g c told tells card good none =
    let stands = c.in-Ok.ensures.stands in
    inl (c.serve-served.ensures.complete (powered_on stands.0) stands.2 told good
    (record { reads = none.reads; writes = none.writes; flash = λ rose. (rw c.into_flash.ensures at none.flash) (rose_since _ _ _ c.in-Ok.ensures.later rose) }))

pub returns-in-Err-clause-run : goal.returns-in-Err-clause-run
returns-in-Err-clause-run g c fits =
    let e = c.in-Err.ensures in
    inl (not_powered g.F.Flash c.args.flash c.in-Err.refused.flash c.in-Err.refused.cause c.refusal.result e.err e.err_moments c.refusal.ensures fits, refl, refl)

pub returns-in-Err-clause-complete : goal.returns-in-Err-clause-complete
returns-in-Err-clause-complete g c told tells card good none =
    let F = g.F.Flash in
    inr (no_other_cause F c.args.flash c.in-Err.refused.flash c.in-Err.refused.cause c.refusal.result c.in-Err.ensures.err c.refusal.ensures tells card.0 card.1 none.flash)
