use Rattle.std.proofs.Common.{refl, sym, subst, ◌∙◌}
use Rattle.gp_tool.proofs.FormatEnding.{formats_all}
use Rattle.gp_tool.proofs.Statuses.{desk_never, never_others}
use Rattle.gp_tool.specs.Tasks.{NeedsCard}
use Rattle.gp_tool.specs.declared.task.Task.{Task}
use Rattle.gp_tool.proofs.top.do_task.Goals as goal

pub returns-in-Format-clause-ends : goal.returns-in-Format-clause-ends
returns-in-Format-clause-ends g c = rw c.in-Format.is (refl, c.format_verb.ensures.format)

pub returns-in-Serve-clause-ends : goal.returns-in-Serve-clause-ends
returns-in-Serve-clause-ends g c = rw c.in-Serve.is c.run_verb.ensures.run

pub returns-in-Mill-clause-ends : goal.returns-in-Mill-clause-ends
returns-in-Mill-clause-ends g c = rw c.in-Mill.is (λ other. (refl, c.mill_verb.ensures.mill other))

pub returns-in-Show-clause-ends : goal.returns-in-Show-clause-ends
returns-in-Show-clause-ends g c = rw c.in-Show.is (λ other. (refl, c.show_verb.ensures.show other))

pub returns-in-Desk-clause-ends : goal.returns-in-Desk-clause-ends
returns-in-Desk-clause-ends g c = rw c.in-Desk.is ((refl, refl), c.desk_verb.ensures.ends)

pub returns-in-Cap-clause-ends : goal.returns-in-Cap-clause-ends
returns-in-Cap-clause-ends g c = rw c.in-Cap.is (λ other. ((refl, refl), c.cap_verb.ensures.ends other))

pub returns-in-Format-clause-memory : goal.returns-in-Format-clause-memory
returns-in-Format-clause-memory g c is =
    let made = c.format_verb.ensures.format in
    let never = never_others made.ending in
    absurd (never.2 (sym made.ended.status_is ∙ is))

pub returns-in-Serve-clause-memory : goal.returns-in-Serve-clause-memory
returns-in-Serve-clause-memory g c is = (let same = c.run_verb.ensures.memory is in rw c.in-Serve.is (same.0, same.1, same.3, same.2))

pub returns-in-Mill-clause-memory : goal.returns-in-Mill-clause-memory
returns-in-Mill-clause-memory g c is = (let same = c.mill_verb.ensures.memory is in rw c.in-Mill.is (refl, same.0, same.1, same.2))

pub returns-in-Show-clause-memory : goal.returns-in-Show-clause-memory
returns-in-Show-clause-memory g c is = (let same = c.show_verb.ensures.memory is in rw c.in-Show.is (refl, same.0, same.2, same.1))

pub returns-in-Desk-clause-memory : goal.returns-in-Desk-clause-memory
returns-in-Desk-clause-memory g c is = (let ends = c.desk_verb.ensures.ends in absurd (desk_never ends.ending (sym ends.status_is ∙ is)))

pub returns-in-Cap-clause-memory : goal.returns-in-Cap-clause-memory
returns-in-Cap-clause-memory g c is = (let same = c.cap_verb.ensures.memory is in rw c.in-Cap.is (same.0, same.1, refl, refl))

-- the other tasks need no card
pub returns-in-Format-clause-no_card : goal.returns-in-Format-clause-no_card
returns-in-Format-clause-no_card g c needs told none = absurd (subst (λ (task : Task). NeedsCard task) c.in-Format.is needs)

pub returns-in-Mill-clause-no_card : goal.returns-in-Mill-clause-no_card
returns-in-Mill-clause-no_card g c needs told none = absurd (subst (λ (task : Task). NeedsCard task) c.in-Mill.is needs)

pub returns-in-Desk-clause-no_card : goal.returns-in-Desk-clause-no_card
returns-in-Desk-clause-no_card g c needs told none = absurd (subst (λ (task : Task). NeedsCard task) c.in-Desk.is needs)

pub returns-in-Cap-clause-no_card : goal.returns-in-Cap-clause-no_card
returns-in-Cap-clause-no_card g c needs told none = absurd (subst (λ (task : Task). NeedsCard task) c.in-Cap.is needs)

pub returns-in-Serve-clause-no_card : goal.returns-in-Serve-clause-no_card
returns-in-Serve-clause-no_card g c needs told none = c.run_verb.ensures.no_card told none

pub returns-in-Show-clause-no_card : goal.returns-in-Show-clause-no_card
returns-in-Show-clause-no_card g c needs told none = c.show_verb.ensures.no_card told none

pub returns-in-Format-clause-complete : goal.returns-in-Format-clause-complete
returns-in-Format-clause-complete g c =
    let made = c.format_verb.ensures.format in
    rw c.in-Format.is (λ told no_write no_flash.
    made.ended.status_is ∙ formats_all g.F.Flash g.K.Sink.tells c.format_verb.result.flash _ _ _ _ made.ending made.ends made.ended.cause no_write no_flash)

pub returns-in-Serve-clause-complete : goal.returns-in-Serve-clause-complete
returns-in-Serve-clause-complete g c = rw c.in-Serve.is c.run_verb.ensures.complete

pub returns-in-Mill-clause-complete : goal.returns-in-Mill-clause-complete
returns-in-Mill-clause-complete g c = rw c.in-Mill.is c.mill_verb.ensures.complete

pub returns-in-Show-clause-complete : goal.returns-in-Show-clause-complete
returns-in-Show-clause-complete g c = rw c.in-Show.is (λ holds told no_write no_flash. c.show_verb.ensures.complete told holds no_write no_flash)

pub returns-in-Desk-clause-complete : goal.returns-in-Desk-clause-complete
returns-in-Desk-clause-complete g c = rw c.in-Desk.is c.desk_verb.ensures.complete

pub returns-in-Cap-clause-complete : goal.returns-in-Cap-clause-complete
returns-in-Cap-clause-complete g c = rw c.in-Cap.is c.cap_verb.ensures.complete
