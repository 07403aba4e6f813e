use Rattle.std.proofs.Common.{sym, subst, ◌∙◌, ℕ, ◌<◌}
use Rattle.policy_rules.proofs.Channels.{lowest_is}
use Rattle.policy_rules.proofs.manage_channel.judge_more_channel.Goals as goal

pub returns-in-Some-clause-found : goal.returns-in-Some-clause-found
returns-in-Some-clause-found c page tables state says four =
    lowest_is tables.entries.items c.args.live.now.selected state.volatile.channels (c.first_closed.ensures.four ∙ sym four)
    (λ number low. says.selected number (subst (λ (n : ℕ). number < n) four low))
    ∙ sym c.first_closed.ensures.lowest ∙ c.in-Some.is

pub returns-in-None-clause-none : goal.returns-in-None-clause-none
returns-in-None-clause-none c page tables state says four =
    lowest_is tables.entries.items c.args.live.now.selected state.volatile.channels (c.first_closed.ensures.four ∙ sym four)
    (λ number low. says.selected number (subst (λ (n : ℕ). number < n) four low))
    ∙ sym c.first_closed.ensures.lowest ∙ c.in-None.is
