use Rattle.std.proofs.Common.{rules, ◌≡◌, None, Option, Some, subst, sym, ◌∙◌}
use Rattle.std.specs.Prelude.{slice_index_or}
use Rattle.policy_machine.proofs.Judging.{by_err}
use Rattle.content_rules.specs.Prelude.{IsFirst, IsForLast, IsLoadNamed, LoadFails, last_rules}
use Rattle.content_rules.proofs.LoadNamed.{named_is}
use Rattle.policy_slots.proofs.Selected.{selected_acts}
use Rattle.policy_slots.specs.declared.live.LoadName.{LoadName}
use Rattle.content_rules.proofs.load.judge_loaded.Goals as goal

pub returns-clause-judged : goal.returns-clause-judged
returns-clause-judged c page passed load says sound here on last =
    let tables = c.args.tables.now in
    let live = c.args.live.now in
    let slot = c.unwrap-domain.result in
    let at : slice_index_or live.selected c.args.channel None ≡ Some slot = search rules in
    let acts = selected_acts page tables live passed c.args.channel slot says sound c.requires.channel at here in
    let there = named_is c.args.channel live.load c.in-Some.name (sym c.load_on.ensures ∙ c.in-Some.is) in
    let is_for : IsForLast tables c.in-Some.name passed = record {
      load = record {
        named = subst (λ (l : Option LoadName). IsLoadNamed tables.entries.items l passed.at.volatile.load) there.0 says.load;
        on = there.1 ∙ here;
      };
      sound = sound;
      last = last;
    } in
    rw c.err.ensures.value (by_err (λ found. IsFirst (LoadFails passed) last_rules found) c.judge_loaded_by.result
    (c.judge_loaded_by.ensures.passed page passed acts is_for) (c.judge_loaded_by.ensures.refused page passed acts is_for))
