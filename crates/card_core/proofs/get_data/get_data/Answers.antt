use Rattle.std.proofs.Common.{ℕ, ◌<◌, inl, refl, sym, ap, subst, ◌∙◌}
use Rattle.card_core.specs.Prelude.{Spelling, get_data, kept_of, selected_on}
use Rattle.policy_machine.specs.declared.rule.Rule.TheVariants.{GD}
use Rattle.policy_machine.proofs.GetDataLaws.{get_passes, get_refused}
use Rattle.policy_machine.proofs.Judging.{does_so}
use Rattle.policy_machine.specs.declared.channels.TheConstants.{CHANNELS}
use Rattle.policy_rules.proofs.DataAsked.{asked_for, asks}
use Rattle.policy_slots.proofs.Selected.{selected_entry}
use Rattle.card_core.proofs.Carrying.{refusal_shows}
use Rattle.card_core.proofs.get_data.get_data.Goals as goal

pub returns-in-Ok-clause-done : goal.returns-in-Ok-clause-done
returns-in-Ok-clause-done c page admitted whole shows sound here request =
    let says = shows.says in
    let means = request.means in
    let on = selected_entry page c.args.tables.now c.args.channels.now.live admitted.at c.args.channel c.args.domain says c.requires.channel c.requires.selected in
    let found = c.in-Ok.ensures.found page admitted.at.registry on.0 says.registry sound.well on.1 in
    let written = c.write_datum.ensures.written c.args.domain page admitted.at.registry on.0 says.registry sound.well on.1 found in
    let asked = asks admitted _ c.args.tag written.0 (ap (selected_on admitted.at.volatile) (sym here) ∙ on.2) means written.1 in (
      record { state = admitted.at; body = c.write_datum.new.reply.items; status = 0x9000 },
      shows,
      get_passes admitted request.form written.0 asked,
      does_so get_data (λ holds here. inl here) admitted request.form _ (record {
        value = written.0;
        asked = asked;
        state = refl;
        body = subst (λ (tag : ℕ). Spelling tag written.0 c.write_datum.new.reply.items) means written.2;
        status = refl;
      }),
      refl,
      refl,
    )

pub returns-in-Err-clause-done : goal.returns-in-Err-clause-done
returns-in-Err-clause-done c page admitted whole shows sound here request =
    let says = shows.says in
    let means = request.means in
    let on = selected_entry page c.args.tables.now c.args.channels.now.live admitted.at c.args.channel c.args.domain says c.requires.channel c.requires.selected in
    let none = c.in-Err.ensures.none page admitted.at.registry on.0 says.registry sound.well on.1 in (
      refusal_shows page (kept_of c.args.tables.now c.args.channels.now) admitted shows sound (subst (λ (n : ℕ). n < CHANNELS) here c.requires.channel) (GD c.in-Err.rule),
      get_refused admitted request.form c.in-Err.rule
          (λ value asked. none value (asked_for admitted _ c.args.tag value (ap (selected_on admitted.at.volatile) (sym here) ∙ on.2) means asked)),
      c.requires.empty,
    )
