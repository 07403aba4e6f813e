use Rattle.std.proofs.Common.{◌<◌, ℕ, List, Some, refl, sym, ap, inl, subst, ◌∙◌}
use Rattle.policy_machine.specs.declared.rule.Rule.TheVariants.{SE}
use Rattle.policy_machine.proofs.Judging.{does_so}
use Rattle.policy_machine.proofs.SelectLaws.{select_passes, select_refused}
use Rattle.card_core.specs.Prelude.{IsControlInformation, fresh, kept_of, select, selected_status, with_selected}
use Rattle.policy_machine.specs.declared.channels.TheConstants.{CHANNELS}
use Rattle.card_core.proofs.Carrying.{refusal_shows}
use Rattle.card_core.proofs.ChannelChanges.{begun_shows}
use Rattle.card_core.proofs.select.select.Goals as goal

pub returns-in-Ok-clause-done : goal.returns-in-Ok-clause-done
returns-in-Ok-clause-done c page admitted whole shows sound here request =
    let means = request.means in
    let says = shows.says in
    let found = c.in-Ok.ensures.found page admitted.at.registry says.registry in
    let passes = select_passes admitted c.args.partial.now request.form means _ found in
    let low : admitted.channel < CHANNELS = subst (λ (n : ℕ). n < CHANNELS) here c.requires.channel in
    let entry = c.in-Ok.found.thing.now in (
      record {
        state = record { registry = admitted.at.registry; volatile = with_selected admitted.at.volatile admitted.channel entry.aid };
        body = c.write_control_information.new.reply.items;
        status = c.selected_status.result.0;
      },
      rw (c.set_channel.ensures.set, here) (begun_shows page (kept_of c.args.tables.now c.args.channels.now) admitted.at shows sound.fits.channels admitted.channel low
          (subst (λ (n : ℕ). admitted.channel < n) (sym c.set_channel.ensures.four) low) (Some c.in-Ok.found.slot) (Some (fresh entry.aid)) (entry, c.in-Ok.ensures.at, refl) refl refl),
      passes.0,
      does_so select (λ holds here. inl here) admitted request.form _ (rw passes.1 (record {
        registry = refl;
        volatile = refl;
        body = subst (λ (aid : List ℕ). IsControlInformation aid c.write_control_information.new.reply.items) c.as_bytes.ensures.bytes c.write_control_information.ensures.written;
        status = c.selected_status.ensures ∙ ap selected_status says.registry.life;
      })),
      refl,
      refl,
    )

pub returns-in-Err-clause-done : goal.returns-in-Err-clause-done
returns-in-Err-clause-done c page admitted whole shows sound here request =
    let means = request.means in
    let says = shows.says in
    let none = c.in-Err.ensures.none page admitted.at.registry says.registry in (
      refusal_shows page (kept_of c.args.tables.now c.args.channels.now) admitted shows sound (subst (λ (n : ℕ). n < CHANNELS) here c.requires.channel) (SE c.in-Err.rule),
      select_refused admitted c.args.partial.now request.form means c.in-Err.rule none,
      c.requires.empty,
    )
