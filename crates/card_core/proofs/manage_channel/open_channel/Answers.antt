use Rattle.std.proofs.Common.{rules, ◌≡◌, ℕ, ◌<◌, [], ◌∷◌, Some, length, refl, sym, subst, inl, ◌∙◌}
use Rattle.policy_machine.specs.declared.rule.Rule.TheVariants.{MC}
use Rattle.policy_machine.proofs.Judging.{does_so}
use Rattle.policy_machine.proofs.ManageChannelLaws.{open_passes, open_refused}
use Rattle.card_types.specs.declared.factory.TheConstants.{ISSUER}
use Rattle.card_core.specs.Prelude.{fresh, kept_live, manage_channel, with_channel}
use Rattle.policy_machine.specs.declared.channels.TheConstants.{CHANNELS}
use Rattle.card_core.proofs.Carrying.{refusal_shows}
use Rattle.card_core.proofs.ChannelChanges.{opened_shows}
use Rattle.card_core.proofs.manage_channel.open_channel.Goals as goal

pub returns-in-Ok-clause-done : goal.returns-in-Ok-clause-done
returns-in-Ok-clause-done c card layout page admitted whole shows sound low request =
    let means = request.means in
    let found = c.in-Ok.ensures.found page card.tables admitted.at shows.says sound.fits.channels in
    let four : length c.args.live.now.selected ≡ CHANNELS = search rules in (
      record {
        state = record { registry = admitted.at.registry; volatile = with_channel admitted.at.volatile c.in-Ok.number (Some (fresh ISSUER)) };
        body = c.in-Ok.number ∷ [];
        status = 0x9000;
      },
      rw c.from.ensures (opened_shows page (kept_live card c.args.live.now) admitted.at shows sound.fits.channels
          c.in-Ok.number c.in-Ok.ensures.below (subst (λ (n : ℕ). c.in-Ok.number < n) (sym four) c.in-Ok.ensures.below) layout found),
      open_passes admitted request.form c.in-Ok.number found,
      does_so manage_channel (λ holds here. inl here) admitted request.form _ (inl (means, rw found refl)),
      c.push.ensures.items ∙ rw c.requires.empty refl,
      refl,
    )

pub returns-in-Err-clause-done : goal.returns-in-Err-clause-done
returns-in-Err-clause-done c card layout page admitted whole shows sound low request =
    let means = request.means in
    let none = c.in-Err.ensures.none page card.tables admitted.at shows.says sound.fits.channels in (
      refusal_shows page (kept_live card c.args.live.now) admitted shows sound low (MC c.in-Err.rule),
      open_refused admitted request.form c.in-Err.rule means none,
      c.requires.empty,
    )
