use Rattle.std.proofs.Common.{rules, ◌≡◌, ℕ, ◌<◌, [], true, false, None, refl, sym, subst, inl, inr}
use Rattle.std.specs.Prelude.{is_none, slice_index_or}
use Rattle.policy_machine.proofs.Judging.{does_so}
use Rattle.policy_machine.proofs.ManageChannelLaws.{close_passes}
use Rattle.card_core.specs.Prelude.{kept_of, manage_channel, without_channel}
use Rattle.card_core.proofs.ChannelChanges.{begun_shows, none_selected, some_selected}
use Rattle.card_core.proofs.manage_channel.close_channel.Goals as goal

pub returns-then-is_none-clause-done : goal.returns-then-is_none-clause-done
returns-then-is_none-clause-done c tables page admitted whole shows sound request =
    (let means = request.means in
    let test : is_none (slice_index_or c.args.channels.now.live.selected c.args.number None) ≡ true = search rules in
    let none = none_selected tables.entries.items _ _ (shows.says.selected c.args.number c.requires.high) test in (
      record { state = admitted.at; body = []; status = 0x6200 },
      shows,
      close_passes admitted request.form means.0,
      does_so manage_channel (λ holds here. inl here) admitted request.form _ (inr (means.0, rw (means.1, none) refl)),
      refl,
      refl,
    ))

pub returns-clause-done : goal.returns-clause-done
returns-clause-done c tables page admitted whole shows sound request =
    (let means = request.means in
    let test : is_none (slice_index_or c.args.channels.now.live.selected c.args.number None) ≡ false = search rules in
    let some = some_selected tables.entries.items _ _ (shows.says.selected c.args.number c.requires.high) test in (
      record {
        state = record { registry = admitted.at.registry; volatile = without_channel admitted.at.volatile c.args.number };
        body = [];
        status = 0x9000;
      },
      rw c.set_channel.ensures.set (begun_shows page (kept_of tables c.args.channels.now) admitted.at shows sound.fits.channels
          c.args.number c.requires.high (subst (λ (n : ℕ). c.args.number < n) (sym c.set_channel.ensures.four) c.requires.high) None None tt refl refl),
      close_passes admitted request.form means.0,
      does_so manage_channel (λ holds here. inl here) admitted request.form _ (inr (means.0, rw (means.1, some.1) refl)),
      refl,
      refl,
    ))
