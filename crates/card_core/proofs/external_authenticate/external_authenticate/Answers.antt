use Rattle.std.proofs.Common.{rules, ◌≡◌, refl, ◌∙◌}
use Rattle.card_core.proofs.Offered.{offer_here}
use Rattle.policy_machine.proofs.ExternalAuthenticateLaws.{answer_passes, wrong_cryptogram, wrong_mac}
use Rattle.card_core.proofs.external_authenticate.external_authenticate.Goals as goal

pub returns-in-Ok : goal.returns-in-Ok
returns-in-Ok c = λ admitted request holds.
    let found = offer_here c.args.held.now c.in-Offered.offer (search rules) admitted holds in
    let same : c.copy_from_slice.new.self ≡ admitted.command.body = c.copy_from_slice.ensures.after ∙ request.means.1 in (
      found.0,
      c.args.level,
      (found.1, request.means.0),
      answer_passes admitted c.args.level c.copy_from_slice.new.self request.form request.means.0 same found.0 found.1
          (c.in-Ok.ensures.cryptogram_right found.0 found.2) (c.in-Ok.ensures.mac_right found.0 found.2),
      c.in-Ok.ensures.ok found.0 found.2,
      refl,
    )

pub returns-in-Err-Cryptogram : goal.returns-in-Err-Cryptogram
returns-in-Err-Cryptogram c = λ admitted request holds.
    let found = offer_here c.args.held.now c.in-Offered.offer (search rules) admitted holds in
    let same : c.copy_from_slice.new.self ≡ admitted.command.body = c.copy_from_slice.ensures.after ∙ request.means.1 in (
      wrong_cryptogram admitted c.args.level c.copy_from_slice.new.self request.form request.means.0 same found.0 found.1
          (c.in-Err-Cryptogram.ensures.cryptogram found.0 found.2 (search rules)),
      search rules,
    )

pub returns-in-Err-Mac : goal.returns-in-Err-Mac
returns-in-Err-Mac c = λ admitted request holds.
    let found = offer_here c.args.held.now c.in-Offered.offer (search rules) admitted holds in
    let same : c.copy_from_slice.new.self ≡ admitted.command.body = c.copy_from_slice.ensures.after ∙ request.means.1 in (
      wrong_mac admitted c.args.level c.copy_from_slice.new.self request.form request.means.0 same found.0 found.1
          (c.in-Err-Mac.ensures.mac_alone found.0 found.2 (search rules)) (c.in-Err-Mac.ensures.mac found.0 found.2 (search rules)),
      search rules,
    )
