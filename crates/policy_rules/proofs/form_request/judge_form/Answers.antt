use Rattle.std.proofs.Common.{arith}
use Rattle.policy_rules.specs.Prelude.{JudgedFirst}
use Rattle.policy_machine.proofs.Judging.{by_err}
use Rattle.policy_rules.proofs.form_request.judge_form.Goals as goal

pub judge_request-requires-clause-short : goal.judge_request-requires-clause-short
judge_request-requires-clause-short g c =
    let meant = c.requires.meant in
    omega (arith, g.met.M.FormRequest.fits c.args.request.now meant.0 meant.1 meant.2 meant.3, meant.4)

pub returns : goal.returns
returns g c = record {
  judged = λ page admitted acts says channels request.
      (let met = g.met.M.FormRequest in
      let told = met.shown page c.args.tables.now c.args.live.now admitted says channels in
      let read = met.read c.args.request.now admitted.command request in
      rw c.err.ensures.value (met.judges c.args.request.now admitted request _
      (by_err (JudgedFirst g.M.JudgedRequest.form admitted) c.judge_request.result
      (c.judge_request.ensures.passed page admitted acts told read) (c.judge_request.ensures.refused page admitted acts told read))));
}
