use Rattle.std.proofs.Common.{arith}
use Rattle.cap_pack.proofs.PackRules.{pack_length}
use Rattle.cap_pack.proofs.cap.Cap.lines.Goals as goal

pub returns : goal.returns
returns c aids is =
    let self = c.args.self.now in
    omega (arith, pack_length self.package self.bytes.now aids, c.count.ensures.count, c.from.ensures, is.count)
