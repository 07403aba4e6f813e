use Rattle.std.proofs.Common.{ap, length, ◌∙◌, arith}
use Rattle.host_tool.proofs.Pieces.{digits_long}
use Rattle.host_tool.proofs.command_line.last_line.Goals as goal

pub push-requires : goal.push-requires
push-requires c =
    let long = ap length c.digits-line.ensures ∙ digits_long c.args.piece.now in
    omega (arith, long, c.requires)
