use Rattle.std.proofs.Common.{arith}
use Rattle.card_types.proofs.PrivilegeFacts.{length-ArePrivilegeBytes}
use Rattle.card_types.proofs.privileges.Privileges.from_bytes.Goals as goal

pub returns-in_default-2-clause-none : goal.returns-in_default-2-clause-none
returns-in_default-2-clause-none c =
    λ privileges spelled. omega (arith, length-ArePrivilegeBytes privileges c.args.bytes.now spelled)

pub returns-in_default-3-clause-none : goal.returns-in_default-3-clause-none
returns-in_default-3-clause-none c =
    λ privileges spelled. omega (arith, length-ArePrivilegeBytes privileges c.args.bytes.now spelled)

pub returns-in_default-2-clause-back : goal.returns-in_default-2-clause-back
returns-in_default-2-clause-back c =
    λ privileges spelled. absurd (omega (arith, length-ArePrivilegeBytes privileges c.args.bytes.now spelled))

pub returns-in_default-3-clause-back : goal.returns-in_default-3-clause-back
returns-in_default-3-clause-back c =
    λ privileges spelled. absurd (omega (arith, length-ArePrivilegeBytes privileges c.args.bytes.now spelled))
