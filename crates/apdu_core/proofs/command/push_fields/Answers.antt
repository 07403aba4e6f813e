use Rattle.std.proofs.Common.{◌≡◌, ◌<◌, arith}
use Rattle.std.proofs.lemmas.List.Elements.{All-from_get_or}
use Rattle.apdu_core.proofs.Octets.{All-after_header}
use Rattle.apdu_core.proofs.command.push_fields.Goals as goal

pub returns-in-Some-clause-octets : goal.returns-in-Some-clause-octets
returns-in-Some-clause-octets c =
    All-after_header c.args.body.now c.args.le
    (All-from_get_or (λ b. b < 256) c.args.body.now 0 (λ i _. omega (arith, c.type_inv.body i)))
    c.requires.short (λ x is. let same : x ≡ c.in-Some.le = cc in omega arith)

pub returns-in_default-clause-octets : goal.returns-in_default-clause-octets
returns-in_default-clause-octets c =
    All-after_header c.args.body.now c.args.le
    (All-from_get_or (λ b. b < 256) c.args.body.now 0 (λ i _. omega (arith, c.type_inv.body i)))
    c.requires.short (λ x is. absurd (c.in_default.not-Some x is))
