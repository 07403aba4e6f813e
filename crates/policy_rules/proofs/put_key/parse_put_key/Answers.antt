use Rattle.std.proofs.Common.{rules, refl}
use Rattle.policy_rules.specs.Prelude.{HasKeyFields, PutKeyParameters, sent_keys}
use Rattle.policy_rules.proofs.put_key.parse_put_key.Goals as goal

pub returns-in-Some : goal.returns-in-Some
returns-in-Some c =
    let has : HasKeyFields c.args.p2 c.args.body.now c.in-Some.version (sent_keys c.in-Some.keys) = search rules in
    let takes : PutKeyParameters c.args.p1 c.args.p2 = search rules in
    ((refl, takes, (record { version = c.in-Some.version; sent = sent_keys c.in-Some.keys }, has)), (refl, has))
