use Rattle.std.proofs.Common.{arith}
use Rattle.std.proofs.lemmas.Grind.{common_steps}
use Rattle.bertlv.proofs.ReadLemmas.{joined_front}
use Rattle.bertlv.proofs.reader.element_at_front.Goals as goal

pub returns-clause-found : goal.returns-clause-found
returns-clause-found c =
    joined_front c.in_ok-tag.tag _ c.args.bytes.now c.in_ok-tag.after_tag.now _
    c.split_at.result.0.now c.split_at.result.1.now
    c.in_ok-tag.ensures.ok c.in-Ok.ensures.ok (omega (arith, c.split_at.ensures.front_len))
    (grind (arith, common_steps, c.split_at.ensures.front, c.split_at.ensures.back))
