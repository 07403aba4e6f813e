use Rattle.bertlv.specs.declared.element.TlvError.TheVariants.{Short, Length}
use Rattle.bertlv.proofs.ReadLemmas.{tag_of_reading, exact_refusal, only_reading}
use Rattle.bertlv.proofs.reader.read.Goals as goal

pub returns-clause-is_tag : goal.returns-clause-is_tag
returns-clause-is_tag c =
    tag_of_reading (λ r. r.0.tag) (λ r. r.0.value.now) (λ r. r.1.now) c.args.bytes.now
    c.element_at_front.result c.element_at_front.ensures.found

pub returns-clause-only : goal.returns-clause-only
returns-clause-only c =
    only_reading (λ r. r.0.tag) (λ r. r.0.value.now) (λ r. r.1.now) c.args.bytes.now
    c.element_at_front.result c.element_at_front.ensures.found c.element_at_front.ensures.refused

pub returns-clause-short : goal.returns-clause-short
returns-clause-short c = λ n.
    exact_refusal (λ r. r.0.tag) (λ r. r.0.value.now) (λ r. r.1.now) c.args.bytes.now
    c.element_at_front.result c.element_at_front.ensures.found c.element_at_front.ensures.refused (Short n)

pub returns-clause-length : goal.returns-clause-length
returns-clause-length c = λ n.
    exact_refusal (λ r. r.0.tag) (λ r. r.0.value.now) (λ r. r.1.now) c.args.bytes.now
    c.element_at_front.result c.element_at_front.ensures.found c.element_at_front.ensures.refused (Length n)
