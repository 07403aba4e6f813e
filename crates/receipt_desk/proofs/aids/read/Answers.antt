use Rattle.receipt_desk.specs.declared.aids.Aids.TheVariants.{One, Two, Three}
use Rattle.receipt_desk.proofs.aids.read.Goals as goal

pub returns : goal.returns
returns c (One a) h = c.in_default.ensures a h
returns c (Two a b) h = c.in_default-two.ensures (a, b) h
returns c (Three a b d) h = c.in_default-three.ensures (a, b, d) h
