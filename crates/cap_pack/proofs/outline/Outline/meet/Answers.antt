use Rattle.std.proofs.Common.{refl, sym, ◌∙◌, arith}
use Rattle.cap_pack.specs.Held.{component_of}
use Rattle.cap_pack.proofs.OutlineRules.{applets_one, header_one, other_one, repeats_one}
use Rattle.cap_pack.proofs.outline.Outline.meet.Goals as goal

pub returns-then-repeats : goal.returns-then-repeats
returns-then-repeats c before outlines at =
    rw c.or-self.ensures (repeats_one before (component_of c.args.component.now) c.args.self.now c.args.place outlines (sym c.repeats.ensures ∙ c.if-repeats.true) at)

pub returns-in-1 : goal.returns-in-1
returns-in-1 c before outlines at = header_one before (component_of c.args.component.now) c.args.self.now outlines (sym c.repeats.ensures ∙ c.if-repeats.false) c.in-1.is

pub returns-in-3 : goal.returns-in-3
returns-in-3 c before outlines at =
    applets_one before (component_of c.args.component.now) c.args.self.now (record { place = c.args.place; content = c.args.component.now.content }) outlines
    (sym c.repeats.ensures ∙ c.if-repeats.false) c.in-3.is at refl

pub returns-in_default : goal.returns-in_default
returns-in_default c before outlines at = other_one before (component_of c.args.component.now) c.args.self.now outlines (λ is. omega (arith, is)) (λ is. omega (arith, is))
