use Rattle.std.proofs.Common.{refl, length, ◌-◌}
use Rattle.cap_pack.specs.Held.{component_of}
use Rattle.cap_pack.proofs.OutlineRules.{walk_on}
use Rattle.cap_pack.proofs.outline.Outline.of.Goals as goal

pub loop-component-preserved : goal.loop-component-preserved
loop-component-preserved c =
    walk_on c.args.bytes.now c.loop-component.rest.now c.in-Some.next.now (component_of c.in-Some.component) c.loop-component.outline c.meet.new.self
    (length c.args.bytes.now - length c.loop-component.rest.now) c.loop-component.invariant refl c.in-Some.ensures.component c.in-Some.ensures.spelled c.meet.ensures
