use Rattle.cap_pack.specs.Held.{component_of}
use Rattle.cap_pack.proofs.Headers.{header_first}
use Rattle.cap_pack.proofs.header.package.Goals as goal

pub returns-in-Some : goal.returns-in-Some
returns-in-Some c components are =
    header_first components (component_of c.in-Some.first) c.in-Some.field-0-1.now c.args.bytes.now c.package_in.result are c.in-Some.ensures.component c.in-Some.ensures.spelled
    c.if-first-eq-HEADER.true c.package_in.ensures
