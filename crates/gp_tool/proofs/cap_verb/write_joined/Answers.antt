use Rattle.std.proofs.Common.{refl, true, false}
use Rattle.std.specs.List.{flat_map}
use Rattle.cap_pack.specs.Held.{pack_of}
use Rattle.gp_tool.specs.Cap.{pack_line}
use Rattle.gp_tool.proofs.CapEnding.{packed}
use Rattle.gp_tool.proofs.cap_verb.write_joined.Goals as goal

pub returns-in-Ok-write_commands-clause-written : goal.returns-in-Ok-write_commands-clause-written
returns-in-Ok-write_commands-clause-written g c all is =
    let read = c.in-Ok.ensures in
    let aids = read.cap.0 in (
      flat_map pack_line (pack_of c.in-Ok.cap aids),
      packed c.in-Ok.cap aids all (read.same all is) read.cap.1,
      λ told. c.in-Ok-write_commands.ensures.ok told aids read.cap.1,
    )

pub returns-in-Err-write_commands-clause-written : goal.returns-in-Err-write_commands-clause-written
returns-in-Err-write_commands-clause-written g c all is =
    let read = c.in-Ok.ensures in
    let aids = read.cap.0 in (
      false,
      flat_map pack_line (pack_of c.in-Ok.cap aids),
      packed c.in-Ok.cap aids all (read.same all is) read.cap.1,
      λ told. c.in-Err-write_commands.ensures.err told aids read.cap.1,
    )

pub returns-in-Err-write_stop-clause-written : goal.returns-in-Err-write_stop-clause-written
returns-in-Err-write_stop-clause-written g c all is = (
  true,
  _,
  (c.in-Err.stop, (c.in-Err.ensures.stop all c.in-Err.stop is).0 refl, refl),
  c.in-Err-write_stop.ensures.err,
)
