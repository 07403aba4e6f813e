-- For the code inside. Whose faults a run ends with.
use Rattle.flash_core.specs.declared.flash.Flash.{Ghosts as Flash}
use Rattle.io_edge.specs.declared.sink.Sink.{Ghosts as Sink}
use Rattle.io_edge.specs.declared.source.Source.{Ghosts as Source}
use Rattle.gp_tool.specs.Around.{Around, around}
use Rattle.gp_tool.specs.Ends.{EndCause}
use Rattle.line_runs.specs.declared.exit.Ending.{Ending}

abbrev pub RunCause : {S K F : Type 0} → Source S → Sink K → Flash F → Ending → Around S K F → Around S K F → Type 0
RunCause source sink device ending old new =
    EndCause ending (around (source.state old.source).faults (sink.state old.sink).faults (device.faults old.flash))
    (around (source.state new.source).faults (sink.state new.sink).faults (device.faults new.flash))
