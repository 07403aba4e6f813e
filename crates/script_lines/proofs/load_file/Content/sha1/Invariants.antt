use Rattle.std.proofs.Common.{take, ◌*◌}
use Rattle.sha1.specs.Sha1.{Holds}
use Rattle.script_lines.specs.Load.{content_bytes}
use Rattle.script_lines.proofs.load_file.Content.sha1.Given as goal

-- the hasher holds the pieces so far
abbrev pub invariant-loop-index : goal.invariant-loop-index
invariant-loop-index l = Holds l.hasher (take (247 * l.index) (content_bytes l.self))
