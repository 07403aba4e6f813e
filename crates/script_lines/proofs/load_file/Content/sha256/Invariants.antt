use Rattle.std.proofs.Common.{take, ◌*◌}
use Rattle.sha2.specs.Hashers.{Holds256}
use Rattle.script_lines.specs.Load.{content_bytes}
use Rattle.script_lines.proofs.load_file.Content.sha256.Given as goal

-- the hasher holds the pieces so far
abbrev pub invariant-loop-index : goal.invariant-loop-index
invariant-loop-index l = Holds256 l.hasher (take (247 * l.index) (content_bytes l.self))
