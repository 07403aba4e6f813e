use Rattle.std.proofs.Common.{◌≡◌, ◌*◌, ◌-◌, true, drop}
use Rattle.script_tool.specs.Kept.{printed_of}
use Rattle.script_lines.specs.Load.{block_element, content_bytes}
use Rattle.script_tool.specs.Loading.{loading_all}
use Rattle.script_tool.specs.Played.{ContinuesWith}
use Rattle.script_tool.specs.Talk.{Talk}
use Rattle.script_tool.proofs.Blocks.{AtBlock}
use Rattle.script_tool.proofs.loading.send_blocks.Given as goal

-- the talk is at the next block, after those that were sent
abbrev pub invariant-loop-number : goal.invariant-loop-number
invariant-loop-number g l = record {
  up : g.L.CardLink.up l.link ≡ true;
  faults : g.L.CardLink.faults l.link ≡ g.L.CardLink.faults l.fn.link;
  at : (before : g.row.L.Denot) (talk : Talk)
      → ContinuesWith g.L.CardLink before l.fn.link talk (loading_all l.size l.file) l.fn.host (printed_of l.fn.installed)
      → AtBlock g.L.CardLink before l.link talk l.size (l.count - l.number) l.number (drop (l.number * l.size) (block_element (content_bytes l.file.content)))
      l.host (printed_of l.last);
}
