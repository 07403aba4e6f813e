use Rattle.std.proofs.Common.{arith, sym, ◌∙◌, ◌≡◌, ◌<◌, ◌-◌, length, Some}
use Rattle.std.specs.Prelude.{slice_get}
use Rattle.cap_pack.proofs.PackRules.{applet_line, applet_there, block_line, pack_length}
use Rattle.cap_pack.proofs.cap.Cap.line.Goals as goal

pub unwrap-applet-requires : goal.unwrap-applet-requires
unwrap-applet-requires c =
    let self = c.args.self.now in
    let aids = c.requires.0 in
    applet_there self.package self.bytes.now aids c.args.index c.count-count.result c.applet.result c.requires.2 c.count-count.ensures.count (omega arith)
    (c.applet.ensures.named aids c.requires.1.lists)

pub returns-then-index-count-clause-line : goal.returns-then-index-count-clause-line
returns-then-index-count-clause-line c aids is =
    let self = c.args.self.now in
    block_line self.package self.bytes.now aids c.args.index c.count-count.result (c.args.index - 1) c.write_block.new.out.items (omega arith) c.count-count.ensures.count (omega arith)
    c.write_block.ensures.line

pub returns-else-index-count-clause-line : goal.returns-else-index-count-clause-line
returns-else-index-count-clause-line c aids is =
    let self = c.args.self.now in
    let less : c.args.index - 1 - c.count-count.result < length aids =
    omega (arith, c.requires.2, c.count-count.ensures.count, pack_length self.package self.bytes.now c.requires.0, c.requires.1.count, is.count) in
    let there : Some c.unwrap-applet.result ≡ slice_get aids (c.args.index - 1 - c.count-count.result) =
    sym c.unwrap-applet.ensures ∙ c.applet.ensures.named aids is.lists less in
    applet_line self.package self.bytes.now aids c.args.index c.count-count.result c.unwrap-applet.result c.write_applet.new.out.items (omega arith) c.count-count.ensures.count there
    c.write_applet.ensures.line
