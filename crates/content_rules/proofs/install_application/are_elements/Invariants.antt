use Rattle.std.proofs.Common.{◌↔◌, List, length}
use Rattle.bertlv.specs.Spelling.{AreElements, Element}
use Rattle.content_rules.proofs.install_application.are_elements.Given as goal

abbrev pub invariant-loop-rest : goal.invariant-loop-rest
invariant-loop-rest l = ((elements : List Element) × AreElements elements l.rest) ↔ ((elements : List Element) × AreElements elements l.bytes)

abbrev pub decreases-loop-rest : goal.decreases-loop-rest
decreases-loop-rest l = length l.rest
