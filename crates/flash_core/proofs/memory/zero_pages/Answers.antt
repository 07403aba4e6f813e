use Rattle.std.proofs.lemmas.Result.{IfOk-weaker}
use Rattle.flash_core.proofs.memory.zero_pages.Goals as goal

pub returns : goal.returns
returns c = IfOk-weaker c.from_elem.result _ _ (λ pages items. items (λ y same. same)) c.from_elem.ensures.items_if_clones_equal
