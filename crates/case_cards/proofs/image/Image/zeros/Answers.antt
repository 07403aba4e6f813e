use Rattle.std.proofs.Common.{◌*◌, ap, replicate, ◌∙◌}
use Rattle.case_cards.proofs.image.Image.zeros.Goals as goal

pub returns : goal.returns
returns c = c.in_ok-from_elem.ensures.items_if_clones_equal (λ y same. same) ∙ ap (λ n. replicate (n * 256) 0) c.from.ensures
