use Rattle.std.proofs.Common.{inl, inr, sym, ◌∙◌}
use Rattle.content_rules.proofs.DeleteObjectSlots.{selected_searched}
use Rattle.content_rules.proofs.in_use.is_in_use.Goals.{then-is_selected, else-is_selected}
use Rattle.content_rules.proofs.in_use.is_in_use.Goals as goal

pub returns-then-is_loaded_into : goal.returns-then-is_loaded_into
returns-then-is_loaded_into c =
    let live = c.args.live.now in
    let selected = selected_searched live c.args.slot c.is_selected.ensures.four c.is_selected.result c.is_selected.ensures.told in (
      λ so. elim c.if-is_selected.branch [
        | then-is_selected w ↦ inl (selected.0 w.if-is_selected.true)
        | else-is_selected w ↦ inr (inl (w.is_loaded_into.ensures.0 (sym w.value-is ∙ so)))
      ],
      λ used. c.if-is_loaded_into.true,
    )
