use Rattle.std.proofs.Common.{◌≡◌, ℕ, List, ◌-◌, ◌++◌, ap, drop, length, take, ◌∙◌}
use Rattle.script_lines.specs.Load.{content_bytes}
use Rattle.script_lines.proofs.Pieces.{two_parts}
use Rattle.script_lines.proofs.load_file.LoadFile.block.Goals as goal

pub returns : goal.returns
returns c =
    let h : List ℕ = c.header-header.result.items in
    let b : List ℕ = content_bytes c.args.self.now.content in
    let front : c.part-front.result.now ≡ take c.args.size (drop c.args.sent h) = rw c.deref.ensures.0 at c.part-front.ensures in
    let back : c.piece-back.result.items ≡ take (c.args.size - length c.part-front.result.now) (drop (c.args.sent - length h) b) =
    rw (c.saturating_sub-from.ensures, c.len.ensures.value) at c.piece-back.ensures in
    let first : c.try_extend_from_slice.new.self.items ≡ c.part-front.result.now = rw (c.unwrap.ensures, c.new-block.ensures) at c.try_extend_from_slice.ensures.ok in
    let both : c.try_extend_from_slice-2.new.self.items ≡ c.try_extend_from_slice.new.self.items ++ c.piece-back.result.items =
    rw (c.unwrap-2.ensures, c.deref-2.ensures.0) at c.try_extend_from_slice-2.ensures.ok in
    both ∙ ap (λ (s : List ℕ). s ++ c.piece-back.result.items) first
    ∙ two_parts h b c.part-front.result.now c.piece-back.result.items c.args.sent c.args.size front back
    ∙ ap (λ (s : List ℕ). take c.args.size (drop c.args.sent (s ++ b))) c.header-header.ensures
