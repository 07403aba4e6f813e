use Rattle.std.proofs.Common.{◌≡◌, ℕ, List, ◌-◌, ◌*◌, ◌++◌, ap, drop, length, take, ◌∙◌}
use Rattle.script_lines.proofs.Pieces.{two_parts}
use Rattle.cap_pack.specs.Pack.{block_size}
use Rattle.cap_pack.proofs.blocks.block.Goals as goal

pub returns-clause-block : goal.returns-clause-block
returns-clause-block c =
    let h : List ℕ = c.tag_and_length-header.result.items in
    let b : List ℕ = c.args.bytes.now in
    let sent : ℕ = c.args.number * block_size in
    let front : c.part-front.result.now ≡ take block_size (drop sent h) = rw c.deref.ensures.0 at c.part-front.ensures in
    let back : c.part-back.result.now ≡ take (block_size - length c.part-front.result.now) (drop (sent - length h) b) =
    rw (c.saturating_sub.ensures, c.len.ensures.value) at c.part-back.ensures in
    let first : c.try_extend_from_slice.new.self.items ≡ c.part-front.result.now = rw (c.unwrap.ensures, c.new-block.ensures) at c.try_extend_from_slice.ensures.ok in
    let both : c.try_extend_from_slice-2.new.self.items ≡ c.try_extend_from_slice.new.self.items ++ c.part-back.result.now =
    rw c.unwrap-2.ensures at c.try_extend_from_slice-2.ensures.ok in
    both ∙ ap (λ (s : List ℕ). s ++ c.part-back.result.now) first
    ∙ two_parts h b c.part-front.result.now c.part-back.result.now sent block_size front back
    ∙ ap (λ (s : List ℕ). take block_size (drop sent (s ++ b))) c.tag_and_length-header.ensures
