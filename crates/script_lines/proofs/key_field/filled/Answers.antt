use Rattle.std.proofs.Common.{◌≡◌, ◌-◌, ◌++◌, ◌∙◌, ap, arith, length, replicate, take, ℕ, ◌*◌}
use Rattle.std.proofs.lemmas.List.{take-replicate}
use Rattle.policy_machine.specs.PutKey.{sealed_size}
use Rattle.script_lines.proofs.key_field.filled.Goals as goal

pub returns : goal.returns
returns c =
    let size : ℕ = length c.args.key.now in
    let front : c.try_extend_from_slice.new.self.items ≡ c.args.key.now = rw (c.unwrap.ensures, c.new-blocks.ensures) at c.try_extend_from_slice.ensures.ok in
    let whole : c.try_extend_from_slice-2.new.self.items ≡ c.try_extend_from_slice.new.self.items ++ take (c.div_ceil.result * 16 - size) (replicate {A = ℕ} 16 0) =
    rw c.unwrap-2.ensures at c.try_extend_from_slice-2.ensures.ok in
    let fill : c.div_ceil.result * 16 - size ≡ sealed_size size - size = omega (arith, c.div_ceil.ensures) in
    let zeros : take (c.div_ceil.result * 16 - size) (replicate {A = ℕ} 16 0) ≡ replicate (sealed_size size - size) 0 =
    take-replicate {X = ℕ} (c.div_ceil.result * 16 - size) 16 0 (omega (arith, c.div_ceil.ensures)) ∙ ap (λ (n : ℕ). replicate {A = ℕ} n 0) fill in
    whole ∙ (λ i. front i ++ zeros i)
