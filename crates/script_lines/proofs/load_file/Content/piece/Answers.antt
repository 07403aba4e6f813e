use Rattle.std.proofs.Common.{◌≡◌, ℕ, List, ap, drop, replicate, sym, take, ◌∙◌}
use Rattle.script_lines.specs.Load.{content_bytes}
use Rattle.script_lines.proofs.Pieces.{same_bytes}
use Rattle.script_lines.proofs.load_file.Content.piece.Goals as goal

pub returns-in-Filled : goal.returns-in-Filled
returns-in-Filled c =
    let count : ℕ = c.in-Filled.fill.count in
    let byte : ℕ = c.in-Filled.fill.byte in
    let copied : c.try_extend_from_slice-in-Filled.new.self.items ≡ take c.min.result (replicate {A = ℕ} 247 byte) =
    rw (c.unwrap-in-Filled.ensures, c.new-piece.ensures) at c.try_extend_from_slice-in-Filled.ensures.ok in
    let all : content_bytes c.args.self.now ≡ replicate count byte = ap content_bytes c.in-Filled.is in
    copied ∙ same_bytes count c.args.from c.args.size byte c.min.result (rw (c.saturating_sub-left.ensures, c.from.ensures) at c.min.ensures) c.requires
    ∙ sym (ap (λ (s : List ℕ). take c.args.size (drop c.args.from s)) all)
