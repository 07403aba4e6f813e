use Rattle.std.proofs.Common.{◌≡◌, ◌+◌, ◌-◌, ◌*◌, ◌/◌, ◌%◌, min, ℕ, List, Ok, Err, drop, length, refl, subst, ap, ◌∙◌, arith}
use Rattle.apdu_core.specs.Apdu.{apdu_of}
use Rattle.script_tool.specs.Kept.{printed_of}
use Rattle.script_lines.specs.Load.{block_element, content_bytes}
use Rattle.script_tool.proofs.Blocks.{AtBlock, all_sent, broken, first_block, next_block, stopped}
use Rattle.script_tool.proofs.loading.send_blocks.Goals as goal

pub loop-number-init : goal.loop-number-init
loop-number-init g c =
    let bytes : List ℕ = block_element (content_bytes c.args.file.now.content) in
    let count : c.div_ceil-count.result ≡ length bytes / c.args.size + min 1 (length bytes % c.args.size) =
    c.div_ceil-count.ensures ∙ ap (λ (n : ℕ). n / c.args.size + min 1 (n % c.args.size)) c.len.ensures in
    record {
      up = c.requires.up;
      faults = refl;
      at = λ before talk at.
          first_block g.L.CardLink before c.args.link.now talk c.args.size c.div_ceil-count.result bytes c.args.host.now (printed_of c.args.installed) (omega arith) count at;
    }

pub returns-then-not-is_done-clause-played : goal.returns-then-not-is_done-clause-played
returns-then-not-is_done-clause-played g c before talk at =
    stopped g.L.CardLink before c.loop-number.link talk c.args.size (c.div_ceil-count.result - c.loop-number.number) c.loop-number.number
    (drop (c.loop-number.number * c.args.size) (block_element (content_bytes c.args.file.now.content))) c.loop-number.host (printed_of c.loop-number.last)
    (λ done. absurd (cc (c.if-not-is_done.ensures.1 done))) (c.loop-number.invariant.at before talk at)

pub returns-then-not-is_done-clause-up : goal.returns-then-not-is_done-clause-up
returns-then-not-is_done-clause-up g c = c.loop-number.invariant.up

pub returns-then-not-is_done-clause-cause : goal.returns-then-not-is_done-clause-cause
returns-then-not-is_done-clause-cause g c = record { later = omega (arith, c.loop-number.invariant.faults); ok = c.loop-number.invariant.faults; failed = tt }

pub send-requires : goal.send-requires
send-requires g c = record { up = c.loop-number.invariant.up }

pub returns-in_err-last-clause-played : goal.returns-in_err-last-clause-played
returns-in_err-last-clause-played g c before talk at =
    broken g.L.CardLink before c.send.new.link talk c.send.new.host c.from_residual.result c.from_residual.ensures.0
    (next_block g.L.CardLink before c.loop-number.link c.send.new.link talk c.args.size c.div_ceil-count.result c.loop-number.number
    (block_element (content_bytes c.args.file.now.content)) c.loop-number.host c.send.new.host (printed_of c.loop-number.last) (Err c.in_err-last.field-0.0)
    (apdu_of c.load_block-command.result) c.deref.result.now c.loop-number-test.true (c.if-not-is_done.ensures.0 refl) c.load_block-command.ensures
    (c.deref.ensures.0 ∙ c.block-block.ensures) (c.loop-number.invariant.at before talk at) c.in_err-last.ensures.goes_on)

pub loop-number-preserved : goal.loop-number-preserved
loop-number-preserved g c = record {
  up = c.in_ok-last.ensures.up;
  faults = c.in_ok-last.ensures.cause.ok ∙ c.loop-number.invariant.faults;
  at = λ before talk at.
      next_block g.L.CardLink before c.loop-number.link c.send.new.link talk c.args.size c.div_ceil-count.result c.loop-number.number
      (block_element (content_bytes c.args.file.now.content)) c.loop-number.host c.send.new.host (printed_of c.loop-number.last) (Ok c.in_ok-last.last)
      (apdu_of c.load_block-command.result) c.deref.result.now c.loop-number-test.true (c.if-not-is_done.ensures.0 refl) c.load_block-command.ensures
      (c.deref.ensures.0 ∙ c.block-block.ensures) (c.loop-number.invariant.at before talk at) c.in_ok-last.ensures.goes_on;
}

pub returns-clause-played : goal.returns-clause-played
returns-clause-played g c before talk at =
    let bytes : List ℕ = drop (c.loop-number.number * c.args.size) (block_element (content_bytes c.args.file.now.content)) in
    let none : c.div_ceil-count.result - c.loop-number.number ≡ 0 = omega arith in
    all_sent g.L.CardLink before c.loop-number.link talk c.args.size c.loop-number.number bytes c.loop-number.host (printed_of c.loop-number.last)
    (subst
    (λ (n : ℕ). AtBlock g.L.CardLink before c.loop-number.link talk c.args.size n c.loop-number.number bytes c.loop-number.host (printed_of c.loop-number.last))
    none (c.loop-number.invariant.at before talk at))

pub returns-clause-cause : goal.returns-clause-cause
returns-clause-cause g c = record { later = omega (arith, c.loop-number.invariant.faults); ok = c.loop-number.invariant.faults; failed = tt }
