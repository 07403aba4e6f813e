use Rattle.std.proofs.Common.{◌∙◌, sym, get_or, below_more, arith}
use Rattle.page_journal.proofs.Descriptors.{place_found, place_home}
use Rattle.page_journal.proofs.descriptor.place_of.Goals as goal

pub returns-then-from-page-clause-place : goal.returns-then-from-page-clause-place
returns-then-from-page-clause-place c =
    let bytes = c.args.descriptor.now.bytes in
    sym (place_found bytes 0 (get_or bytes 0 0) c.loop-index.index c.args.page (omega arith) (omega (arith, c.loop-index-test.true)) (sym c.from.ensures ∙ c.if-from-page.true) (λ k a b. c.loop-index.invariant k b))

pub loop-index-preserved : goal.loop-index-preserved
loop-index-preserved c = below_more _ _ c.loop-index.invariant (λ same. c.if-from-page.false (c.from.ensures ∙ same))

pub returns-clause-place : goal.returns-clause-place
returns-clause-place c =
    let bytes = c.args.descriptor.now.bytes in
    sym (place_home bytes 0 (get_or bytes 0 0) c.args.page (λ k a b. c.loop-index.invariant k (omega (arith, b, c.loop-index-test.false))))
