use Rattle.std.proofs.Common.{inl, inr, ◌+◌, get_or, below_more, refl, ap, ◌∙◌, arith}
use Rattle.std.proofs.lemmas.Bool.{cases_eq}
use Rattle.page_journal.specs.Pages.{IsStorePage}
use Rattle.page_journal.proofs.descriptor.is_valid.Goals as goal

pub loop-index-preserved : goal.loop-index-preserved
loop-index-preserved c =
    let index = c.loop-index.index in
    let bytes = c.args.bytes.now in
    record {
      homes = below_more (λ i. IsStorePage (get_or bytes (i + 1) 0)) index c.loop-index.invariant.homes c.if-bytes-index.false;
      distinct = λ i j ij lt. elim (cases_eq j index) [
        | inl last ↦ λ same. absurd (cc (c.if-is_named_before.false, c.is_named_before.ensures.1 (i, omega (arith, ij, last), same ∙ ap (λ k. get_or bytes (k + 1) 0) last)))
        | inr other ↦ c.loop-index.invariant.distinct i j ij (omega (arith, lt, other))
      ];
    }

pub returns : goal.returns
returns c = (
  λ _. record {
    some = omega (arith, c.if-count-eq0.false);
    room = c.if-count-gt-FRAMES.false;
    homes = λ i lt. c.loop-index.invariant.homes i (omega (arith, lt, c.loop-index-test.false));
    distinct = λ i j ij lt. c.loop-index.invariant.distinct i j ij (omega (arith, lt, c.loop-index-test.false));
  },
  λ _. refl,
)
