use Rattle.std.proofs.Common.{ap, arith, get_or}
use Rattle.bertlv.proofs.TagLemmas.{one_byte_test}
use Rattle.bertlv.proofs.tag.is_tag.Goals as goal

pub returns-then-second-ne0 : goal.returns-then-second-ne0
returns-then-second-ne0 c =
    one_byte_test c.args.tag _ c.goes_on.result
    (omega (
      arith,
      ap (λ bytes. get_or bytes 0 0) c.to_be_bytes.ensures,
      ap (λ bytes. get_or bytes 1 0) c.to_be_bytes.ensures,
    ))
    (omega (arith, ap (λ bytes. get_or bytes 0 0) c.to_be_bytes.ensures))
    c.if-second-ne0.true
    c.goes_on.ensures
