use Rattle.std.proofs.Common.{◌≡◌, ◌+◌, ◌*◌, length, ap, sym, ◌∙◌, arith}
use Rattle.std.proofs.lemmas.List.{length-take-le}
use Rattle.hex.proofs.HexLemmas.{length-encode_with}
use Rattle.hex.specs.Hex.{encode_lower, lower_digits}
use Rattle.gp_tool.specs.Replies.{line_end}
use Rattle.gp_tool.proofs.ReplyLine.{from_ok, line_spelled}
use Rattle.gp_tool.proofs.reply.spell_reply.Goals as goal

pub returns-clause-spelled : goal.returns-clause-spelled
returns-clause-spelled c =
    let reply = c.args.reply.now in
    let ok = c.encode_to_slice.ensures.fits.1 (length-take-le (2 * length reply) c.args.text.now (omega (arith, c.requires, c.told-text))) in
    let digits = from_ok c.encode_to_slice.result _ ok c.encode_to_slice.ensures.written in
    let len : length c.encode_to_slice.new.output ≡ 2 * length reply = (let twice = length-encode_with lower_digits reply in omega (arith, ap length digits, twice)) in
    let end = c.copy_from_slice.ensures.after ∙ c.deref.ensures.0 ∙ c.spell_end-end.ensures in
    line_spelled (2 * length reply) (2 * length reply + c.len.result) _ c.encode_to_slice.new.output _ c.copy_from_slice.new.self (encode_lower reply) (line_end c.args.explains c.args.rule)
    (ap (λ n. 2 * length reply + n) (c.len.ensures.value ∙ sym (ap length (c.copy_from_slice.ensures.after ∙ c.deref.ensures.0)))) len digits end
