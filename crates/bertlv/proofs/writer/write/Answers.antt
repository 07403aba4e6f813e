use Rattle.std.proofs.Common.{ℕ, List, ◌++◌, length-append, arith, rules}
use Rattle.bertlv.specs.Spelling.{Spelling}
use Rattle.bertlv.proofs.SpellingLemmas.{fields_spell}
use Rattle.bertlv.proofs.writer.write.Goals as goal

-- What was appended fits, so it is no element that doesn't.
pub returns-clause-no_room : goal.returns-clause-no_room
returns-clause-no_room g c = (
  λ no. absurd cc,
  λ none.
      let value : List ℕ = c.args.tlv.now.value.now in
      let tag : List ℕ = c.tag_field-tag.result.items in
      let size : List ℕ = c.length_field-length.result.items in
      let spelled : Spelling c.args.tlv.now.tag value (tag ++ size ++ value) =
      fields_spell c.args.tlv.now.tag c.in-Ok.length tag size value
      c.tag_field-tag.ensures c.length_field-length.ensures (search rules) in
      let over = none (tag ++ size ++ value) spelled in
      absurd (omega (arith, over, length-append (tag ++ size) value, length-append tag size)),
)
