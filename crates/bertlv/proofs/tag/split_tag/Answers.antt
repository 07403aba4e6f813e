use Rattle.std.proofs.Common.{rules}
use Rattle.bertlv.proofs.TagLemmas.{after_one, after_two}
use Rattle.bertlv.proofs.tag.split_tag.Goals as goal

pub returns-in-len1-up-clause-ok : goal.returns-in-len1-up-clause-ok
returns-in-len1-up-clause-ok c = search (rules, after_one)

pub returns-in-len2-up-clause-ok : goal.returns-in-len2-up-clause-ok
returns-in-len2-up-clause-ok c =
    after_two _ _ c.in-len2-up.len_at_least c.from_be_bytes.ensures (search rules) (search rules) (search rules)
