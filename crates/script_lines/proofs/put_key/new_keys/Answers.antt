use Rattle.script_lines.specs.declared.put_key.NewKeys.TheVariants.{One, Three}
use Rattle.script_lines.proofs.put_key.new_keys.Goals as goal

pub returns : goal.returns
returns g c (One key) h = c.in_default.ensures key h
returns g c (Three keys) h = c.in_default-three_keys.ensures keys h
