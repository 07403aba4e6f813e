use Rattle.std.proofs.Common.{arith}
use Rattle.host_tool.proofs.OneWord.{one_word}
use Rattle.host_tool.proofs.top.gp_host.Goals as goal

pub returns-in-Ok-clause-usage : goal.returns-in-Ok-clause-usage
returns-in-Ok-clause-usage g c other = absurd (other (one_word c.args.words.now (omega (arith, c.in-len1.len_at_least)) (omega (arith, c.in-len1.len_below))))

pub returns-in-Err-clause-usage : goal.returns-in-Err-clause-usage
returns-in-Err-clause-usage g c other = absurd (other (one_word c.args.words.now (omega (arith, c.in-len1.len_at_least)) (omega (arith, c.in-len1.len_below))))

pub returns-in-Ok-clause-idle : goal.returns-in-Ok-clause-idle
returns-in-Ok-clause-idle g c other = absurd (other (one_word c.args.words.now (omega (arith, c.in-len1.len_at_least)) (omega (arith, c.in-len1.len_below))))

pub returns-in-Err-clause-idle : goal.returns-in-Err-clause-idle
returns-in-Err-clause-idle g c other = absurd (other (one_word c.args.words.now (omega (arith, c.in-len1.len_at_least)) (omega (arith, c.in-len1.len_below))))
