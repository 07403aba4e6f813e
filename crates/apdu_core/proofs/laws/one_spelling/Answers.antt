use Rattle.apdu_core.proofs.OneSpelling.{one_command, one_spelling, one_reply}
use Rattle.apdu_core.proofs.laws.one_spelling.Goals as goal

pub returns-clause-command : goal.returns-clause-command
returns-clause-command c = one_command

pub returns-clause-spelling : goal.returns-clause-spelling
returns-clause-spelling c = one_spelling

pub returns-clause-reply : goal.returns-clause-reply
returns-clause-reply c = one_reply
