use Rattle.gp_tool.proofs.Exclusive.{ends_once}
use Rattle.gp_tool.proofs.laws.one_ending.Goals as goal

pub returns-clause-ending : goal.returns-clause-ending
returns-clause-ending c verb first ending another old new other clean clear ends again =
    let same = ends_once verb first ending another old new other clean clear ends again in same.0

pub returns-clause-written : goal.returns-clause-written
returns-clause-written c verb first ending another old new other clean clear ends again =
    let same = ends_once verb first ending another old new other clean clear ends again in same.1
