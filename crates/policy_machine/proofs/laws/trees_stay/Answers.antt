use Rattle.policy_machine.proofs.TreesStayInRuns.{roots_get_nothing, trees_stay_in_runs}
use Rattle.policy_machine.proofs.TreesStayed.{trees_stay}
use Rattle.policy_machine.proofs.laws.trees_stay.Goals as goal

pub returns : goal.returns
returns c = record {
  step = trees_stay;
  run = trees_stay_in_runs;
  root = roots_get_nothing;
  whole = λ registry domain. record {
    entries = λ entry there at. (there, at);
    files = λ file there at. (there, at);
    keys = λ key there at. (there, at);
    objects = λ object there at. (there, at);
  };
}
