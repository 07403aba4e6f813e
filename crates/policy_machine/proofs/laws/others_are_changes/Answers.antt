use Rattle.policy_machine.proofs.laws.others_are_changes.Goals as goal

pub returns : goal.returns
returns c before after = record {
  life = λ other same. other same.life;
  entries = λ other same. other same.entries;
  files = λ other same. other same.files;
  keys = λ other same. other same.keys;
  counters = λ other same. other same.counters;
  objects = λ other same. other same.objects;
}
