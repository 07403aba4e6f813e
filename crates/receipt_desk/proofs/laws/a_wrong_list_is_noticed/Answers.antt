use Rattle.receipt_desk.proofs.InTurn.{fitting_follow, gaps_are_noticed}
use Rattle.receipt_desk.proofs.Verdicts.{one_place, other_macs_are_noticed}
use Rattle.receipt_desk.proofs.laws.a_wrong_list_is_noticed.Goals as goal

pub returns : goal.returns
returns c = record {
  follow = fitting_follow;
  place = one_place;
  gaps = gaps_are_noticed;
  mac = other_macs_are_noticed;
}
