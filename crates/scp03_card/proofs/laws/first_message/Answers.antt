use Rattle.scp03_card.proofs.Lengths.{first_message_is}
use Rattle.scp03_card.proofs.laws.first_message.Goals as goal

pub returns : goal.returns
returns c = first_message_is
