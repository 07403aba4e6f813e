use Rattle.rec_store.proofs.Rooms.{room_stays}
use Rattle.rec_store.proofs.laws.room_stays.Goals as goal

pub returns : goal.returns
returns c = room_stays
