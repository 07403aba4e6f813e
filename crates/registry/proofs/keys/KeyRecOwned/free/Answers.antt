use Rattle.rec_store.specs.Places.{key_page}
use Rattle.registry.specs.Pages.{owner_pages}
use Rattle.registry.proofs.Frames.{key_of_owner, frame_of, keeps_staged}
use Rattle.registry.proofs.keys.KeyRecOwned.free.Goals as goal

pub set_key-requires-clause-frame : goal.set_key-requires-clause-frame
set_key-requires-clause-frame g c = frame_of owner_pages c.args.records.now.staged (key_page c.args.slot) (key_of_owner c.args.slot c.requires.range) c.requires.room

pub returns-clause-room : goal.returns-clause-room
returns-clause-room g c =
    keeps_staged owner_pages c.args.records.now.staged (key_page c.args.slot) (key_of_owner c.args.slot c.requires.range) c.set_key.new.self.staged c.set_key.ensures.staged
