use Rattle.rec_store.specs.Places.{object_page}
use Rattle.registry.specs.Pages.{owner_pages}
use Rattle.registry.proofs.Frames.{object_of_owner, frame_of, keeps_staged}
use Rattle.registry.proofs.objects.ObjectOwned.free.Goals as goal

pub set_object-requires-clause-frame : goal.set_object-requires-clause-frame
set_object-requires-clause-frame g c = frame_of owner_pages c.args.records.now.staged (object_page c.args.slot) (object_of_owner c.args.slot c.requires.range) c.requires.room

pub returns-clause-room : goal.returns-clause-room
returns-clause-room g c =
    keeps_staged owner_pages c.args.records.now.staged (object_page c.args.slot) (object_of_owner c.args.slot c.requires.range) c.set_object.new.self.staged c.set_object.ensures.staged
