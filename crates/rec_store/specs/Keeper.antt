-- What the changes of key slots need of a card's records, and what they leave.
use Rattle.std.specs.Prelude.{◌≡◌, true, refl}
use Rattle.std.proofs.Common.{◌∙◌}
use Rattle.rec_store.specs.Contents.{Contents}
use Rattle.rec_store.specs.Places.{key_pages}
use Rattle.rec_store.specs.Room.{HasFramesFor}

-- no commit has failed, and each key page is staged or there is a frame for it
pub record IsRoomy {F : Type 0} (records : Contents F) : Type 0 where
  pub live : records.live ≡ true
  pub room : HasFramesFor key_pages records.staged

-- the device, whether no commit has failed, and all of the tables but the key slots are the same
pub record SameElse {F : Type 0} (old new : Contents F) : Type 0 where
  pub flash : new.flash ≡ old.flash
  pub live : new.live ≡ old.live
  pub life : new.tables.life ≡ old.tables.life
  pub entries : new.tables.entries.items ≡ old.tables.entries.items
  pub files : new.tables.files.items ≡ old.tables.files.items
  pub objects : new.tables.objects.items ≡ old.tables.objects.items

pub same_else_self : {F : Type 0} (records : Contents F) → SameElse records records
same_else_self records = record { flash = refl; live = refl; life = refl; entries = refl; files = refl; objects = refl }

pub same_else_on : {F : Type 0} (a b c : Contents F) → SameElse a b → SameElse b c → SameElse a c
same_else_on a b c first then = record {
  flash = then.flash ∙ first.flash;
  live = then.live ∙ first.live;
  life = then.life ∙ first.life;
  entries = then.entries ∙ first.entries;
  files = then.files ∙ first.files;
  objects = then.objects ∙ first.objects;
}
