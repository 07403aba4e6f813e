-- For the code inside. What tables hold, as lists.
use Rattle.std.specs.Prelude.{List, Option}
use Rattle.card_types.specs.declared.card_life.CardLife.{CardLife}
use Rattle.card_types.specs.declared.tables.Entry.{Entry}
use Rattle.card_types.specs.declared.tables.KeyRec.{KeyRec}
use Rattle.card_types.specs.declared.tables.LoadFile.{LoadFile}
use Rattle.card_types.specs.declared.tables.Object.{Object}
use Rattle.card_types.specs.declared.tables.Tables.{Tables}

-- the life cycle state of the card, and the slots of each kind
pub record TableLists : Type 0 where
  pub life : CardLife
  pub entries : List (Option Entry)
  pub files : List (Option LoadFile)
  pub keys : List (Option KeyRec)
  pub objects : List (Option Object)

abbrev pub lists_of : Tables → TableLists
lists_of tables = record {
  life = tables.life;
  entries = tables.entries.items;
  files = tables.files.items;
  keys = tables.keys.items;
  objects = tables.objects.items;
}
