-- The card as it leaves the factory, in slots and by names.
use Rattle.std.specs.Prelude.{◌≡◌, ℕ, ◌-◌, [], ◌∷◌, None, Some, replicate, false}
use Rattle.card_types.specs.Registry as registry
use Rattle.card_types.specs.declared.card_life.CardLife.TheVariants.{OpReady}
use Rattle.card_types.specs.declared.factory.TheConstants.{ISSUER, FACTORY_FILE, FACTORY_MODULE, FACTORY_PRIVILEGES, FACTORY_VERSION, FACTORY_KEY}
use Rattle.card_types.specs.declared.life.Life.TheVariants.{Personalized}
use Rattle.card_types.specs.declared.limits.TheConstants.{ENTRIES, FILES, KEYS, OBJECTS}
use Rattle.card_types.specs.declared.tables.Entry.{Entry}
use Rattle.card_types.specs.declared.tables.LoadFile.{LoadFile}
use Rattle.card_types.specs.declared.tables.KeyRec.{KeyRec}
use Rattle.card_types.specs.declared.tables.Tables.{Tables}

-- the Issuer Security Domain, and the Executable Load File that security domains come from
abbrev pub factory_entry : Entry
factory_entry = record {
  aid = ISSUER;
  domain = 0;
  file = 0;
  «module» = FACTORY_MODULE;
  life = record { life = Personalized; locked = false };
  privileges = record { 0 = FACTORY_PRIVILEGES };
  receipts = 0;
}

abbrev pub factory_file : LoadFile
factory_file = record { aid = FACTORY_FILE; domain = 0; len = 0; pages = replicate 128 0 }

-- a key of the factory's key set
pub record IsFactoryKey (identifier : ℕ) (key : KeyRec) : Type 0 where
  pub owner : key.owner ≡ 0
  pub version : key.version ≡ FACTORY_VERSION
  pub same : key.identifier ≡ identifier
  pub bytes : key.bytes.items ≡ FACTORY_KEY
  pub counter : key.counter ≡ 0

-- the tables of the factory card
pub record IsFactory (tables : Tables) : Type 0 where
  pub life : tables.life ≡ OpReady
  pub entries : tables.entries.items ≡ Some factory_entry ∷ replicate (ENTRIES - 1) None
  pub files : tables.files.items ≡ Some factory_file ∷ replicate (FILES - 1) None
  pub first : KeyRec
  pub second : KeyRec
  pub third : KeyRec
  pub first_key : IsFactoryKey 1 first
  pub second_key : IsFactoryKey 2 second
  pub third_key : IsFactoryKey 3 third
  pub keys : tables.keys.items ≡ Some first ∷ Some second ∷ Some third ∷ replicate (KEYS - 3) None
  pub objects : tables.objects.items ≡ replicate OBJECTS None

-- a key of the factory's key set, by names
abbrev pub key_of_factory : ℕ → registry.Key
key_of_factory identifier = record { owner = ISSUER; version = FACTORY_VERSION; identifier = identifier; bytes = FACTORY_KEY }

-- the Issuer Security Domain, by names
abbrev pub issuer_of_factory : registry.Entry
issuer_of_factory = record {
  aid = ISSUER;
  domain = ISSUER;
  file = FACTORY_FILE;
  module_ = FACTORY_MODULE;
  life = record { life = Personalized; locked = false };
  privileges = record { 0 = FACTORY_PRIVILEGES };
  receipts = 0;
}

-- the factory card, by names
abbrev pub factory_registry : registry.Registry
factory_registry = record {
  life = OpReady;
  entries = issuer_of_factory ∷ [];
  files = record { aid = FACTORY_FILE; domain = ISSUER; bytes = [] } ∷ [];
  keys = key_of_factory 1 ∷ key_of_factory 2 ∷ key_of_factory 3 ∷ [];
  counters = record { owner = ISSUER; version = FACTORY_VERSION; number = 0 } ∷ [];
  objects = [];
}
