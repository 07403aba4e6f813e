-- A registry is one that a card may have with other data objects, where these are few and each is one that a domain may have.
use Rattle.std.proofs.Common.{ℕ, ◌≤◌, List, length}
use Rattle.std.specs.Prelude.{All}
use Rattle.std.proofs.lemmas.List.Elements.{All-weaker}
use Rattle.policy_machine.specs.Prelude.{Counter, Entry, IsWellCounter, IsWellEntry, IsWellFile, IsWellKey, IsWellObject, IsWholeSet, Key, LoadFile, Object, Registry, Well, with_data}
use Rattle.card_types.specs.declared.limits.TheConstants.{OBJECTS}

module _ (registry : Registry) (objects : List Object) where
  -- what is so of other things says nothing of the data objects
  entry_stays : (entry : Entry) → IsWellEntry registry entry → IsWellEntry (with_data registry objects) entry
  entry_stays entry well = record { proper = well.proper; domain = well.domain; line = well.line; loaded = well.loaded }

  file_stays : (file : LoadFile) → IsWellFile registry file → IsWellFile (with_data registry objects) file
  file_stays file well = record { aid = well.aid; apart = well.apart; domain = well.domain; size = well.size }

  set_stays : (owner : List ℕ) (version : ℕ) → IsWholeSet registry owner version → IsWholeSet (with_data registry objects) owner version
  set_stays owner version whole = record { first = whole.first; second = whole.second; third = whole.third; counter = whole.counter }

  key_stays : (key : Key) → IsWellKey registry key → IsWellKey (with_data registry objects) key
  key_stays key well =
      record { owner = well.owner; size = well.size; size_of_set = well.size_of_set; name = well.name; whole = λ low. set_stays key.owner key.version (well.whole low) }

  counter_stays : (counter : Counter) → IsWellCounter registry counter → IsWellCounter (with_data registry objects) counter
  counter_stays counter well = record { set = set_stays counter.owner counter.version well.set; version = well.version; number = well.number }

  object_stays : (object : Object) → IsWellObject registry object → IsWellObject (with_data registry objects) object
  object_stays object well = record { owner = well.owner; form = well.form }

  pub data_well : Well registry → length objects ≤ OBJECTS → All (IsWellObject registry) objects → Well (with_data registry objects)
  data_well well few each = record {
    few_entries = well.few_entries;
    few_files = well.few_files;
    few_keys = well.few_keys;
    few_objects = few;
    few_pages = well.few_pages;
    few_keys_each = well.few_keys_each;
    issuer = well.issuer;
    factory_file = well.factory_file;
    entries = All-weaker (IsWellEntry registry) (IsWellEntry (with_data registry objects)) entry_stays registry.entries well.entries;
    files = All-weaker (IsWellFile registry) (IsWellFile (with_data registry objects)) file_stays registry.files well.files;
    keys = All-weaker (IsWellKey registry) (IsWellKey (with_data registry objects)) key_stays registry.keys well.keys;
    counters = All-weaker (IsWellCounter registry) (IsWellCounter (with_data registry objects)) counter_stays registry.counters well.counters;
    objects = All-weaker (IsWellObject registry) (IsWellObject (with_data registry objects)) object_stays objects each;
  }
