-- What becomes of a registry, by names, where a thing is added, changed, moved or removed (GlobalPlatform Card Specification
-- 2.3.1, 6.5, 9.3 and 11.2). All that a definition does not name stays as it was.
use Rattle.std.specs.List.{cons_option}
use Rattle.std.specs.List.Sorted.{IsPermutation, IsStrictlySortedBy}
use Rattle.std.specs.Prelude.{List, Option, None, Some, ◌≡◌, ℕ, Bool, cond, filter, map, not}
use Rattle.std.specs.declared.cmp.Ordering.{Ordering}
use Rattle.card_types.specs.Aid.{aid_order, same_aid}
use Rattle.card_types.specs.Registry.{Entry, LoadFile, Registry}
use Rattle.card_types.specs.declared.card_life.CardLife.{CardLife}
use Rattle.card_types.specs.declared.life.LifeMark.{LifeMark}

-- A list in strictly ascending order before and after one change: something is put in, taken out, or put in place of
-- another.

-- with the new one, if there is one, the list before is the list after with the one that is gone
pub record IsChanged {X : Type 0} (order : X → X → Ordering) (gone new : Option X) (before after : List X) : Type 0 where
  pub ascending : IsStrictlySortedBy order after
  pub same : IsPermutation (cons_option new before) (cons_option gone after)

abbrev pub IsPut : {X : Type 0} → (X → X → Ordering) → X → List X → List X → Type 0
IsPut order new = IsChanged order None (Some new)

abbrev pub IsRemoved : {X : Type 0} → (X → X → Ordering) → X → List X → List X → Type 0
IsRemoved order gone = IsChanged order (Some gone) None

abbrev pub IsReplaced : {X : Type 0} → (X → X → Ordering) → X → X → List X → List X → Type 0
IsReplaced order gone new = IsChanged order (Some gone) (Some new)

-- the registry with another entry, and with another Executable Load File, in its place
pub record IsEntryAdded (entry : Entry) (before after : Registry) : Type 0 where
  pub entries : IsPut (λ a b. aid_order a.aid b.aid) entry before.entries after.entries
  pub same : after ≡ record before { entries = after.entries }

pub record IsFileAdded (file : LoadFile) (before after : Registry) : Type 0 where
  pub files : IsPut (λ a b. aid_order a.aid b.aid) file before.files after.files
  pub same : after ≡ record before { files = after.files }

-- the entries, each of these changed
abbrev pub with_entries : Registry → (List ℕ → Bool) → (Entry → Entry) → Registry
with_entries registry these change = record registry { entries = map (λ entry. cond (these entry.aid) (change entry) entry) registry.entries }

-- the entry with this AID in another life cycle state, or with another lock mark
abbrev pub with_life : Registry → List ℕ → LifeMark → Registry
with_life registry aid life = with_entries registry (λ other. same_aid other aid) (λ entry. record entry { life = life })

-- these entries with this lock mark, each in the life cycle state that it has
abbrev pub with_locks : Registry → (List ℕ → Bool) → Bool → Registry
with_locks registry these locked = with_entries registry these (λ entry. record entry { life = record { life = entry.life.life; locked = locked } })

-- the entry with this AID with another receipt number
abbrev pub with_receipts : Registry → List ℕ → ℕ → Registry
with_receipts registry aid number = with_entries registry (λ other. same_aid other aid) (λ entry. record entry { receipts = number })

-- the thing with this AID, an entry or an Executable Load File, in another domain
abbrev pub with_thing_in_domain : Registry → List ℕ → List ℕ → Registry
with_thing_in_domain registry aid domain = record (with_entries registry (λ other. same_aid other aid) (λ entry. record entry { domain = domain })) {
  files = map (λ file. cond (same_aid file.aid aid) (record file { domain = domain }) file) registry.files;
}

-- the registry without the entry with this AID, and without the keys, sequence counters and data objects that it owns
abbrev pub without_entry : Registry → List ℕ → Registry
without_entry registry aid = record registry {
  entries = filter (λ entry. not (same_aid entry.aid aid)) registry.entries;
  keys = filter (λ key. not (same_aid key.owner aid)) registry.keys;
  counters = filter (λ counter. not (same_aid counter.owner aid)) registry.counters;
  objects = filter (λ object. not (same_aid object.owner aid)) registry.objects;
}

-- the registry without the entries that come from the Executable Load File with this AID; but for those of the factory's file they are
-- applications, which own nothing
abbrev pub without_applications : Registry → List ℕ → Registry
without_applications registry file = record registry { entries = filter (λ entry. not (same_aid entry.file file)) registry.entries }

-- the registry without the Executable Load File with this AID
abbrev pub without_file : Registry → List ℕ → Registry
without_file registry aid = record registry { files = filter (λ file. not (same_aid file.aid aid)) registry.files }

-- the card in another life cycle state
abbrev pub with_card_life : Registry → CardLife → Registry
with_card_life registry life = record registry { life = life }
