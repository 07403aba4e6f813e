use Rattle.std.proofs.Common.{◌≡◌, inl, inr, ℕ, ◌<◌, List, Option, None, length, ap, sym, subst, ◌∙◌, arith}
use Rattle.std.specs.Prelude.{Contains, map}
use Rattle.std.proofs.lemmas.List.{get_or-set_same}
use Rattle.card_types.proofs.DrawnCounter.{held_within}
use Rattle.card_types.specs.Represents.{thing_in}
use Rattle.card_types.specs.declared.limits.TheConstants.{ENTRIES}
use Rattle.card_types.specs.declared.tables.Entry.{Entry}
use Rattle.card_types.specs.declared.tables.KeyRec.{KeyRec}
use Rattle.card_types.specs.declared.tables.Object.{Object}
use Rattle.rec_store.specs.Places.{entry_page}
use Rattle.registry.specs.TableLists.{TableLists}
use Rattle.registry.specs.Pages.{owner_pages}
use Rattle.registry.specs.Removing.{object_owner, slot_without}
use Rattle.registry.proofs.Frames.{entry_of_owner, frame_of, keeps_on, keeps_staged, still_room}
use Rattle.registry.proofs.Removed.{entry_removed}
use Rattle.registry.proofs.Replaced.{thing_of}
use Rattle.registry.proofs.Staging.{staged_before}
use Rattle.registry.proofs.removal.remove_entry.Goals as goal

pub free_owned-requires-2-clause-room : goal.free_owned-requires-2-clause-room
free_owned-requires-2-clause-room g c = still_room owner_pages c.args.records.now.staged c.free_owned.new.records.staged c.free_owned.ensures.room c.requires.room

pub set_entry-requires-clause-frame : goal.set_entry-requires-clause-frame
set_entry-requires-clause-frame g c =
    let slot = c.args.slot in
    let before = c.args.records.now in
    let first = still_room owner_pages before.staged c.free_owned.new.records.staged c.free_owned.ensures.room c.requires.room in
    let second = still_room owner_pages c.free_owned.new.records.staged c.free_owned-2.new.records.staged c.free_owned-2.ensures.room first in
    let entry = thing_of (thing_in before.tables.entries.items slot) c.requires.slot in
    let low : slot < ENTRIES = omega (arith, held_within before.tables.entries.items slot entry.0 entry.1, c.tables.ensures.roomy.slots.entries) in
    frame_of owner_pages c.free_owned-2.new.records.staged (entry_page slot) (entry_of_owner slot low) second

pub returns-clause-said : goal.returns-clause-said
returns-clause-said g c page said says well =
    let slot = c.args.slot in
    let before = c.args.records.now.tables in
    let between = c.free_owned-2.new.records.tables in
    let first = c.free_owned.ensures in
    let second = c.free_owned-2.ensures in
    let entry = thing_of (thing_in before.entries.items slot) c.requires.slot in
    entry_removed page before between said says well slot entry.0 entry.1 (ap (λ (l : TableLists). l.life) second.rest ∙ ap (λ (l : TableLists). l.life) first.rest)
    (ap (λ (l : TableLists). l.entries) second.rest ∙ ap (λ (l : TableLists). l.entries) first.rest) (ap (λ (l : TableLists). l.files) second.rest ∙ ap (λ (l : TableLists). l.files) first.rest)
    (ap (λ (l : TableLists). l.keys) second.rest ∙ first.freed) (second.freed ∙ ap (λ (l : TableLists). map (slot_without object_owner slot) l.objects) first.rest)
    c.set_entry.new.self.tables c.requires.alone c.set_entry.ensures.tables

pub returns-clause-room : goal.returns-clause-room
returns-clause-room g c =
    let slot = c.args.slot in
    let before = c.args.records.now in
    let between = c.free_owned-2.new.records.staged in
    let entry = thing_of (thing_in before.tables.entries.items slot) c.requires.slot in
    let low : slot < ENTRIES = omega (arith, held_within before.tables.entries.items slot entry.0 entry.1, c.tables.ensures.roomy.slots.entries) in
    keeps_on owner_pages before.staged between c.set_entry.new.self.staged
    (keeps_on owner_pages before.staged c.free_owned.new.records.staged between c.free_owned.ensures.room c.free_owned-2.ensures.room)
    (keeps_staged owner_pages between (entry_page slot) (entry_of_owner slot low) c.set_entry.new.self.staged c.set_entry.ensures.staged)

pub returns-clause-staged : goal.returns-clause-staged
returns-clause-staged g c page there =
    let slot = c.args.slot in
    let before = c.args.records.now in
    let first = c.free_owned.ensures in
    let second = c.free_owned-2.ensures in
    let set = c.set_entry.ensures in
    let entry = thing_of (thing_in before.tables.entries.items slot) c.requires.slot in
    let same_entries = ap (λ (l : TableLists). l.entries) second.rest ∙ ap (λ (l : TableLists). l.entries) first.rest in
    let within = held_within before.tables.entries.items slot entry.0 entry.1 in
    let free : thing_in c.set_entry.new.self.tables.entries.items slot ≡ None =
    ap (λ (s : List (Option Entry)). thing_in s slot) set.tables.entries
    ∙ get_or-set_same c.free_owned-2.new.records.tables.entries.items slot None None (omega (arith, within, ap (λ (s : List (Option Entry)). length s) same_entries)) in
    let same_objects = set.tables.objects in
    let same_keys = set.tables.keys ∙ ap (λ (l : TableLists). l.keys) second.rest in
    elim (staged_before c.free_owned-2.new.records.staged (entry_page slot) page (subst (λ (s : List ℕ). Contains s page) set.staged there)) [
      | inr new ↦ inr (inl (slot, new, λ same. (let clash = sym free ∙ same ∙ entry.1 in cc)))
      | inl old ↦ elim (second.staged page old) [
        | inr object ↦ inr (inr (inr (
          object.0,
          object.1,
          λ same. object.2 (ap (λ (s : List (Option Object)). thing_in s object.0) (sym same_objects) ∙ same ∙ ap (λ (l : TableLists). thing_in l.objects object.0) (sym first.rest)),
        )))
        | inl older ↦ elim (first.staged page older) [
          | inr key ↦ inr (inr (inl (key.0, key.1, λ same. key.2 (ap (λ (s : List (Option KeyRec)). thing_in s key.0) (sym same_keys) ∙ same))))
          | inl oldest ↦ inl oldest
        ]
      ]
    ]
