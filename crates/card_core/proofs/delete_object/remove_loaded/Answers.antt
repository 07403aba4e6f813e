use Rattle.std.proofs.Common.{◌≡◌, ℕ, List, Option, None, ap, sym, subst, ◌∙◌}
use Rattle.std.specs.Prelude.{IsSome, slice_set}
use Rattle.card_check.proofs.CardNames.{file_aid_is}
use Rattle.card_types.proofs.Next.{held_from_name}
use Rattle.card_core.specs.Prelude.{Represents, file_aid, thing_in, without_applications, without_file}
use Rattle.card_types.specs.declared.tables.LoadFile.{LoadFile}
use Rattle.card_core.proofs.Answered.{entry_room, file_room, loaded_room_again}
use Rattle.card_core.proofs.delete_object.remove_loaded.Goals as goal

pub remove_applications-requires-clause-room : goal.remove_applications-requires-clause-room
remove_applications-requires-clause-room g c = entry_room c.args.records.now.staged c.requires.clean

pub remove_file-requires-clause-slot : goal.remove_file-requires-clause-slot
remove_file-requires-clause-slot g c =
    subst (λ (files : List (Option LoadFile)). IsSome (thing_in files c.args.slot)) (sym c.remove_applications.ensures.slots.files) c.requires.slot

pub remove_file-requires-clause-room : goal.remove_file-requires-clause-room
remove_file-requires-clause-room g c =
    file_room c.args.slot c.args.records.now.staged c.remove_applications.new.records.staged c.requires.clean c.remove_applications.ensures.room

pub returns-clause-said : goal.returns-clause-said
returns-clause-said g c page said says well aid named =
    let before = c.args.records.now.tables in
    let between = c.remove_applications.new.records.tables in
    let there = held_from_name (λ (f : LoadFile). f.aid) before.files.items c.args.slot aid named in
    let is : file_aid before.files.items c.args.slot ≡ aid = file_aid_is before.files.items c.args.slot there.0 there.1 ∙ there.2 in
    let still : file_aid between.files.items c.args.slot ≡ aid =
    ap (λ (files : List (Option LoadFile)). file_aid files c.args.slot) c.remove_applications.ensures.slots.files ∙ is in
    let first = c.remove_applications.ensures.said page said says well in
    let then = c.remove_file.ensures.said page (without_applications said (file_aid before.files.items c.args.slot)) first in
    subst (λ (a : List ℕ). Represents page c.remove_file.new.records.tables (without_file (without_applications said a) aid)) is
    (subst (λ (a : List ℕ). Represents page c.remove_file.new.records.tables (without_file (without_applications said (file_aid before.files.items c.args.slot)) a)) still then)

pub returns-clause-slots : goal.returns-clause-slots
returns-clause-slots g c =
    let first = c.remove_applications.ensures.slots in
    let then = c.remove_file.ensures.slots in
    record {
      life = then.life ∙ first.life;
      entries = then.entries ∙ first.entries;
      files = then.files ∙ ap (λ (files : List (Option LoadFile)). slice_set files c.args.slot None) first.files;
      keys = then.keys ∙ first.keys;
      objects = then.objects ∙ first.objects;
    }

pub returns-clause-room : goal.returns-clause-room
returns-clause-room g c =
    loaded_room_again c.args.slot c.args.records.now.staged c.remove_applications.new.records.staged c.requires.clean c.remove_applications.ensures.room
    c.remove_file.new.records.staged c.remove_file.ensures.room
