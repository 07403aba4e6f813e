use Rattle.std.proofs.Common.{◌≡◌, ℕ, true, List, Some, ap, sym, subst, ◌∙◌}
use Rattle.std.specs.Prelude.{IsSome}
use Rattle.card_check.proofs.CardNames.{file_aid_is}
use Rattle.card_types.proofs.Domains.{domain_aid_is}
use Rattle.card_types.proofs.FoundNames.{found_entry_named, found_file_named}
use Rattle.card_types.proofs.Next.{held_from_name}
use Rattle.card_core.specs.Prelude.{HasNoneFrom, IsAlone, IsRemovable, IsUnloaded, LeavesOthers, Represents, aid_of, file_aid, without_entry, without_file}
use Rattle.card_types.specs.declared.found.Found.{Found}
use Rattle.card_types.specs.declared.found.Found.TheVariants as Thing
use Rattle.card_types.specs.declared.tables.Entry.{Entry}
use Rattle.card_types.specs.declared.tables.LoadFile.{LoadFile}
use Rattle.card_core.proofs.Answered.{owner_room_again}
use Rattle.card_core.proofs.Cards.{in_order}
use Rattle.card_core.proofs.Deleting.{issuer_stays}
use Rattle.card_core.proofs.RemovedCards.{entry_gone_cards, entry_leaves, entry_there, file_gone_cards, file_leaves, file_there, loaded_gone_cards, loaded_leaves, no_domain, no_source, none_loaded, not_factory}
use Rattle.card_core.proofs.WithoutThing.{entry_alone, file_with_applications, without_no_applications}
use Rattle.card_core.proofs.FreePages.{dropped_free, files_free}
use Rattle.card_core.proofs.delete_object.remove.Goals as goal

-- an entry
pub remove_entry-requires-clause-alone : goal.remove_entry-requires-clause-alone
remove_entry-requires-clause-alone g c =
    let before = c.args.records.now.tables in
    no_domain before c.args.related c.in-Entry.slot (subst (IsAlone before c.args.related) c.in-Entry.is c.requires.alone)

pub returns-in-Entry-clause-said : goal.returns-in-Entry-clause-said
returns-in-Entry-clause-said g c page said says well aid named =
    let before = c.args.records.now.tables in
    let after = c.remove_entry.new.records.tables in
    let slot = c.in-Entry.slot in
    let here = subst (λ (thing : Found). aid_of before thing ≡ Some aid) c.in-Entry.is named in
    let there = held_from_name (λ (e : Entry). e.aid) before.entries.items slot aid here in
    let is = domain_aid_is before.entries.items slot there.0 there.1 ∙ there.2 in
    let gone = subst (λ (a : List ℕ). Represents page after (without_entry said a)) is (c.remove_entry.ensures.said page said says well) in
    subst (Represents page after) (sym (entry_alone said well aid _ (found_entry_named page before said says slot aid here).2)) gone

pub returns-in-Entry-clause-slots : goal.returns-in-Entry-clause-slots
returns-in-Entry-clause-slots g c =
    let before = c.args.records.now.tables in
    let after = c.remove_entry.new.records.tables in
    subst (LeavesOthers before after c.args.related) (sym c.in-Entry.is) (entry_leaves before after c.in-Entry.slot c.args.related c.remove_entry.ensures.slots)

pub returns-in-Entry-clause-cards : goal.returns-in-Entry-clause-cards
returns-in-Entry-clause-cards g c =
    let before = c.args.records.now.tables in
    let slot = c.in-Entry.slot in
    let there = entry_there before slot (subst (λ (thing : Found). IsSome (aid_of before thing)) c.in-Entry.is c.requires.there) in
    let alone = no_domain before c.args.related slot (subst (IsAlone before c.args.related) c.in-Entry.is c.requires.alone) in
    entry_gone_cards before c.remove_entry.new.records.tables slot c.requires.cards there.0 there.1 c.remove_entry.ensures.slots alone
    (subst (IsRemovable before) c.in-Entry.is c.requires.lasting) c.remove_entry.ensures.said

pub returns-in-Entry-clause-room : goal.returns-in-Entry-clause-room
returns-in-Entry-clause-room g c = owner_room_again c.args.records.now.staged c.remove_entry.new.records.staged c.requires.clean c.remove_entry.ensures.room

-- an Executable Load File with what comes from it
pub returns-then-related-clause-said : goal.returns-then-related-clause-said
returns-then-related-clause-said g c page said says well aid named =
    let before = c.args.records.now.tables in
    let here = subst (λ (thing : Found). aid_of before thing ≡ Some aid) c.in-File.is named in
    subst (Represents page c.remove_loaded.new.records.tables)
    (sym (file_with_applications said well aid _ (found_file_named page before said says c.in-File.slot aid here).2))
    (c.remove_loaded.ensures.said page said says well aid here)

pub returns-then-related-clause-slots : goal.returns-then-related-clause-slots
returns-then-related-clause-slots g c =
    let before = c.args.records.now.tables in
    let after = c.remove_loaded.new.records.tables in
    let related : c.args.related ≡ true = c.if-related.true in
    subst (LeavesOthers before after c.args.related) (sym c.in-File.is)
    (rw related (loaded_leaves before after c.in-File.slot c.remove_loaded.ensures.slots))

pub returns-then-related-clause-cards : goal.returns-then-related-clause-cards
returns-then-related-clause-cards g c =
    let before = c.args.records.now.tables in
    let after = c.remove_loaded.new.records.tables in
    let slot = c.in-File.slot in
    let there = file_there before slot (subst (λ (thing : Found). IsSome (aid_of before thing)) c.in-File.is c.requires.there) in
    let lasting = subst (IsRemovable before) c.in-File.is c.requires.lasting in
    let order = in_order before c.requires.cards in
    let named : aid_of before (Thing.File slot) ≡ Some (file_aid before.files.items slot) = rw there.1 in
    loaded_gone_cards before after slot c.requires.cards there.0 there.1 (not_factory before slot there.0 there.1 lasting) c.remove_loaded.ensures.slots
    (issuer_stays order.page before order.said order.says order.well order.layout.issuer true (Thing.File slot) lasting)
    (λ page said says well. c.remove_loaded.ensures.said page said says well (file_aid before.files.items slot) named)

-- an Executable Load File alone
pub returns-else-related-clause-said : goal.returns-else-related-clause-said
returns-else-related-clause-said g c page said says well aid named =
    let before = c.args.records.now.tables in
    let after = c.remove_file.new.records.tables in
    let slot = c.in-File.slot in
    let here = subst (λ (thing : Found). aid_of before thing ≡ Some aid) c.in-File.is named in
    let there = held_from_name (λ (f : LoadFile). f.aid) before.files.items slot aid here in
    let is = file_aid_is before.files.items slot there.0 there.1 ∙ there.2 in
    let unloaded : IsUnloaded before slot = no_source before slot (subst (HasNoneFrom before c.args.related) c.in-File.is c.requires.unloaded c.if-related.false) in
    let none = without_no_applications said well aid
    (λ e among comes. none_loaded page before said says well slot there.0 there.1 unloaded e among (comes ∙ sym is)) in
    let whole = file_with_applications said well aid _ (found_file_named page before said says slot aid here).2 ∙ ap (λ registry. without_file registry aid) none in
    subst (Represents page after) (sym whole) (subst (λ (a : List ℕ). Represents page after (without_file said a)) is (c.remove_file.ensures.said page said says))

pub returns-else-related-clause-slots : goal.returns-else-related-clause-slots
returns-else-related-clause-slots g c =
    let before = c.args.records.now.tables in
    let after = c.remove_file.new.records.tables in
    subst (LeavesOthers before after c.args.related) (sym c.in-File.is) (file_leaves before after c.in-File.slot c.args.related c.remove_file.ensures.slots)

pub returns-else-related-clause-cards : goal.returns-else-related-clause-cards
returns-else-related-clause-cards g c =
    let before = c.args.records.now.tables in
    let slot = c.in-File.slot in
    let there = file_there before slot (subst (λ (thing : Found). IsSome (aid_of before thing)) c.in-File.is c.requires.there) in
    let lasting = subst (IsRemovable before) c.in-File.is c.requires.lasting in
    let unloaded : IsUnloaded before slot = no_source before slot (subst (HasNoneFrom before c.args.related) c.in-File.is c.requires.unloaded c.if-related.false) in
    file_gone_cards before c.remove_file.new.records.tables slot c.requires.cards there.0 there.1 (not_factory before slot there.0 there.1 lasting) c.remove_file.ensures.slots unloaded
    (λ page said says well. c.remove_file.ensures.said page said says)

-- no load page that was free is taken
pub returns-in-Entry-clause-free : goal.returns-in-Entry-clause-free
returns-in-Entry-clause-free g c = files_free c.args.records.now.tables c.remove_entry.new.records.tables c.remove_entry.ensures.slots.files

pub returns-then-related-clause-free : goal.returns-then-related-clause-free
returns-then-related-clause-free g c = dropped_free c.args.records.now.tables c.remove_loaded.new.records.tables c.in-File.slot c.remove_loaded.ensures.slots.files

pub returns-else-related-clause-free : goal.returns-else-related-clause-free
returns-else-related-clause-free g c = dropped_free c.args.records.now.tables c.remove_file.new.records.tables c.in-File.slot c.remove_file.ensures.slots.files
