use Rattle.std.proofs.Common.{◌≡◌, ◌∷◌, ◌∙◌, ℕ, List, [], Option, Some, ap, refl, subst, sym}
use Rattle.std.specs.Prelude.{IsSome, unwrap_or}
use Rattle.card_core.proofs.Answered.{aids_selected, entry_room, numbers_confirmer, room_again}
use Rattle.card_core.proofs.EntryCards.{adding_keeps, aids_kept, entry_cards}
use Rattle.card_core.proofs.FreePages.{files_free}
use Rattle.card_core.proofs.SomeAdmitted.{domain_named, domain_there, of_card, some_acts, some_admitted, some_load}
use Rattle.card_core.specs.Prelude.{ActsIn, Admitted, BecomesAsAsked, Entry, IsEntryAdded, IsInstallOf, NoneHas, Registry, Represents, aid_of, entry_made, entry_of, file_aid, managed_install, slot_made, thing_in}
use Rattle.card_types.specs.declared.tables.Entry.{Entry as Slot}
use Rattle.card_types.specs.declared.tables.LoadFile.{LoadFile}
use Rattle.card_core.proofs.StatusChanged.{named_there}
use Rattle.policy_machine.proofs.InstallApplicationLaws.{made_of_card}
use Rattle.card_types.specs.declared.found.Found.TheVariants as thing
use Rattle.card_types.specs.declared.tables.Tables.{Tables}
use Rattle.content_rules.specs.declared.install_application.InstallRequest.{InstallRequest}
use Rattle.card_core.proofs.install_application.InstallRequestConfirmedRequest.change.Goals as goal

-- the entry is there
installed : (page : ℕ → List ℕ) (before after : Tables) (domain : ℕ) (admitted : Admitted) → ActsIn page before domain admitted
    → (request : InstallRequest) → IsInstallOf request admitted.command → (file : ℕ) → aid_of before (thing.File file) ≡ Some request.file
    → (entry : Slot) → entry ≡ slot_made request domain file
    → (now : Registry) × IsEntryAdded (entry_of before.entries.items before.files.items entry) admitted.at.registry now × Represents page after now
    → BecomesAsAsked managed_install admitted page after (request.file ∷ request.aid ∷ [])
installed page before after domain admitted acts request is file at entry made added =
    let from : file_aid before.files.items file ≡ is.asked.given.first = ap (λ (o : Option (List ℕ)). unwrap_or o []) at ∙ is.file in
    let named : entry_of before.entries.items before.files.items (slot_made request domain file) ≡ entry_made admitted is.asked =
    rw (sym acts.on, from, is.aid, is.module_, is.privileges, is.selectable) refl in
    record {
      asked = is.asked;
      asks = is.asks;
      changed = added.0;
      becomes = subst (λ (e : Entry). IsEntryAdded e admitted.at.registry added.0) (ap (entry_of before.entries.items before.files.items) made ∙ named) added.1;
      says = added.2;
      about = λ i. is.file i ∷ is.aid i ∷ [];
    }

pub place_entry-requires : goal.place_entry-requires
place_entry-requires g c =
    let tables = c.args.records.now.tables in
    let found = c.requires.found in
    let there = domain_there tables.entries.items c.args.acting.now.domain c.requires.domain in
    record {
      live = c.requires.live;
      domain = subst (λ (entry : Slot). IsSome (thing_in tables.entries.items entry.domain)) (sym c.made.ensures) (subst IsSome (sym there.1) refl);
      file = subst (λ (entry : Slot). IsSome (thing_in tables.files.items entry.file)) (sym c.made.ensures)
          (named_there (λ (file : LoadFile). file.aid) (thing_in tables.files.items c.args.file) c.args.self.now.file found.file);
      fresh = subst (λ (entry : Slot). NoneHas tables entry.aid) (sym c.made.ensures) found.free;
      free = found.room;
      room = entry_room c.args.records.now.staged c.requires.clean;
    }

pub returns : goal.returns
returns g c =
    let before = c.args.records.now.tables in
    let after = c.place_entry.new.records.tables in
    let domain = c.args.acting.now.domain in
    let live = c.args.acting.now.live.now in
    let request = c.args.self.now in
    let asked = c.requires.formed in
    let place = c.place_entry.ensures in
    let keeps = adding_keeps before after c.place_entry.result c.made.result place.slots in
    record {
      becomes = λ page admitted acts is. subst (BecomesAsAsked managed_install admitted page after) (sym c.new.ensures)
          (installed page before after domain admitted acts request is.means c.args.file c.requires.found.file c.made.result c.made.ensures
          (place.said page admitted.at.registry acts.says acts.well));
      confirmer = λ page admitted acts. numbers_confirmer before after admitted keeps;
      selected = aids_selected live before.entries.items after.entries.items (aids_kept before after keeps);
      free = files_free before after place.slots.set.files;
      cards = entry_cards before after c.place_entry.result (Some c.made.result) place.slots.set (aids_kept before after keeps) (λ page said says well.
          (let some = some_admitted page before said says well domain c.requires.domain live.load asked.0 in
          let acts = some_acts page before said says well domain c.requires.domain live.load asked.0 in
          let load = some_load page before said says well domain c.requires.domain live.load asked.0 in
          let made = installed page before after domain some acts request asked.1.means c.args.file c.requires.found.file c.made.result c.made.ensures (place.said page said says well) in
          let kept = made_of_card some made.asked made.asks (of_card page before said says well domain c.requires.domain)
          (domain_named page before said says well domain c.requires.domain) (c.requires.passed page some acts load asked.1.means) made.changed made.becomes in
          (made.changed, made.says, kept.well))) c.requires.cards;
      same = place.same;
      room = room_again c.args.records.now.staged c.place_entry.new.records.staged c.requires.clean place.room;
    }
