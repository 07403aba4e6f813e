-- The tables with the slots of a card are a card's.
use Rattle.std.proofs.Common.{◌≡◌, inl, inr, ℕ, ◌≤◌, List, [], ◌∷◌, sym, subst, arith}
use Rattle.std.specs.Prelude.{All, Contains, map}
use Rattle.std.specs.List.{concat}
use Rattle.std.proofs.lemmas.List.Elements.{All-contains, Contains-append_left, Contains-append_right}
use Rattle.card_types.specs.Represents.{things_in, thing_in}
use Rattle.card_types.specs.declared.factory.TheConstants.{FACTORY_FILE, ISSUER}
use Rattle.card_types.specs.declared.limits.TheConstants.{FILE_LIMIT}
use Rattle.card_types.specs.declared.tables.Entry.{Entry}
use Rattle.card_types.specs.declared.tables.LoadFile.{LoadFile}
use Rattle.card_types.specs.declared.tables.Tables.{Tables}
use Rattle.card_check.specs.CardSlots.{HasCardSlots}
use Rattle.card_check.specs.IsCard.{HasPages, IsCard, IsInLoadPages, pages_named}
use Rattle.page_journal.specs.Pages.{IsLoadPage}
use Rattle.card_check.specs.LoadPages.{HasPageNumbers, all_pages}
use Rattle.card_types.proofs.Members.{contains_cases}
use Rattle.card_check.proofs.CardNames.{factory_load_file, issuer_entry, used_from}
use Rattle.card_check.proofs.LoadPagesNamed.{all_of_members}
use Rattle.card_check.proofs.CardSays.{card_says, said_by_card}
use Rattle.card_check.proofs.CardWell.{card_is_well}

-- the pages of one file are among those of all
pages_of_one : (files : List LoadFile) (file : LoadFile) (number : ℕ) → Contains files file → Contains (pages_named file) number → Contains (concat (map pages_named files)) number
pages_of_one [] file number there among = absurd (omega (arith, there.1))
pages_of_one (first ∷ files) file number there among = elim (contains_cases first files file there) [
  | inl same ↦ Contains-append_left (pages_named first) (concat (map pages_named files)) number (subst (λ (f : LoadFile). Contains (pages_named f) number) (sym same) among)
  | inr later ↦ Contains-append_right (pages_named first) (concat (map pages_named files)) number (pages_of_one files file number later among)
]

pub card_from_slots : (page : ℕ → List ℕ) → HasPages page → (tables : Tables) → HasCardSlots tables → All HasPageNumbers (things_in tables.files.items) → IsCard page tables
card_from_slots page whole tables card arrays =
    let issuer = issuer_entry tables card in
    let factory = factory_load_file tables card in
    let said = said_by_card page tables card in
    let says = card_says page tables card in
    record {
      said = said;
      of = record {
        layout = record {
          slots = card.room;
          issuer = used_from (λ (entry : Entry). entry.aid ≡ ISSUER) (thing_in tables.entries.items 0) issuer.0 issuer.1 issuer.2.aid;
        };
        factory_file = used_from (λ (file : LoadFile). (file.aid ≡ FACTORY_FILE) × (file.len ≡ 0)) (thing_in tables.files.items 0) factory.0 factory.1 (factory.2.aid, factory.2.len);
        files = all_of_members IsInLoadPages (things_in tables.files.items) (λ file there. record {
          size = All-contains (λ (f : LoadFile). f.len ≤ FILE_LIMIT) (things_in tables.files.items) file card.pages.lengths there;
          pages = all_of_members IsLoadPage (pages_named file) (λ number among.
              All-contains IsLoadPage (all_pages tables.files.items) number card.pages.pages.each (pages_of_one (things_in tables.files.items) file number there among));
        });
        apart = card.pages.pages.apart;
        says = says;
        well = card_is_well page whole tables card said says arrays;
      };
    }
