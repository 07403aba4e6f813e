-- Tables that are a card's over any load pages.
use Rattle.std.proofs.Common.{◌≡◌, ℕ, ◌<◌, List, true, Option, Some, length, replicate, ap, subst, sym, ◌∙◌}
use Rattle.std.specs.Prelude.{MatchOption, All, map, nat_eq}
use Rattle.std.specs.List.{IsDistinct, concat}
use Rattle.std.proofs.lemmas.List.{length-replicate, length-set}
use Rattle.card_core.specs.Prelude.{AreCards, HasIssuer, HasPages, IsInLoadPages, IsInOrder, Registry, Represents, SetsKey, Well, domain_aid, keeps_counter, pages_named, raised_key, thing_in, things_in, with_counter_raised}
use Rattle.card_types.proofs.DrawnCounter.{drawn_says, drawn_well}
use Rattle.card_types.specs.declared.factory.TheConstants.{FACTORY_FILE}
use Rattle.card_types.specs.declared.limits.TheConstants.{COUNTER_LIMIT}
use Rattle.card_types.specs.declared.tables.Entry.{Entry}
use Rattle.card_types.specs.declared.tables.KeyRec.{KeyRec}
use Rattle.card_types.specs.declared.tables.LoadFile.{LoadFile}
use Rattle.card_types.specs.declared.tables.Object.{Object}
use Rattle.card_types.specs.declared.tables.Tables.{Tables}

pub in_order : (tables : Tables) → AreCards tables → IsInOrder tables
in_order tables cards =
    let page : ℕ → List ℕ = λ n. replicate 256 0 in
    let is = cards page (λ n. length-replicate {A = ℕ} 256 0) in
    record { layout = is.of.layout; page = page; said = is.said; says = is.of.says; well = is.of.well }

-- the factory's Executable Load File is in the first slot
abbrev pub IsFactoryIn : List (Option LoadFile) → Type 0
IsFactoryIn slots = MatchOption (thing_in slots 0) ⊥ (λ file. (file.aid ≡ FACTORY_FILE) × (file.len ≡ 0))

-- the slots hold Executable Load Files as a card's do
pub record AreFiles (slots : List (Option LoadFile)) : Type 0 where
  pub factory : IsFactoryIn slots
  pub pages : All IsInLoadPages (things_in slots)
  pub apart : IsDistinct nat_eq (concat (map pages_named (things_in slots)))

-- tables with as many slots are a card's too, where the Issuer Security Domain and the Executable Load Files stand as a card's do, and
-- where they say a registry that a card may have, over load pages of 256 bytes
module _ (before after : Tables) (entries : length after.entries.items ≡ length before.entries.items) (files : length after.files.items ≡ length before.files.items)
    (keys : length after.keys.items ≡ length before.keys.items) (objects : length after.objects.items ≡ length before.objects.items) where
  pub cards_over : (HasIssuer before.entries.items → HasIssuer after.entries.items) → (AreFiles before.files.items → AreFiles after.files.items)
      → ((page : ℕ → List ℕ) (said : Registry) → HasPages page → Represents page before said → Well said → (now : Registry) × Represents page after now × Well now)
      → AreCards before → AreCards after
  cards_over issuer pages each cards page whole =
      let is = cards page whole in
      let now = each page is.said whole is.of.says is.of.well in
      let are = pages (record { factory = is.of.factory_file; pages = is.of.files; apart = is.of.apart }) in
      record {
        said = now.0;
        of = record {
          layout = record {
            slots = record {
              entries = entries ∙ is.of.layout.slots.entries;
              files = files ∙ is.of.layout.slots.files;
              keys = keys ∙ is.of.layout.slots.keys;
              objects = objects ∙ is.of.layout.slots.objects;
            };
            issuer = issuer is.of.layout.issuer;
          };
          factory_file = are.factory;
          files = are.pages;
          apart = are.apart;
          says = now.1;
          well = now.2;
        };
      }

  -- such tables are a card's, where they say it over any load pages
  pub cards_from : (HasIssuer before.entries.items → HasIssuer after.entries.items) → (AreFiles before.files.items → AreFiles after.files.items)
      → ((page : ℕ → List ℕ) (said : Registry) → Represents page before said → Well said → (now : Registry) × Represents page after now × Well now)
      → AreCards before → AreCards after
  cards_from issuer pages each cards = cards_over issuer pages (λ page said whole. each page said) cards

-- tables with the same entries and Executable Load Files are a card's too
module _ (before after : Tables) (entries : after.entries.items ≡ before.entries.items) (files : after.files.items ≡ before.files.items)
    (keys : length after.keys.items ≡ length before.keys.items) (objects : length after.objects.items ≡ length before.objects.items) where
  pub cards_after : ((page : ℕ → List ℕ) (said : Registry) → Represents page before said → Well said → (now : Registry) × Represents page after now × Well now)
      → AreCards before → AreCards after
  cards_after =
      cards_from before after (ap (λ (slots : List (Option Entry)). length slots) entries) (ap (λ (slots : List (Option LoadFile)). length slots) files) keys objects
      (λ issuer. subst HasIssuer (sym entries) issuer) (λ are. subst AreFiles (sym files) are)

-- tables are a card's after a sequence counter was drawn
pub drawn_cards : (before after : Tables) (slot : ℕ) (key : KeyRec) → thing_in before.keys.items slot ≡ Some key → keeps_counter key ≡ true
    → SetsKey before after slot (Some (raised_key key)) → key.counter < COUNTER_LIMIT → AreCards before → AreCards after
drawn_cards before after slot key at keeps set below cards =
    cards_after before after set.entries set.files
    (ap (λ (slots : List (Option KeyRec)). length slots) set.keys ∙ length-set before.keys.items slot (Some (raised_key key)))
    (ap (λ (slots : List (Option Object)). length slots) set.objects)
    (λ page said says well. (
      with_counter_raised said (domain_aid before.entries.items key.owner) key.version,
      drawn_says before after slot key at keeps set page said says,
      drawn_well before after slot key at keeps set page said says below well,
    )) cards
