-- Tables after a change of the registry: what a receipt is made from is as it was, and they are a card's over any load pages.
use Rattle.std.proofs.Common.{◌≡◌, ◌≢◌, ◌⊎◌, inl, inr, ℕ, zero, suc, ◌<◌, List, [], ◌∷◌, Option, None, Some, length, refl, ap, subst, sym, ◌∙◌}
use Rattle.std.specs.Prelude.{MatchOption, All, IfSome, map, nat_eq, slice_set}
use Rattle.std.specs.List.{IsDistinct, concat}
use Rattle.std.specs.Option.{option_map}
use Rattle.std.proofs.lemmas.Bool.{cases_eq}
use Rattle.std.proofs.lemmas.List.{get_or-set_other, get_or-set_same, length-set}
use Rattle.std.proofs.lemmas.List.Elements.{All-cons, All-head, All-tail}
use Rattle.card_core.specs.Prelude.{AddsEntry, AreCards, ChangesEntry, HasIssuer, HasKey, IsInLoadPages, KeepsAids, KeepsNumber, KeepsReceipts, MayReceipt, Moves, Registry, Represents, SetsEntry, Well, pages_named, thing_in, things_in}
use Rattle.card_types.proofs.DrawnCounter.{held_within}
use Rattle.card_types.specs.declared.factory.TheConstants.{ISSUER}
use Rattle.card_types.specs.declared.found.Found.{Found}
use Rattle.card_types.specs.declared.found.Found.TheVariants as found
use Rattle.card_types.specs.declared.limits.TheConstants.{RECEIPT_LIMIT}
use Rattle.card_types.specs.declared.tables.Entry.{Entry}
use Rattle.card_types.specs.declared.tables.KeyRec.{KeyRec}
use Rattle.card_types.specs.declared.tables.LoadFile.{LoadFile}
use Rattle.card_types.specs.declared.tables.Object.{Object}
use Rattle.card_types.specs.declared.tables.Tables.{Tables}
use Rattle.card_types.specs.declared.tables.TheConstants.{ISSUER_SLOT}
use Rattle.card_core.proofs.Cards.{AreFiles, IsFactoryIn, cards_from}

module _ (slots : List (Option Entry)) (slot : ℕ) (new : Option Entry) (slots' : List (Option Entry)) (set : slots' ≡ slice_set slots slot new) where
  still : (other : ℕ) (entry : Entry) → other ≢ slot → thing_in slots other ≡ Some entry → thing_in slots' other ≡ Some entry
  still other entry apart at = ap (λ (s : List (Option Entry)). thing_in s other) set ∙ get_or-set_other slots slot other new None apart ∙ at

  there : slot < length slots → thing_in slots' slot ≡ new
  there within = ap (λ (s : List (Option Entry)). thing_in s slot) set ∙ get_or-set_same slots slot new None within

-- entries alone are others, and each used slot holds an entry with the AID and the receipt number that it had
pub record KeepsNumbers (before after : Tables) : Type 0 where
  pub entries : (slot : ℕ) → KeepsNumber before after slot
  pub keys : after.keys.items ≡ before.keys.items
  pub objects : after.objects.items ≡ before.objects.items

module _ (before after : Tables) (keeps : KeepsNumbers before after) where
  pub aids_kept : KeepsAids before.entries.items after.entries.items
  aids_kept slot entry at = (let other = keeps.entries slot entry at in (other.0, other.1, other.2))

  -- what a receipt is made from is as it was
  pub receipts_kept : (receipter : Option ℕ) → KeepsReceipts before after receipter
  receipts_kept receipter = record {
    entry = of receipter;
    keys = λ slot key at. ap (λ (keys : List (Option KeyRec)). thing_in keys slot) (sym keeps.keys) ∙ at;
    objects = λ slot object owner.
        (let same = ap (λ (objects : List (Option Object)). thing_in objects slot) keeps.objects in (λ at. sym same ∙ at, λ at. same ∙ at));
  }
    where
      of : (receipter : Option ℕ) → IfSome receipter (KeepsNumber before after)
      of None = tt
      of (Some slot) = keeps.entries slot

-- who may make a receipt still may
pub may_still : (before after : Tables) (slot : ℕ) → KeepsNumber before after slot
    → ((place : ℕ) → HasKey before.keys.items slot 0x71 1 place → HasKey after.keys.items slot 0x71 1 place) → MayReceipt before slot → MayReceipt after slot
may_still before after slot keeps keys may = record {
  below = by (thing_in before.entries.items slot) refl may.below;
  key = (may.key.0, keys may.key.0 may.key.1);
}
  where
    by : (o : Option Entry) → thing_in before.entries.items slot ≡ o → MatchOption o ⊥ (λ entry. entry.receipts ≢ RECEIPT_LIMIT)
        → MatchOption (thing_in after.entries.items slot) ⊥ (λ entry. entry.receipts ≢ RECEIPT_LIMIT)
    by None at below = absurd below
    by (Some entry) at below =
        (let other = keeps entry at in
        subst (λ (o : Option Entry). MatchOption o ⊥ (λ e. e.receipts ≢ RECEIPT_LIMIT)) (sym other.1) (λ last. below (sym other.3 ∙ last)))

-- an entry joins
pub adding_keeps : (before after : Tables) (slot : ℕ) (entry : Entry) → AddsEntry before after slot entry → KeepsNumbers before after
adding_keeps before after slot entry adds = record {
  entries = λ s e at. elim (cases_eq s slot) [
    | inl same ↦ (let clash : ◌≡◌ {A = Option Entry} (Some e) None = sym at ∙ ap (thing_in before.entries.items) same ∙ adds.free.free in cc)
    | inr other ↦ (e, still before.entries.items slot (Some entry) after.entries.items adds.set.entries s e other at, refl, refl)
  ];
  keys = adds.set.keys;
  objects = adds.set.objects;
}

-- an entry is changed in its slot
module _ (before after : Tables) (slot : ℕ) (change : Entry → Entry) (set : ChangesEntry before after slot change) where
  changed_or_still : (s : ℕ) (e : Entry) → thing_in before.entries.items s ≡ Some e
      → (other : Entry) × (thing_in after.entries.items s ≡ Some other) × ((other ≡ change e) ⊎ (other ≡ e))
  changed_or_still s e at = elim (cases_eq s slot) [
    | inl same ↦
        (let here : thing_in before.entries.items slot ≡ Some e = ap (thing_in before.entries.items) (sym same) ∙ at in
        let new : thing_in after.entries.items slot ≡ Some (change e) =
        there before.entries.items slot (option_map change (thing_in before.entries.items slot)) after.entries.items set.entries (held_within before.entries.items slot e here) ∙ ap (option_map change) here in
        (change e, ap (thing_in after.entries.items) same ∙ new, inl refl))
    | inr other ↦ (e, still before.entries.items slot (option_map change (thing_in before.entries.items slot)) after.entries.items set.entries s e other at, inr refl)
  ]

  -- the entry that is changed has the AID that it had
  pub changing_aids : ((e : Entry) → (change e).aid ≡ e.aid) → KeepsAids before.entries.items after.entries.items
  changing_aids alike s e at =
      let other = changed_or_still s e at in (
        other.0,
        other.1,
        elim other.2 [
          | inl is ↦ ap (λ (o : Entry). o.aid) is ∙ alike e
          | inr is ↦ ap (λ (o : Entry). o.aid) is
        ],
      )

-- the entry that is changed has the receipt number that it had
pub changing_keeps : (before after : Tables) (slot : ℕ) (change : Entry → Entry) → ((e : Entry) → ((change e).aid ≡ e.aid) × ((change e).receipts ≡ e.receipts))
    → ChangesEntry before after slot change → KeepsNumbers before after
changing_keeps before after slot change alike set = record {
  entries = λ s e at.
      (let other = changed_or_still before after slot change set s e at in (
        other.0,
        other.1,
        elim other.2 [
          | inl is ↦ ap (λ (o : Entry). o.aid) is ∙ (alike e).0
          | inr is ↦ ap (λ (o : Entry). o.aid) is
        ],
        elim other.2 [
          | inl is ↦ ap (λ (o : Entry). o.receipts) is ∙ (alike e).1
          | inr is ↦ ap (λ (o : Entry). o.receipts) is
        ],
      ));
  keys = set.keys;
  objects = set.objects;
}

-- a thing goes into another domain
pub moving_keeps : (before after : Tables) (thing : Found) (domain : ℕ) → Moves before after thing domain → KeepsNumbers before after
moving_keeps before after (found.Entry slot) domain set =
    changing_keeps before after slot (λ entry. record entry { domain = domain }) (λ e. (refl, refl)) set
moving_keeps before after (found.File slot) domain set = record {
  entries = λ s e at. (e, ap (λ (slots : List (Option Entry)). thing_in slots s) set.entries ∙ at, refl, refl);
  keys = set.keys;
  objects = set.objects;
}

issuer_kept : (before after : List (Option Entry)) → KeepsAids before after → HasIssuer before → HasIssuer after
issuer_kept before after keeps is = by (thing_in before ISSUER_SLOT) refl is
  where
    by : (o : Option Entry) → thing_in before ISSUER_SLOT ≡ o → MatchOption o ⊥ (λ entry. entry.aid ≡ ISSUER) → HasIssuer after
    by None at is = absurd is
    by (Some entry) at is =
        (let other = keeps ISSUER_SLOT entry at in
        subst (λ (o : Option Entry). MatchOption o ⊥ (λ e. e.aid ≡ ISSUER)) (sym other.1) (other.2 ∙ is))

-- tables with other entries in as many slots are a card's, where they say a registry that a card may have
pub entries_cards : (before after : Tables) → length after.entries.items ≡ length before.entries.items → after.files.items ≡ before.files.items
    → after.keys.items ≡ before.keys.items → after.objects.items ≡ before.objects.items → KeepsAids before.entries.items after.entries.items
    → ((page : ℕ → List ℕ) (said : Registry) → Represents page before said → Well said → (now : Registry) × Represents page after now × Well now)
    → AreCards before → AreCards after
entries_cards before after entries files keys objects keeps each cards =
    cards_from before after
    entries
    (ap (λ (slots : List (Option LoadFile)). length slots) files)
    (ap (λ (slots : List (Option KeyRec)). length slots) keys)
    (ap (λ (slots : List (Option Object)). length slots) objects)
    (issuer_kept before.entries.items after.entries.items keeps)
    (λ are. subst AreFiles (sym files) are)
    each cards

-- tables are a card's after an entry joined, went or was changed
pub entry_cards : (before after : Tables) (slot : ℕ) (entry : Option Entry) → SetsEntry before after slot entry → KeepsAids before.entries.items after.entries.items
    → ((page : ℕ → List ℕ) (said : Registry) → Represents page before said → Well said → (now : Registry) × Represents page after now × Well now)
    → AreCards before → AreCards after
entry_cards before after slot entry set keeps each cards =
    entries_cards before after (ap (λ (slots : List (Option Entry)). length slots) set.entries ∙ length-set before.entries.items slot entry) set.files set.keys set.objects keeps each cards

abbrev pub in_domain : ℕ → LoadFile → LoadFile
in_domain domain file = record file { domain = domain }

-- the pages of the files are the same, with one of them in another domain
pages_alike : (domain : ℕ) (slots : List (Option LoadFile)) (slot : ℕ)
    → map pages_named (things_in (slice_set slots slot (option_map (in_domain domain) (thing_in slots slot)))) ≡ map pages_named (things_in slots)
pages_alike domain [] slot = refl
pages_alike domain (None ∷ slots) zero = refl
pages_alike domain (Some file ∷ slots) zero = refl
pages_alike domain (None ∷ slots) (suc slot) = pages_alike domain slots slot
pages_alike domain (Some file ∷ slots) (suc slot) = ap (λ rest. pages_named file ∷ rest) (pages_alike domain slots slot)

-- what is so of each file, and of each that goes to another domain
pub all_still : (P : LoadFile → Type 0) (domain : ℕ) → ((file : LoadFile) → P file → P (in_domain domain file)) → (slots : List (Option LoadFile)) (slot : ℕ) → All P (things_in slots)
    → All P (things_in (slice_set slots slot (option_map (in_domain domain) (thing_in slots slot))))
all_still P domain goes [] slot all = all
all_still P domain goes (None ∷ slots) zero all = all
all_still P domain goes (Some file ∷ slots) zero all =
    All-cons P (in_domain domain file) (things_in slots) (goes file (All-head P file (things_in slots) all)) (All-tail P file (things_in slots) all)
all_still P domain goes (None ∷ slots) (suc slot) all = all_still P domain goes slots slot all
all_still P domain goes (Some file ∷ slots) (suc slot) all =
    All-cons P file (things_in (slice_set slots slot (option_map (in_domain domain) (thing_in slots slot)))) (All-head P file (things_in slots) all)
    (all_still P domain goes slots slot (All-tail P file (things_in slots) all))

pages_still : (domain : ℕ) (slots : List (Option LoadFile)) (slot : ℕ) → All IsInLoadPages (things_in slots)
    → All IsInLoadPages (things_in (slice_set slots slot (option_map (in_domain domain) (thing_in slots slot))))
pages_still domain = all_still IsInLoadPages domain (λ file is. record { size = is.size; pages = is.pages })

factory_still : (domain : ℕ) (slots : List (Option LoadFile)) (slot : ℕ) → IsFactoryIn slots → IsFactoryIn (slice_set slots slot (option_map (in_domain domain) (thing_in slots slot)))
factory_still domain [] slot is = is
factory_still domain (None ∷ slots) zero is = is
factory_still domain (Some file ∷ slots) zero is = is
factory_still domain (s ∷ slots) (suc slot) is = is

-- tables are a card's after a thing was moved to another domain
pub moved_cards : (before after : Tables) (thing : Found) (domain : ℕ) → Moves before after thing domain
    → ((page : ℕ → List ℕ) (said : Registry) → Represents page before said → Well said → (now : Registry) × Represents page after now × Well now)
    → AreCards before → AreCards after
moved_cards before after (found.Entry slot) domain set each cards =
    entry_cards before after slot (option_map (λ (entry : Entry). record entry { domain = domain }) (thing_in before.entries.items slot)) set
    (aids_kept before after (moving_keeps before after (found.Entry slot) domain set)) each cards
moved_cards before after (found.File slot) domain set each cards =
    cards_from before after
    (ap (λ (slots : List (Option Entry)). length slots) set.entries)
    (ap (λ (slots : List (Option LoadFile)). length slots) set.files ∙ length-set before.files.items slot (option_map (in_domain domain) (thing_in before.files.items slot)))
    (ap (λ (slots : List (Option KeyRec)). length slots) set.keys)
    (ap (λ (slots : List (Option Object)). length slots) set.objects)
    (λ issuer. subst HasIssuer (sym set.entries) issuer)
    (λ files. subst AreFiles (sym set.files) (record {
      factory = factory_still domain before.files.items slot files.factory;
      pages = pages_still domain before.files.items slot files.pages;
      apart = subst (λ (pages : List (List ℕ)). IsDistinct nat_eq (concat pages)) (sym (pages_alike domain before.files.items slot)) files.apart;
    }))
    each cards
