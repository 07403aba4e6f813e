-- A slot holds at most one thing.
use Rattle.std.proofs.Common.{◌≡◌, ℕ, ◌+◌, ◌%◌, ◌<◌, ◌≤◌, ◌==◌, inl, inr, get_or, Bool, true, false, if◌then◌else◌, List, length, Option, None, Some, refl, ap, sym, ◌∙◌, slice_index, arith, length-take-le}
use Rattle.std.specs.Prelude.{slice_range, take, IfSome}
use Rattle.std.proofs.lemmas.Grind.{same_number_lists, common_steps}
use Rattle.std.proofs.lemmas.Bool.{cases_lt}
use Rattle.std.proofs.lemmas.List.{get_or_past}
use Rattle.byteorder.specs.Endian.{big_from}
use Rattle.card_types.proofs.OneOfCode.{card_life_by_code}
use Rattle.card_types.specs.LifeMark.{life_mark_code}
use Rattle.card_types.specs.Represents.{keeps_counter}
use Rattle.card_types.specs.Well.{pages_of}
use Rattle.card_types.specs.declared.card_life.CardLife.{CardLife}
use Rattle.card_types.specs.declared.life.Life.{Life}
use Rattle.card_types.specs.declared.life.Life.TheVariants.{Installed, Selectable, Personalized}
use Rattle.card_types.specs.declared.life.LifeMark.{LifeMark}
use Rattle.card_types.specs.declared.tables.Entry.{Entry}
use Rattle.card_types.specs.declared.tables.KeyRec.{KeyRec}
use Rattle.card_types.specs.declared.tables.LoadFile.{LoadFile}
use Rattle.card_types.specs.declared.tables.Object.{Object}
use Rattle.rec_store.specs.Bytes.{HasBytesAt}
use Rattle.rec_store.specs.EntrySlot.{HasThreeBytes, HoldsEntry}
use Rattle.rec_store.specs.FileSlot.{HoldsFile, IsFileIn}
use Rattle.rec_store.specs.KeySlot.{HoldsKey}
use Rattle.rec_store.specs.ObjectSlot.{HoldsObject}
use Rattle.rec_store.specs.StoreLayout.{layout_code}
use Rattle.rec_store.specs.Superblock.{IsSuperblock}
use Rattle.rec_store.specs.declared.store_layout.Layout.{Layout}
use Rattle.rec_store.specs.declared.store_layout.Layout.TheVariants.{Second, Third}

pub one_card_life : (bytes : List ℕ) (a b : CardLife) {x y : Layout} → IsSuperblock bytes x a → IsSuperblock bytes y b → a ≡ b
one_card_life bytes a b first second = card_life_by_code a b (sym first.code ∙ second.code)

-- a number is that of one layout
pub one_layout : (a b : Layout) → layout_code a ≡ layout_code b → a ≡ b
one_layout Second Second same = refl
one_layout Second Third same = absurd (omega (arith, same))
one_layout Third Second same = absurd (omega (arith, same))
one_layout Third Third same = refl

life_of : ℕ → Life
life_of n = if n == 0x03 then Installed else (if n == 0x07 then Selectable else Personalized)

mark_of : ℕ → LifeMark
mark_of n = record { life = life_of (n % 0x80); locked = if n % 0x80 == n then false else true }

mark_back : (life : Life) (locked : Bool) → mark_of (life_mark_code (record { life = life; locked = locked })) ≡ record { life = life; locked = locked }
unfolding mark_of life_of
mark_back Installed false = refl
mark_back Selectable false = refl
mark_back Personalized false = refl
mark_back Installed true = refl
mark_back Selectable true = refl
mark_back Personalized true = refl

one_mark : (a b : LifeMark) → life_mark_code a ≡ life_mark_code b → a ≡ b
one_mark a b same = sym (mark_back a.life a.locked) ∙ ap mark_of same ∙ mark_back b.life b.locked

one_bytes : (slot : List ℕ) (at : ℕ) (a b : List ℕ) → HasBytesAt slot at a → HasBytesAt slot at b → a ≡ b
one_bytes slot at a b first second = sym first.after ∙ ap (λ n. slice_range slot (at + 1) (at + 1 + n)) (sym first.count ∙ second.count) ∙ second.after

abbrev pub AreThreeBytes : Option Entry → Type 0
AreThreeBytes entry = IfSome entry HasThreeBytes

pub one_entry : (slot : List ℕ) (a b : Option Entry) → AreThreeBytes a → AreThreeBytes b → HoldsEntry slot a → HoldsEntry slot b → a ≡ b
one_entry slot None None named also first second = refl
one_entry slot None (Some y) named also first second = absurd (omega (arith, first, second.mark))
one_entry slot (Some x) None named also first second = absurd (omega (arith, second, first.mark))
one_entry slot (Some x) (Some y) named also first second =
    let aid : x.aid ≡ y.aid = one_bytes slot 1 x.aid y.aid first.aid.1 second.aid.1 in
    let domain : x.domain ≡ y.domain = sym first.domain ∙ second.domain in
    let file : x.file ≡ y.file = sym first.file ∙ second.file in
    let module_ : x.«module» ≡ y.«module» = one_bytes slot 20 x.«module» y.«module» first.module_ second.module_ in
    let life : x.life ≡ y.life = one_mark x.life y.life (sym first.life ∙ second.life) in
    let bits : x.privileges.0 ≡ y.privileges.0 = omega (arith, named, also, first.privileges, second.privileges) in
    let receipts : x.receipts ≡ y.receipts = sym first.receipts ∙ second.receipts in
    λ i. Some (record { aid = aid i; domain = domain i; file = file i; «module» = module_ i; life = life i; privileges = record { 0 = bits i }; receipts = receipts i })

pub one_key : (slot : List ℕ) (a b : Option KeyRec) → HoldsKey slot a → HoldsKey slot b → a ≡ b
one_key slot None None first second = refl
one_key slot None (Some y) first second = absurd (omega (arith, first, second.mark))
one_key slot (Some x) None first second = absurd (omega (arith, second, first.mark))
one_key slot (Some x) (Some y) first second =
    let owner : x.owner ≡ y.owner = sym first.owner ∙ second.owner in
    let version : x.version ≡ y.version = sym first.version ∙ second.version in
    let identifier : x.identifier ≡ y.identifier = sym first.identifier ∙ second.identifier in
    let bytes : x.bytes.items ≡ y.bytes.items = one_bytes slot 4 x.bytes.items y.bytes.items first.bytes second.bytes in
    let keeps : keeps_counter x ≡ keeps_counter y = cc in
    let counter : x.counter ≡ y.counter = first.counter ∙ ap (λ b. if b then big_from 37 3 slot else 0) keeps ∙ sym second.counter in
    λ i. Some (record { owner = owner i; version = version i; identifier = identifier i; bytes = record { items = bytes i }; counter = counter i })

pub one_object : (slot : List ℕ) (a b : Option Object) → HoldsObject slot a → HoldsObject slot b → a ≡ b
one_object slot None None first second = refl
one_object slot None (Some y) first second = absurd (omega (arith, first, second.mark))
one_object slot (Some x) None first second = absurd (omega (arith, second, first.mark))
one_object slot (Some x) (Some y) first second =
    let owner : x.owner ≡ y.owner = sym first.owner ∙ second.owner in
    let tag : x.tag ≡ y.tag = sym first.tag ∙ second.tag in
    let value : x.value.items ≡ y.value.items = one_bytes slot 4 x.value.items y.value.items first.value second.value in
    λ i. Some (record { owner = owner i; tag = tag i; value = record { items = value i } })

-- of a load directory, all that counts
pub record SameFile (x y : LoadFile) : Type 0 where
  pub aid : x.aid ≡ y.aid
  pub domain : x.domain ≡ y.domain
  pub size : x.len ≡ y.len
  pub pages : take (pages_of x.len) x.pages ≡ take (pages_of y.len) y.pages

long_enough : (file : LoadFile) (slot : List ℕ) → IsFileIn slot file → pages_of file.len ≤ length file.pages
long_enough file slot is = elim (cases_lt (length file.pages) (pages_of file.len)) [
  | inr fits ↦ fits
  | inl short ↦
      (let there = is.pages (length file.pages) short in
      let past : slice_index file.pages (length file.pages) ≡ 0 = get_or_past file.pages (length file.pages) 0 (omega arith) in
      absurd (omega (arith, there, past)))
]

abbrev pub AreSameFiles : Option LoadFile → Option LoadFile → Type 0
AreSameFiles None None = Unit {0}
AreSameFiles None (Some y) = ⊥
AreSameFiles (Some x) None = ⊥
AreSameFiles (Some x) (Some y) = SameFile x y

pub one_file : (slot : List ℕ) (a b : Option LoadFile) → HoldsFile slot a → HoldsFile slot b → AreSameFiles a b
one_file slot None None first second = tt
one_file slot None (Some y) first second = absurd (omega (arith, first, second.mark))
one_file slot (Some x) None first second = absurd (omega (arith, second, first.mark))
one_file slot (Some x) (Some y) first second =
    let size : x.len ≡ y.len = sym first.size ∙ second.size in
    record {
      aid = one_bytes slot 1 x.aid y.aid first.aid.1 second.aid.1;
      domain = sym first.domain ∙ second.domain;
      size = size;
      pages =
          let few : pages_of y.len ≡ pages_of x.len = ap pages_of (sym size) in
          ap (λ n. take n x.pages) (sym few) ∙ same_number_lists (take (pages_of y.len) x.pages) (take (pages_of y.len) y.pages)
          (length-take-le (pages_of y.len) x.pages (omega (arith, few, long_enough x slot first)) ∙ sym (length-take-le (pages_of y.len) y.pages (long_enough y slot second)))
          (λ k lt.
          let within : k < pages_of y.len = omega (arith, lt, length-take-le (pages_of y.len) x.pages (omega (arith, few, long_enough x slot first))) in
          let here : get_or (take (pages_of y.len) x.pages) k 0 ≡ get_or x.pages k 0 = grind (arith, common_steps) in
          let there : get_or (take (pages_of y.len) y.pages) k 0 ≡ get_or y.pages k 0 = grind (arith, common_steps) in
          here ∙ first.pages k (omega (arith, within, few)) ∙ sym (second.pages k within) ∙ sym there);
    }
