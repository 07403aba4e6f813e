-- The laws of LOAD.
use Rattle.std.proofs.Common.{◌≡◌, ◌⊎◌, inl, inr, ℕ, ◌+◌, ◌<◌, ◌≤◌, List, [], ◌∷◌, ◌++◌, Option, None, Some, length, refl, sym, ap, subst, ◌∙◌, arith}
use Rattle.std.specs.Prelude.{Contains, MatchOption}
use Rattle.std.proofs.lemmas.Bool.{eq-eqb}
use Rattle.std.proofs.lemmas.Bool.Decides.{eqb_tells}
use Rattle.std.proofs.lemmas.Cmp.{nat_list_cmp_total, on_total}
use Rattle.std.proofs.lemmas.List.Sorted.{IsPermutation-sym, IsPermutation-trans}
use Rattle.card_types.proofs.AddedThing.{file_added_keeps}
use Rattle.card_types.proofs.ChangeExists.{one_order}
use Rattle.policy_machine.specs.Prelude.{Admitted, BringsBytes, Effect, EndsLoad, Fits, Holds, IsAnswered, IsFileAdded, IsFirst, IsLoadOn, IsOfCard, IsSound, IsWellLoad, JudgesAs, LoadEffect, LoadFails, LoadFile, LoadGoesOn, LoadSession, LoadingFails, MayAddFile, ReceiptFails, Registry, Volatile, aid_order, block_of, delegated_management, file_of_load, load_rules, load_without_channel, loading, managing, no_confirmation, pages_of, pages_used, with_block, without_load}
use Rattle.card_types.specs.declared.limits.TheConstants.{FILE_LIMIT, LOAD_PAGES}
use Rattle.policy_machine.specs.declared.delegation.RuleRC.TheVariants.{RC1}
use Rattle.policy_machine.specs.declared.load.RuleLO.{RuleLO}
use Rattle.policy_machine.specs.declared.load.RuleLO.TheVariants.{LO1, LO2, LO3, LO4, LO5, LO6, LO7, LO8}
use Rattle.policy_machine.specs.declared.rule.Rule.TheVariants.{LO}
use Rattle.policy_machine.proofs.AnsweredKeeps.{answered_fits, answered_keeps, answered_once}
use Rattle.policy_machine.proofs.FirstUnique.{none_fails}
use Rattle.policy_machine.proofs.FitsKept.{fits_kept}
use Rattle.policy_machine.proofs.Lawful.{IsLawful, fits_as, placeless_same, some_same, sound_with, sound_of_card}
use Rattle.policy_machine.proofs.LoadBlocksBrought.{one_brought, some_announced}
use Rattle.policy_machine.proofs.SameEffect.{effect_same, state_same}
use Rattle.policy_machine.proofs.SetChannel.{without_load_fits}

-- where there is no load session, an Executable Load File more changes nothing
files_fit : (before : Registry) (files : List LoadFile) (volatile : Volatile) → volatile.load ≡ None → Fits before volatile
    → Fits (record before { files = files }) volatile
files_fit before files volatile none =
    fits_kept before (record before { files = files }) volatile
    (record { entries = λ aid held is. is; domains = λ aid held is. is; room = λ load at. (let clash = sym none ∙ at in cc) })

-- none of its own rules fails where none fails
pub no_rule : (admitted : Admitted) → IsFirst (LoadFails admitted) load_rules None → (rule : RuleLO) → LoadingFails admitted rule → ⊥
no_rule admitted first rule fails = none_fails (LoadFails admitted) load_rules (LO rule) (among rule) first fails
  where
    among : (rule : RuleLO) → Contains load_rules (LO rule)
    among LO1 = (2, omega arith, refl)
    among LO2 = (3, omega arith, refl)
    among LO3 = (4, omega arith, refl)
    among LO4 = (5, omega arith, refl)
    among LO5 = (6, omega arith, refl)
    among LO6 = (7, omega arith, refl)
    among LO7 = (8, omega arith, refl)
    among LO8 = (9, omega arith, refl)

-- a block that is taken
module _ (admitted : Admitted) (load : LoadSession) (on : IsLoadOn admitted load) (size : ℕ) (bytes : List ℕ)
    (brings : BringsBytes load.announced (block_of admitted.command) size bytes) (passes : (rule : RuleLO) → LoadingFails admitted rule → ⊥)
    (well : IsWellLoad admitted.at.registry admitted.at.volatile load) where
  abbrev next : LoadSession
  next = with_block load size bytes

  some : 1 ≤ size
  some = some_announced load.announced (block_of admitted.command) load.blocks size bytes well.announced brings

  limit : size ≤ FILE_LIMIT
  limit = (let fits : FILE_LIMIT < size → ⊥ = λ above. passes LO4 (load, on, (size, bytes, brings, inl above)) in omega (arith, fits))

  room : pages_used admitted.at.registry + pages_of size ≤ LOAD_PAGES
  room =
      let fits : LOAD_PAGES < pages_used admitted.at.registry + pages_of size → ⊥ = λ above. passes LO4 (load, on, (size, bytes, brings, inr above)) in
      omega (arith, fits)

  within : length (load.bytes ++ bytes) ≤ size
  within = (let fits : size < length (load.bytes ++ bytes) → ⊥ = λ above. passes LO5 (load, on, (size, bytes, brings, inl above)) in omega (arith, fits))

  whole : admitted.command.p1 ≡ 0x80 → length (load.bytes ++ bytes) ≡ size
  whole last = elim (eqb_tells (length (load.bytes ++ bytes)) size) [
    | inl same ↦ same.1
    | inr other ↦ absurd (passes LO5 (load, on, (size, bytes, brings, inr (eq-eqb admitted.command.p1 0x80 last, other.1))))
  ]

  few : load.blocks + 1 ≤ 256
  few =
      let most = well.few_blocks in
      let fits : load.blocks ≡ 256 → ⊥ = λ all. passes LO1 (inr (load, on, all)) in
      omega (arith, most, fits)

  -- the load session goes on
  pub next_fits : Fits admitted.at.registry admitted.at.volatile → Fits admitted.at.registry (record admitted.at.volatile { load = Some next })
  next_fits fits = record {
    channels = fits.channels;
    basic = fits.basic;
    each = fits.each;
    load = record {
      session = well.session;
      aid = well.aid;
      no_entry = well.no_entry;
      no_file = well.no_file;
      domain = well.domain;
      hash = well.hash;
      few_files = well.few_files;
      few_blocks = few;
      announced = ((λ none. absurd (omega arith)), some, limit);
      within = within;
      few_pages = room;
    };
  }

  -- the file may be added
  pub may_be_added : admitted.command.p1 ≡ 0x80 → MayAddFile admitted.at.registry (file_of_load next)
  may_be_added last =
      let is = sym (whole last) in
      record {
        aid = well.aid;
        free = record { no_entry = well.no_entry; no_file = well.no_file };
        room = well.few_files;
        domain = well.domain;
        some = subst (λ (n : ℕ). 1 ≤ n) is some;
        most = subst (λ (n : ℕ). n ≤ FILE_LIMIT) is limit;
        pages = subst (λ (n : ℕ). pages_used admitted.at.registry + pages_of n ≤ LOAD_PAGES) is room;
      }

-- the load session of a channel ends
ended : (number : ℕ) (load : Option LoadSession) (opened : LoadSession) → load ≡ Some opened → opened.channel ≡ number → load_without_channel number load ≡ None
ended number load opened is on =
    let here = eq-eqb opened.channel number on in
    let none : load_without_channel number (Some opened) ≡ None = rw here refl in
    subst (λ (o : Option LoadSession). load_without_channel number o ≡ None) (sym is) none

-- the registry with the file is one that a card may have
pub loaded_of_card : (admitted : Admitted) (load : LoadSession) → IsLoadOn admitted load → (size : ℕ) (bytes : List ℕ)
    → BringsBytes load.announced (block_of admitted.command) size bytes → IsWellLoad admitted.at.registry admitted.at.volatile load
    → IsOfCard admitted.at.registry → admitted.command.p1 ≡ 0x80 → IsFirst (LoadFails admitted) load_rules None → (changed : Registry)
    → IsFileAdded (file_of_load (with_block load size bytes)) admitted.at.registry changed → IsOfCard changed
loaded_of_card admitted load on size bytes brings well of last first changed added =
    file_added_keeps (file_of_load (with_block load size bytes)) admitted.at.registry changed of
    (may_be_added admitted load on size bytes brings (no_rule admitted first) well last) added

-- it leaves a card sound
pub loading_keeps : (admitted : Admitted) (done : Effect) → IsSound admitted.at → JudgesAs loading admitted None → LoadEffect admitted done → IsSound done.state
loading_keeps admitted done sound (takes, first) does = by does.taken
  where
    passes : (rule : RuleLO) → LoadingFails admitted rule → ⊥
    passes rule fails = no_rule admitted first rule fails

    well : IsWellLoad admitted.at.registry admitted.at.volatile does.load
    well = subst (λ (load : Option LoadSession). MatchOption load (Unit {0}) (IsWellLoad admitted.at.registry admitted.at.volatile)) does.on.0 sound.fits.load

    by : LoadGoesOn admitted (with_block does.load does.size does.bytes) done ⊎ EndsLoad admitted (with_block does.load does.size does.bytes) done → IsSound done.state
    by (inl goes) =
        sound_with admitted.at done.state sound goes.registry
        (fits_as refl (sym goes.volatile) (next_fits admitted does.load does.on does.size does.bytes does.brings passes well sound.fits))
    by (inr ends) =
        (let of = sound_of_card sound in
        let changed = loaded_of_card admitted does.load does.on does.size does.bytes does.brings well of ends.last first ends.changed ends.added in
        let receipts : Holds admitted delegated_management → ReceiptFails admitted RC1 → ⊥ = (λ holds fails. passes LO8 (ends.last, holds, fails)) in
        let aids = does.load.aid ∷ does.load.domain ∷ [] in
        let kept = answered_keeps (Holds admitted delegated_management) admitted aids ends.changed no_confirmation done sound.well receipts ends.answered changed in
        let left = without_load admitted.at.volatile admitted.channel in
        let none : left.load ≡ None = ended admitted.channel admitted.at.volatile.load does.load does.on.0 does.on.1 in
        let with_file = fits_as (sym ends.added.same) refl
        (files_fit admitted.at.registry ends.changed.files left none (without_load_fits admitted.at.registry admitted.at.volatile admitted.channel sound.fits)) in
        let fits = answered_fits (Holds admitted delegated_management) admitted aids ends.changed no_confirmation done sound.well receipts ends.answered left with_file in
        record { well = kept.well; ascending = kept.ascending; fits = fits_as refl (sym ends.volatile) fits })

-- the files of a registry to which one is added
one_added : (file : LoadFile) (before a b : Registry) → IsFileAdded file before a → IsFileAdded file before b → a ≡ b
one_added file before a b one other =
    let files : a.files ≡ b.files =
    one_order (λ (x y : LoadFile). aid_order x.aid y.aid) (on_total (λ (f : LoadFile). f.aid) nat_list_cmp_total) a.files b.files one.files.ascending other.files.ascending
    (IsPermutation-trans a.files (file ∷ before.files) b.files (IsPermutation-sym (file ∷ before.files) a.files one.files.same) other.files.same) in
    one.same ∙ ap (λ (fs : List LoadFile). record before { files = fs }) files ∙ sym other.same

abbrev IsTaken : Admitted → LoadSession → Effect → Type 0
IsTaken admitted load done = LoadGoesOn admitted load done ⊎ EndsLoad admitted load done

-- a block is taken in one way
taken_once : (admitted : Admitted) (load : LoadSession) (a b : Effect) → a.status ≡ b.status → IsTaken admitted load a → IsTaken admitted load b → a ≡ b
taken_once admitted load a b status (inl one) (inl other) =
    effect_same a b (state_same a.state b.state (one.registry ∙ sym other.registry) (one.volatile ∙ sym other.volatile)) (one.body ∙ sym other.body) status
taken_once admitted load a b status (inl one) (inr other) = absurd (omega (arith, one.more, other.last))
taken_once admitted load a b status (inr one) (inl other) = absurd (omega (arith, one.last, other.more))
taken_once admitted load a b status (inr one) (inr other) =
    let aids = load.aid ∷ load.domain ∷ [] in
    let changed = one_added (file_of_load load) admitted.at.registry one.changed other.changed one.added other.added in
    let answered = subst (λ (r : Registry). IsAnswered (Holds admitted delegated_management) admitted aids r no_confirmation a) changed one.answered in
    let same = answered_once (Holds admitted delegated_management) admitted aids other.changed no_confirmation a b answered other.answered in
    effect_same a b (state_same a.state b.state same.0 (one.volatile ∙ sym other.volatile)) same.1 status

-- it does one thing
pub loading_one : (admitted : Admitted) (a b : Effect) → LoadEffect admitted a → LoadEffect admitted b → a ≡ b
loading_one admitted a b one other =
    let loads : one.load ≡ other.load = some_same one.load other.load (sym one.on.0 ∙ other.on.0) in
    let brings = subst (λ (l : LoadSession). BringsBytes l.announced (block_of admitted.command) one.size one.bytes) loads one.brings in
    let same = one_brought other.load.announced (block_of admitted.command) one.size other.size one.bytes other.bytes brings other.brings in
    let size = same.0 in
    let bytes = same.1 in
    let next : with_block one.load one.size one.bytes ≡ with_block other.load other.size other.bytes = (λ i. with_block (loads i) (size i) (bytes i)) in
    taken_once admitted (with_block other.load other.size other.bytes) a b (one.status ∙ sym other.status)
    (subst (λ (l : LoadSession). IsTaken admitted l a) next one.taken) other.taken

-- once its instruction is one of those that manage content
pub load_lawful : Contains managing loading.instruction → IsLawful loading
load_lawful managed = record {
  keeps = λ admitted done ready judges does. loading_keeps admitted done ready.sound judges does;
  one = loading_one;
  quiet = λ unmanaged. absurd (unmanaged managed);
  without_place = λ other admitted done none does. elim does.taken [
    | inl goes ↦ placeless_same (record admitted.at.volatile { load = Some (with_block does.load does.size does.bytes) }) done.state.volatile admitted.channel goes.volatile none
    | inr ends ↦ placeless_same (without_load admitted.at.volatile admitted.channel) done.state.volatile admitted.channel ends.volatile none
  ];
}
