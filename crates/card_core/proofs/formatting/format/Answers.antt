use Rattle.std.proofs.Common.{◌≡◌, ℕ, zero, suc, ◌-◌, ◌<◌, ◌^◌, List, [], ◌∷◌, ◌++◌, length, Option, None, Some, refl, ap, arith}
use Rattle.std.specs.Global.{Vec}
use Rattle.std.specs.List.{IsDistinct}
use Rattle.std.specs.Prelude.{replicate}
use Rattle.std.proofs.lemmas.List.Elements.{All-cons, All-nil}
use denote.RawPtr.{null_ptr}
use Rattle.card_core.specs.Prelude.{HasFirst, IsCard, IsFactory, IsFactoryKey, IsInLoadPages, IsLoadPage, factory_entry, factory_file, factory_registry, load_page, thing_in}
use Rattle.card_types.proofs.FactoryRegistry.{factory_layout, factory_says}
use Rattle.card_types.proofs.FactoryWell.{factory_well}
use Rattle.card_types.specs.declared.card_life.CardLife.TheVariants.{OpReady}
use Rattle.card_types.specs.declared.limits.TheConstants.{ENTRIES, FILES, KEYS, OBJECTS}
use Rattle.card_types.specs.declared.tables.Entry.{Entry}
use Rattle.card_types.specs.declared.tables.KeyRec.{KeyRec}
use Rattle.card_types.specs.declared.tables.LoadFile.{LoadFile}
use Rattle.card_types.specs.declared.tables.Tables.{Tables}
use Rattle.card_core.proofs.formatting.format.Goals as goal

-- a vector of these things
abbrev vec_of : {T : Type 0} (items : List T) (count : ℕ) → count ≡ length items → count < 2 ^ 63 → Vec T
vec_of items count is small = record { ptr = null_ptr; len = count; cap = count; alloc = record { memory = record { seal = tt } }; items = items; ok = (is, omega arith); small = small }

free : {T : Type 0} (count slot : ℕ) → thing_in {T = T} (replicate count None) slot ≡ None
free zero slot = refl
free (suc count) zero = refl
free (suc count) (suc slot) = free count slot

-- things in the first slots, and free slots after them
behind : {T : Type 0} (things : List (Option T)) (count slot : ℕ) → thing_in (things ++ replicate count None) slot ≡ thing_in things slot
behind [] count slot = free count slot
behind (thing ∷ things) count zero = refl
behind (thing ∷ things) count (suc slot) = behind things count slot

module _ (domain : Entry) (file : LoadFile) (first second third : KeyRec) where
  abbrev tables : Tables
  tables = record {
    life = OpReady;
    entries = vec_of (Some domain ∷ replicate (ENTRIES - 1) None) ENTRIES refl (omega arith);
    files = vec_of (Some file ∷ replicate (FILES - 1) None) FILES refl (omega arith);
    keys = vec_of (Some first ∷ Some second ∷ Some third ∷ replicate (KEYS - 3) None) KEYS refl (omega arith);
    objects = vec_of (replicate OBJECTS None) OBJECTS refl (omega arith);
  }

  in_first : HasFirst tables OpReady (Some domain ∷ []) (Some file ∷ []) (Some first ∷ Some second ∷ Some third ∷ []) []
  in_first = record {
    slots = record { entries = refl; files = refl; keys = refl; objects = refl };
    life = refl;
    entries = behind (Some domain ∷ []) (ENTRIES - 1);
    files = behind (Some file ∷ []) (FILES - 1);
    keys = behind (Some first ∷ Some second ∷ Some third ∷ []) (KEYS - 3);
    objects = behind [] OBJECTS;
  }

  is_factory : domain ≡ factory_entry → file ≡ factory_file → IsFactoryKey 1 first → IsFactoryKey 2 second → IsFactoryKey 3 third → IsFactory tables
  is_factory is_domain is_file is_first is_second is_third = record {
    life = refl;
    entries = ap (λ (entry : Entry). Some entry ∷ replicate (ENTRIES - 1) None) is_domain;
    files = ap (λ (one : LoadFile). Some one ∷ replicate (FILES - 1) None) is_file;
    first = first;
    second = second;
    third = third;
    first_key = is_first;
    second_key = is_second;
    third_key = is_third;
    keys = refl;
    objects = refl;
  }

-- the tables of the factory card are a card's
factory_card : (load : ℕ → List ℕ) (t : Tables) → IsFactory t → IsCard load t
unfolding IsDistinct
factory_card load t is = record {
  said = factory_registry;
  of = record {
    layout = factory_layout t is;
    factory_file = rw is.files (refl, refl);
    files = rw is.files (All-cons IsInLoadPages factory_file [] (record { size = omega arith; pages = All-nil IsLoadPage }) (All-nil IsInLoadPages));
    apart = rw is.files tt;
    says = factory_says load t is;
    well = factory_well;
  };
}

pub returns-clause-keeps : goal.returns-clause-keeps
returns-clause-keeps g c told =
    let load = load_page (g.F.Flash.pages c.lay_out.new.flash) in
    let domain = c.issuer_domain.result in
    let file = c.factory_file.result in
    let first = c.factory_key.result in
    let second = c.factory_key-2.result in
    let third = c.factory_key-3.result in
    let t = tables domain file first second third in
    let is = is_factory domain file first second third c.issuer_domain.ensures c.factory_file.ensures c.factory_key.ensures c.factory_key-2.ensures c.factory_key-3.ensures in
    c.lay_out.ensures.keeps told t factory_registry (in_first domain file first second third) (factory_card load t is) (factory_says load t is)
