-- The tables of the factory card say its registry.
use Rattle.std.proofs.Common.{ℕ, List, Option, ap, length, refl}
use Rattle.std.specs.List.Sorted.{IsStrictlySortedBy}
use Rattle.std.proofs.lemmas.List.Sorted.{IsPermutation-refl}
use Rattle.card_types.specs.Factory.{IsFactory, factory_registry}
use Rattle.card_types.specs.Represents.{Represents, HasLayout}
use Rattle.card_types.specs.declared.tables.Entry.{Entry}
use Rattle.card_types.specs.declared.tables.KeyRec.{KeyRec}
use Rattle.card_types.specs.declared.tables.LoadFile.{LoadFile}
use Rattle.card_types.specs.declared.tables.Object.{Object}
use Rattle.card_types.specs.declared.tables.Tables.{Tables}

pub factory_says : (page : ℕ → List ℕ) (tables : Tables) → IsFactory tables → Represents page tables factory_registry
unfolding IsStrictlySortedBy
factory_says page tables is =
    let a = is.first_key in
    let b = is.second_key in
    let c = is.third_key in
    record {
      life = is.life;
      entries = rw (is.entries, is.files) (IsPermutation-refl _);
      files = rw (is.entries, is.files) (IsPermutation-refl _);
      keys = rw (is.keys, is.entries, a.owner, a.version, a.same, a.bytes, b.owner, b.version, b.same, b.bytes, c.owner, c.version, c.same, c.bytes) (IsPermutation-refl _);
      counters = rw (is.keys, is.entries, a.owner, a.version, a.same, a.counter, b.version, b.same, c.version, c.same) (IsPermutation-refl _);
      objects = rw is.objects (IsPermutation-refl _);
      ascending = record {
        entries = (tt, tt);
        files = (tt, tt);
        keys = ((refl, (refl, tt)), ((refl, tt), (tt, tt)));
        counters = (tt, tt);
        objects = tt;
      };
    }

pub factory_layout : (tables : Tables) → IsFactory tables → HasLayout tables
factory_layout tables is = record {
  slots = record {
    entries = ap (λ (slots : List (Option Entry)). length slots) is.entries;
    files = ap (λ (slots : List (Option LoadFile)). length slots) is.files;
    keys = ap (λ (slots : List (Option KeyRec)). length slots) is.keys;
    objects = ap (λ (slots : List (Option Object)). length slots) is.objects;
  };
  issuer = rw is.entries refl;
}
