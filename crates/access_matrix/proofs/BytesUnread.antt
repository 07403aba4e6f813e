-- The bytes of Executable Load Files make no difference to what a domain may do.
use Rattle.std.proofs.Common.{◌≡◌, ℕ, ◌+◌, ◌/◌, List, [], ◌∷◌, Bool, true, false, Option, None, Some, refl, sym, ap, subst}
use Rattle.std.specs.Prelude.{cond, find, map}
use Rattle.std.specs.Option.{option_map}
use Rattle.std.proofs.lemmas.List.{length-map}
use Rattle.std.specs.Prelude.{take}
use Rattle.std.specs.List.{concat}
use Rattle.std.proofs.Math.Seq.{take-nil}
use Rattle.std.specs.List.Sorted.{IsPermutation, IsStrictlySortedBy}
use Rattle.std.proofs.lemmas.List.Sorted.{IsPermutation-map}
use Rattle.card_types.specs.Aid.{aid_order, same_aid}
use Rattle.card_types.specs.Represents.{Represents, domain_aid, file_of, things_in}
use Rattle.card_types.specs.declared.tables.Entry.{Entry as Slot}
use Rattle.card_types.specs.declared.tables.LoadFile.{LoadFile as File}
use Rattle.card_types.specs.declared.tables.Tables.{Tables}
use Rattle.rec_store.proofs.OneRegistry.{said_once}
use Rattle.card_types.proofs.Members.{contains_map, mapped}
use Rattle.card_types.specs.Registry.{LoadFile, Registry}
use Rattle.access_matrix.specs.May.{May}
use Rattle.access_matrix.specs.declared.deed.Deed.{Deed}
use Rattle.access_matrix.proofs.AlikeFiles.{AlikeFile, AreAlikeFiles, may_forth, with_files}

-- a file without its bytes
abbrev bare : LoadFile → LoadFile
bare file = record { aid = file.aid; domain = file.domain; bytes = [] }

bare_found : (aid : List ℕ) (fs : List LoadFile) → find (λ f. same_aid f.aid aid) (map bare fs) ≡ option_map bare (find (λ f. same_aid f.aid aid) fs)
bare_found aid [] = refl
bare_found aid (f ∷ fs) = by (same_aid f.aid aid) (bare_found aid fs)
  where
    by : (b : Bool) → find (λ f. same_aid f.aid aid) (map bare fs) ≡ option_map bare (find (λ f. same_aid f.aid aid) fs)
        → cond b (Some (bare f)) (find (λ f. same_aid f.aid aid) (map bare fs)) ≡ option_map bare (cond b (Some f) (find (λ f. same_aid f.aid aid) fs))
    by true rest = refl
    by false rest = rest

to_bare : (o : Option LoadFile) → AlikeFile o (option_map bare o)
to_bare None = tt
to_bare (Some f) = refl

from_bare : (o : Option LoadFile) → AlikeFile (option_map bare o) o
from_bare None = tt
from_bare (Some f) = refl

alike_bare : (fs : List LoadFile) → AreAlikeFiles fs (map bare fs)
alike_bare fs = record {
  named = λ aid. subst (AlikeFile (find (λ f. same_aid f.aid aid) fs)) (sym (bare_found aid fs)) (to_bare (find (λ f. same_aid f.aid aid) fs));
  members = λ g among. (let file = mapped bare fs g among in (file.0, file.1, ap (λ (h : LoadFile). h.domain) file.2));
  size = sym (length-map fs bare);
}

bare_alike : (fs : List LoadFile) → AreAlikeFiles (map bare fs) fs
bare_alike fs = record {
  named = λ aid. subst (λ (o : Option LoadFile). AlikeFile o (find (λ f. same_aid f.aid aid) fs)) (sym (bare_found aid fs)) (from_bare (find (λ f. same_aid f.aid aid) fs));
  members = λ f among. (bare f, contains_map bare fs f among, refl);
  size = length-map fs bare;
}

abbrev bare_registry : Registry → Registry
bare_registry said = with_files said.life said.entries said.keys said.counters said.objects (map bare said.files)

no_bytes : (pages : List ℕ) → concat (map (λ (page : ℕ). []) pages) ≡ []
no_bytes [] = refl
no_bytes (page ∷ pages) = no_bytes pages

none_taken : (count : ℕ) (bytes : List ℕ) → bytes ≡ [] → take count bytes ≡ []
none_taken count bytes none = rw none (take-nil count)

bare_files : (page : ℕ → List ℕ) (entries : List (Option Slot)) (files : List File) → map bare (map (file_of page entries) files) ≡ map (file_of (λ n. []) entries) files
bare_files page entries [] = refl
bare_files page entries (file ∷ files) =
    let none = none_taken file.len (concat (map (λ (n : ℕ). []) (take ((file.len + 255) / 256) file.pages))) (no_bytes (take ((file.len + 255) / 256) file.pages)) in
    let rest = bare_files page entries files in
    (λ i. record { aid = file.aid; domain = domain_aid entries file.domain; bytes = sym none i } ∷ rest i)

same_names : (files : List LoadFile) → map (λ f. f.aid) (map bare files) ≡ map (λ f. f.aid) files
same_names [] = refl
same_names (file ∷ files) = ap (λ rest. file.aid ∷ rest) (same_names files)

bare_says : (page : ℕ → List ℕ) (tables : Tables) (said : Registry) → Represents page tables said → Represents (λ n. []) tables (bare_registry said)
bare_says page tables said says = record {
  life = says.life;
  entries = says.entries;
  files = subst (λ (files : List LoadFile). IsPermutation files (map bare said.files)) (bare_files page tables.entries.items (things_in tables.files.items))
      (IsPermutation-map bare (map (file_of page tables.entries.items) (things_in tables.files.items)) said.files says.files);
  keys = says.keys;
  counters = says.counters;
  objects = says.objects;
  ascending = record {
    entries = says.ascending.entries;
    files = subst (IsStrictlySortedBy aid_order) (sym (same_names said.files)) says.ascending.files;
    keys = says.ascending.keys;
    counters = says.ascending.counters;
    objects = says.ascending.objects;
  };
}

-- what the one registry of the tables lets a domain do, so does another
pub may_unread : (tables : Tables) (page other : ℕ → List ℕ) (a b : Registry) → Represents page tables a → Represents other tables b
    → (domain : List ℕ) (deed : Deed) → May a domain deed → May b domain deed
may_unread tables page other a b says also domain deed may =
    let same = said_once (λ n. []) tables (bare_registry a) (bare_registry b) (bare_says page tables a says) (bare_says other tables b also) in
    let stripped = may_forth a.life a.entries a.keys a.counters a.objects a.files (map bare a.files) (alike_bare a.files) domain deed may in
    may_forth b.life b.entries b.keys b.counters b.objects (map bare b.files) b.files (bare_alike b.files) domain deed
    (subst (λ (said : Registry). May said domain deed) same stripped)
