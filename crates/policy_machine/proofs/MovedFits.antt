-- What a card holds while it has power goes with a registry in which a thing is in another domain.
use Rattle.std.proofs.Common.{◌≡◌, ℕ, List, cond, length, refl, ap, sym, ◌∙◌, arith}
use Rattle.std.specs.Prelude.{map, sum}
use Rattle.std.specs.List.{sum_by}
use Rattle.std.specs.Option.{option_map}
use Rattle.std.proofs.lemmas.Bool.{cond_both}
use Rattle.std.proofs.lemmas.List.{length-map}
use Rattle.std.proofs.lemmas.List.Sums.{sum-map}
use Rattle.card_types.proofs.MappedEntries.{find_mapped, names_mapped, some_keep}
use Rattle.policy_machine.specs.Prelude.{Entry, Fits, LoadFile, Registry, Volatile, pages_of, same_aid, with_thing_in_domain}
use Rattle.policy_machine.proofs.ChangedFits.{mapped_fits}

abbrev size : LoadFile → ℕ
size file = pages_of (length file.bytes)

module _ (registry : Registry) (aid domain : List ℕ) where
  abbrev file_in : LoadFile → LoadFile
  file_in file = cond (same_aid file.aid aid) (record file { domain = domain }) file

  file_aid : (file : LoadFile) → (file_in file).aid ≡ file.aid
  file_aid file = cond_both (same_aid file.aid aid) (record file { domain = domain }) file (λ (f : LoadFile). f.aid ≡ file.aid) (λ _. refl) (λ _. refl)

  file_size : (file : LoadFile) → size (file_in file) ≡ size file
  file_size file = cond_both (same_aid file.aid aid) (record file { domain = domain }) file (λ (f : LoadFile). size f ≡ size file) (λ _. refl) (λ _. refl)

  -- the Executable Load Files are as many, as long, and have the same AIDs
  same_number : length (map file_in registry.files) ≡ length registry.files
  same_number = length-map registry.files file_in

  same_sizes : sum_by size (map file_in registry.files) ≡ sum_by size registry.files
  same_sizes = sym (sum-map size (map file_in registry.files)) ∙ ap sum (names_mapped file_in size file_size registry.files) ∙ sum-map size registry.files

  pub moved_fits : (volatile : Volatile) → Fits registry volatile → Fits (with_thing_in_domain registry aid domain) volatile
  moved_fits volatile =
      mapped_fits registry _ (map file_in registry.files)
      (some_keep (λ other. same_aid other aid) (λ (entry : Entry). record entry { domain = domain }) (record { aid = λ _. refl; file = λ _. refl; privileges = λ _. refl })) volatile
      (λ load free. record {
        no_entry = free;
        no_file = λ none.
            find_mapped file_in (λ (f : LoadFile). same_aid f.aid load.aid) (λ f. ap (λ (a : List ℕ). same_aid a load.aid) (file_aid f)) registry.files
            ∙ ap (option_map file_in) none;
        fewer = omega (arith, same_number);
        smaller = omega (arith, same_sizes);
      })
