-- The line of an Executable Load File, from its slot and the digest of its bytes.
use Rattle.std.proofs.Common.{◌≡◌, ℕ, ◌+◌, ◌/◌, ◌≤◌, List, [], ◌∷◌, ◌++◌, Option, Some, length, ap, sym, subst, ◌∙◌, arith, length-take}
use Rattle.std.specs.Prelude.{IfSome, map}
use Rattle.std.specs.List.{concat}
use Rattle.std.proofs.lemmas.List.Elements.{All-contains}
use Rattle.card_check.proofs.Counting.{length_of_pages}
use Rattle.card_check.specs.IsCard.{HasPages, IsInLoadPages, pages_named}
use Rattle.card_core.specs.Kept.{AreCards}
use Rattle.card_types.proofs.Shows.{used_from_held}
use Rattle.card_types.specs.Represents.{domain_aid, file_of, things_in, thing_in}
use Rattle.card_types.specs.declared.limits.TheConstants.{FILE_LIMIT}
use Rattle.card_types.specs.declared.tables.Entry.{Entry}
use Rattle.card_types.specs.declared.tables.LoadFile.{LoadFile}
use Rattle.card_types.specs.declared.tables.Tables.{Tables}
use Rattle.gp_tool.specs.Show.{file_content, file_line, file_names}
use Rattle.sha2.specs.Sha256.{sha256}

module _ (page : ℕ → List ℕ) (whole : HasPages page) (entries : List (Option Entry)) (file : LoadFile) (size : file.len ≤ FILE_LIMIT) (array : length file.pages ≡ 128) where
  pub length_of_file : length (file_of page entries file).bytes ≡ file.len
  length_of_file =
      omega (
        arith,
        length-take file.len (concat (map page (pages_named file))),
        length_of_pages page whole (pages_named file),
        length-take ((file.len + 255) / 256) file.pages,
        size,
        array,
      )

  pub file_line_is : (digest : List ℕ) → digest ≡ sha256 (file_of page entries file).bytes
      → file_names file.aid (domain_aid entries file.domain) ++ file_content file.len digest ++ 10 ∷ [] ≡ file_line (file_of page entries file)
  file_line_is digest is =
      ap (λ n. file_names file.aid (domain_aid entries file.domain) ++ file_content n digest ++ 10 ∷ []) (sym length_of_file)
      ∙ ap (λ d. file_names file.aid (domain_aid entries file.domain) ++ file_content (length (file_of page entries file).bytes) d ++ 10 ∷ []) is

-- the line that the code makes of the file in a slot
pub line_of_file : (page : ℕ → List ℕ) → HasPages page → (tables seen : Tables) → seen ≡ tables → AreCards seen
    → (slot : ℕ) (file : LoadFile) → thing_in tables.files.items slot ≡ Some file → length file.pages ≡ 128
    → (digest names line : List ℕ) → IfSome (thing_in tables.files.items slot) (λ f. digest ≡ sha256 (file_of page tables.entries.items f).bytes)
    → names ≡ file_names file.aid (domain_aid seen.entries.items file.domain) → line ≡ names ++ file_content file.len digest ++ 10 ∷ []
    → line ≡ file_line (file_of page tables.entries.items file)
line_of_file page whole tables seen same cards slot file at array digest names line is named spelled =
    let card = subst AreCards same cards page whole in
    let size = (All-contains IsInLoadPages (things_in tables.files.items) file card.of.files (used_from_held tables.files.items slot file at)).size in
    let digested : digest ≡ sha256 (file_of page tables.entries.items file).bytes = rw at at is in
    spelled ∙ ap (λ front. front ++ file_content file.len digest ++ 10 ∷ []) (named ∙ ap (λ (t : Tables). file_names file.aid (domain_aid t.entries.items file.domain)) same)
    ∙ file_line_is page whole tables.entries.items file size array digest digested
