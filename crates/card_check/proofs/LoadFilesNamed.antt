-- Executable Load Files, whose pages are marked one file after the other.
use Rattle.std.proofs.Common.{◌≡◌, ℕ, ◌+◌, ◌<◌, ◌≤◌, Bool, false, List, [], ◌∷◌, ◌++◌, length, take, drop, get_or, replicate, Option, None, Some, ap, sym, subst, ◌∙◌}
use Rattle.std.specs.Prelude.{All, Contains, map}
use Rattle.std.specs.List.{concat}
use Rattle.std.proofs.lemmas.List.{append-nil, map-append, take-append-drop, take_all, take_more}
use Rattle.std.proofs.lemmas.List.Elements.{All-contains, All-nil, All-push, Contains-append_left, Contains-append_right, filter_map-append}
use Rattle.std.proofs.lemmas.List.Folds.{concat-append}
use Rattle.card_types.specs.Represents.{things_in}
use Rattle.card_types.specs.declared.limits.TheConstants.{FILE_LIMIT, LOAD_PAGES}
use Rattle.card_types.specs.declared.tables.LoadFile.{LoadFile}
use Rattle.card_types.proofs.Members.{contains_first}
use Rattle.card_check.specs.IsCard.{pages_named}
use Rattle.card_check.specs.LoadPages.{AreLoadPages, HasMarks, HasPageNumbers, HaveLoadPages, all_pages}
use Rattle.card_check.proofs.LoadPagesNamed.{AreMarked, are_front, are_none, no_marks}

abbrev IsShort : LoadFile → Type 0
IsShort file = file.len ≤ FILE_LIMIT

-- The files passed so far are short, and their pages are named and marked.
pub record HaveMarks (marks : List Bool) (files : List (Option LoadFile)) : Type 0 where
  pub arrays : All HasPageNumbers (things_in files)
  pub lengths : All (λ file. file.len ≤ FILE_LIMIT) (things_in files)
  pub marked : AreMarked marks (all_pages files)

pages_append : (files others : List (Option LoadFile)) → all_pages (files ++ others) ≡ all_pages files ++ all_pages others
pages_append files others =
    ap (λ (fs : List LoadFile). concat (map pages_named fs)) (filter_map-append (λ file. file) files others)
    ∙ ap concat (map-append pages_named (things_in files) (things_in others)) ∙ concat-append (map pages_named (things_in files)) (map pages_named (things_in others))

pages_file : (files : List (Option LoadFile)) (file : LoadFile) → all_pages (files ++ Some file ∷ []) ≡ all_pages files ++ pages_named file
pages_file files file = pages_append files (Some file ∷ []) ∙ ap (λ (ps : List ℕ). all_pages files ++ ps) (append-nil (pages_named file))

pages_free : (files : List (Option LoadFile)) → all_pages (files ++ None ∷ []) ≡ all_pages files
pages_free files = pages_append files (None ∷ []) ∙ append-nil (all_pages files)

pub have_none : HaveMarks (replicate LOAD_PAGES false) []
have_none = record { arrays = All-nil HasPageNumbers; lengths = All-nil IsShort; marked = record { marked = no_marks; are = are_none } }

module _ (files : List (Option LoadFile)) where
  pub files_go_on : (marks before : List Bool) (i : ℕ) (file : LoadFile) → i < length files → get_or files i None ≡ Some file → HaveMarks before (take i files)
      → HasPageNumbers file → file.len ≤ FILE_LIMIT → AreLoadPages (all_pages (take i files) ++ pages_named file) → HasMarks marks (all_pages (take i files) ++ pages_named file)
      → HaveMarks marks (take (i + 1) files)
  files_go_on marks before i file within at have array short are has =
      let more : take i files ++ Some file ∷ [] ≡ take (i + 1) files = sym (take_more files i None within ∙ ap (λ (slot : Option LoadFile). take i files ++ slot ∷ []) at) in
      subst (HaveMarks marks) more (record {
        arrays = subst (All HasPageNumbers) (sym (filter_map-append (λ file. file) (take i files) (Some file ∷ []))) (All-push HasPageNumbers (things_in (take i files)) file have.arrays array);
        lengths = subst (All IsShort) (sym (filter_map-append (λ file. file) (take i files) (Some file ∷ []))) (All-push IsShort (things_in (take i files)) file have.lengths short);
        marked = subst (AreMarked marks) (sym (pages_file (take i files) file)) (record { marked = has; are = are });
      })

  pub files_pass : (marks : List Bool) (i : ℕ) → i < length files → get_or files i None ≡ None → HaveMarks marks (take i files) → HaveMarks marks (take (i + 1) files)
  files_pass marks i within free have =
      let more : take i files ++ None ∷ [] ≡ take (i + 1) files = sym (take_more files i None within ∙ ap (λ (slot : Option LoadFile). take i files ++ slot ∷ []) free) in
      subst (HaveMarks marks) more (record {
        arrays = subst (All HasPageNumbers) (sym (filter_map-append (λ file. file) (take i files) (None ∷ []) ∙ append-nil (things_in (take i files)))) have.arrays;
        lengths = subst (All IsShort) (sym (filter_map-append (λ file. file) (take i files) (None ∷ []) ∙ append-nil (things_in (take i files)))) have.lengths;
        marked = subst (AreMarked marks) (sym (pages_free (take i files))) have.marked;
      })

  pub files_end : (marks : List Bool) (i : ℕ) → length files ≤ i → HaveMarks marks (take i files) → HaveMarks marks files
  files_end marks i past have = subst (HaveMarks marks) (take_all i files past) have

  -- where the files have load pages, so have those up to one of them
  pub file_has : (i : ℕ) (file : LoadFile) → i < length files → get_or files i None ≡ Some file → HaveLoadPages files
      → (file.len ≤ FILE_LIMIT) × AreLoadPages (all_pages (take i files) ++ pages_named file)
  file_has i file within at have =
      let split : files ≡ (take i files ++ Some file ∷ []) ++ drop (i + 1) files =
      sym (take-append-drop (i + 1) files) ∙ ap (λ (fs : List (Option LoadFile)). fs ++ drop (i + 1) files) (take_more files i None within ∙ ap (λ (slot : Option LoadFile). take i files ++ slot ∷ []) at) in
      let whole = subst HaveLoadPages split have in
      let front = take i files ++ Some file ∷ [] in (
        All-contains IsShort (things_in (front ++ drop (i + 1) files)) file whole.lengths
            (subst (λ (fs : List LoadFile). Contains fs file) (sym (filter_map-append (λ file. file) front (drop (i + 1) files)))
            (Contains-append_left (things_in front) (things_in (drop (i + 1) files)) file
            (subst (λ (fs : List LoadFile). Contains fs file) (sym (filter_map-append (λ file. file) (take i files) (Some file ∷ [])))
            (Contains-append_right (things_in (take i files)) (file ∷ []) file (contains_first file []))))),
        subst AreLoadPages (pages_file (take i files) file) (are_front (all_pages front) (all_pages (drop (i + 1) files)) (subst AreLoadPages (pages_append front (drop (i + 1) files)) whole.pages)),
      )
