-- Load pages that are to be written, one after the other.
use Rattle.std.proofs.Common.{◌≡◌, ◌≢◌, inl, inr, ℕ, List, [], ◌∷◌, ◌++◌, append_assoc, length, refl, ap, sym, subst, ◌∙◌, arith}
use Rattle.std.specs.Prelude.{All, Contains}
use Rattle.std.proofs.lemmas.Bool.{cases_eq}
use Rattle.std.proofs.lemmas.Bool.Decides.{nat_tests}
use Rattle.std.proofs.lemmas.List.{append-nil, map-append}
use Rattle.std.proofs.lemmas.List.Elements.{All-contains, All-head, All-nil, All-push, All-tail, Contains-append_left, Contains-append_right}
use Rattle.card_check.proofs.LoadPagesNamed.{are_none}
use Rattle.load_session.specs.Prelude.{AreTaken, IsFree, IsLoadPage, IsWholePage, PagesStayWhole, TablesSayTheSame, numbers, page_written, pages_after, pages_named, things_in}
use Rattle.card_types.proofs.Members.{contains_first, contains_later}
use Rattle.card_types.specs.declared.tables.Tables.{Tables}
use Rattle.load_session.proofs.PagesKept.{own_next}
use Rattle.load_session.specs.declared.load_write.LoadWrite.{LoadWrite}
use Rattle.rec_store.proofs.Reopening.{says_same}

pub written_here : (page : ℕ → List ℕ) (write : LoadWrite) → page_written page write write.number ≡ write.page.bytes
written_here page write = grind (arith, nat_tests)

pub written_apart : (page : ℕ → List ℕ) (write : LoadWrite) (n : ℕ) → n ≢ write.number → page_written page write n ≡ page n
written_apart page write n apart = grind (arith, nat_tests)

pub loaded_more : (page : ℕ → List ℕ) (writes : List LoadWrite) (write : LoadWrite) → pages_after page (writes ++ write ∷ []) ≡ page_written (pages_after page writes) write
loaded_more page [] write = refl
loaded_more page (first ∷ rest) write = loaded_more (page_written page first) rest write

loaded_apart : (page : ℕ → List ℕ) (writes : List LoadWrite) (n : ℕ) → (Contains (numbers writes) n → ⊥) → pages_after page writes n ≡ page n
loaded_apart page [] n apart = refl
loaded_apart page (first ∷ rest) n apart =
    loaded_apart (page_written page first) rest n (λ there. apart (contains_later first.number (numbers rest) n there))
    ∙ written_apart page first n (λ is. apart (subst (Contains (numbers (first ∷ rest))) (sym is) (contains_first first.number (numbers rest))))

pub pages_stay_whole : PagesStayWhole
pages_stay_whole page [] all has = has
pages_stay_whole page (first ∷ rest) all has =
    pages_stay_whole (page_written page first) rest (All-tail IsWholePage first rest all)
    (λ n. elim (cases_eq n first.number) [
      | inl is ↦ ap (λ m. length (page_written page first m)) is ∙ ap length (written_here page first) ∙ All-head IsWholePage first rest all
      | inr other ↦ ap length (written_apart page first n other) ∙ has n
    ])

pub tables_say_the_same : TablesSayTheSame
tables_say_the_same page tables writes registry free says =
    says_same page (pages_after page writes) tables
    (λ file among n named. loaded_apart page writes n (λ there.
    All-contains (λ file. Contains (pages_named file) n → ⊥) (things_in tables.files.items) file (All-contains (IsFree tables) (numbers writes) n free there) among named))
    registry says

-- a page that was taken before is none of the new ones
abbrev Apart : List ℕ → ℕ → Type 0
Apart taken page = Contains taken page → ⊥

module _ (tables : Tables) (taken pages : List ℕ) where
  pub taken_none : (writes : List LoadWrite) → writes ≡ [] → pages ≡ taken → AreTaken tables taken pages writes
  taken_none writes none same = subst (AreTaken tables taken pages) (sym none) (record {
    new = record {
      own = record { range = All-nil IsLoadPage; apart = are_none.apart; free = All-nil (IsFree tables) };
      apart = All-nil (Apart taken);
      whole = All-nil IsWholePage;
    };
    pages_are = same ∙ sym (append-nil taken);
  })

  -- with one page more, that is free and was not taken
  pub taken_next : (more : List ℕ) (writes then : List LoadWrite) (write : LoadWrite) → more ≡ pages ++ write.number ∷ [] → then ≡ writes ++ write ∷ [] → IsWholePage write
      → IsLoadPage write.number → IsFree tables write.number → (Contains pages write.number → ⊥) → AreTaken tables taken pages writes → AreTaken tables taken more then
  taken_next more writes then write pages_more then_is whole range free apart was =
      let n = write.number in
      let front = numbers writes in
      let last : numbers then ≡ front ++ n ∷ [] = ap numbers then_is ∙ map-append (λ (w : LoadWrite). w.number) writes (write ∷ []) in
      let apart_from = λ (there : Contains (taken ++ front) n). apart (subst (λ list. Contains list n) (sym was.pages_are) there) in
      record {
        new = record {
          own = own_next tables front (numbers then) n last was.new.own range free (λ there. apart_from (Contains-append_right taken front n there));
          apart = subst (All (Apart taken)) (sym last) (All-push (Apart taken) front n was.new.apart (λ there. apart_from (Contains-append_left taken front n there)));
          whole = subst (All IsWholePage) (sym then_is) (All-push IsWholePage writes write was.new.whole whole);
        };
        pages_are = pages_more ∙ ap (λ (list : List ℕ). list ++ n ∷ []) was.pages_are ∙ append_assoc taken front (n ∷ []) ∙ ap (λ (list : List ℕ). taken ++ list) (sym last);
      }
