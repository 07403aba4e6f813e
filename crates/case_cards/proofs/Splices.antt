-- For images: bytes that are put in the place of others, and pages that are read one after another.
use Rattle.std.proofs.Common.{◌≡◌, ◌+◌, ◌-◌, ℕ, List, [], ◌∷◌, ◌++◌, length, take, drop, ap, ◌∙◌, add-one, append-nil, drop-drop, take-suc, get_or, arith}
use Rattle.std.specs.Prelude.{Some, slice_get}
use Rattle.std.proofs.lemmas.Grind.{flat_map-append}
use Rattle.std.proofs.lemmas.Option.{get_or_from_slice_get, slice_get_within}
use borrow.Rule.Slice.PartMut.{put_mid}
use Rattle.flash_core.specs.declared.page.Page.{Page}
use Rattle.case_cards.specs.Image.{bytes_of_pages, with_bytes}

pub put_in : (place end : ℕ) (image bytes : List ℕ) → end ≡ place + length bytes → put_mid place (end - place) image bytes ≡ with_bytes image place bytes
put_in place end image bytes at =
    ap (λ l. take place image ++ (bytes ++ l)) (drop-drop (end - place) place image ∙ ap (λ n. drop n image) (omega (arith, at)))

pub next_page : (pages : List Page) (k : ℕ) (page : Page) → slice_get pages k ≡ Some page → bytes_of_pages (take (k + 1) pages) ≡ bytes_of_pages (take k pages) ++ page.bytes
next_page pages k page at =
    ap (λ n. bytes_of_pages (take n pages)) (add-one k)
    ∙ ap (λ l. bytes_of_pages l) (take-suc pages k page (slice_get_within pages k page at))
    ∙ flat_map-append (λ p. p.bytes) (take k pages) (get_or pages k page ∷ [])
    ∙ ap (λ l. bytes_of_pages (take k pages) ++ l) (append-nil _ ∙ ap (λ p. p.bytes) (get_or_from_slice_get pages k page page at))
