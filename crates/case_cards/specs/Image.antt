-- For the code inside. The bytes of all pages, one page after another.
use Rattle.std.specs.Prelude.{ℕ, ◌+◌, ◌*◌, List, length, slice_range}
use Rattle.std.specs.List.{splice, flat_map}
use Rattle.flash_core.specs.declared.page.Page.{Page}

-- the bytes of some pages
abbrev pub bytes_of_pages : List Page → List ℕ
bytes_of_pages pages = flat_map (λ page. page.bytes) pages

-- the page with this number
abbrev pub page_of : List ℕ → ℕ → Page
page_of image number = record { bytes = slice_range image (number * 256) (number * 256 + 256) }

-- the bytes with others in the place of those from `place` on
abbrev pub with_bytes : List ℕ → ℕ → List ℕ → List ℕ
with_bytes image place bytes = splice image place (place + length bytes) bytes
