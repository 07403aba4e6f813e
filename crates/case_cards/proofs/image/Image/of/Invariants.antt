use Rattle.std.proofs.Common.{◌≡◌, ◌*◌, length, take}
use Rattle.flash_core.specs.Memory.{medium}
use Rattle.case_cards.specs.Image.{bytes_of_pages}
use Rattle.case_cards.proofs.image.Image.of.Given as goal

abbrev pub invariant-loop-page : goal.invariant-loop-page
invariant-loop-page l = record { read : l.bytes.items ≡ bytes_of_pages (take l.page (medium l.flash).seen); len : length l.bytes.items ≡ l.page * 256 }
