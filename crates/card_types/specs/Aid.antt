-- Application identifiers (ISO/IEC 7816-4:2013, chapter 12), as the list of their bytes.
use Rattle.std.specs.Cmp.Lexicographic.{pointwise, slice_cmp}
use Rattle.std.specs.Ordering.{nat_cmp}
use Rattle.std.specs.Prelude.{ℕ, ◌≤◌, List, length, ◌≢◌, Bool, nat_eq}
use Rattle.std.specs.declared.cmp.Ordering.{Ordering}
use Rattle.std.specs.declared.cmp.Ordering.TheVariants.{Greater}

-- the bytes can be an AID: there are 5 to 16
abbrev pub IsAid : List ℕ → Type 0
IsAid bytes = (5 ≤ length bytes) × (length bytes ≤ 16)

-- two are the same
abbrev pub same_aid : List ℕ → List ℕ → Bool
same_aid a b = pointwise nat_eq a b

-- their order is by bytes, a prefix before what it begins
abbrev pub aid_order : List ℕ → List ℕ → Ordering
aid_order a b = slice_cmp nat_cmp a b

-- a is not above b
abbrev pub NotAbove : List ℕ → List ℕ → Type 0
NotAbove a b = aid_order a b ≢ Greater
