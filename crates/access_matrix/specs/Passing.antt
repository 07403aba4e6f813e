-- For the code inside. What the functions of this crate say of a deed, by what the tables of a card say.
use Rattle.std.specs.Prelude.{ℕ, Bool, true, false, IsSome, List, None}
use Rattle.apdu_core.specs.Apdu.{Apdu}
use Rattle.card_types.specs.Registry.{Registry}
use Rattle.card_types.specs.Represents.{Represents, thing_in}
use Rattle.card_types.specs.Well.{Well}
use Rattle.card_types.specs.declared.tables.Tables.{Tables}
use Rattle.policy_machine.specs.CommandForm.{FailsFirst}
use Rattle.access_matrix.specs.Commands.{IsCommandOf, form_of}
use Rattle.access_matrix.specs.There.{judged_there}
use Rattle.access_matrix.specs.declared.deed.Deed.{Deed}
use Rattle.access_matrix.specs.declared.deed.Deed.TheVariants.{Delete, Related}

-- `So` holds of each registry that the tables say, of those that a card may have.
abbrev pub ForSaid : Tables → (Registry → Type 0) → Type 0
ForSaid tables So = (page : ℕ → List ℕ) (said : Registry) → Represents page tables said → Well said → So said

-- a slot of the entries is used
abbrev pub IsUsed : Tables → ℕ → Type 0
IsUsed tables slot = IsSome (thing_in tables.entries.items slot)

-- the command of the deed is accepted in a session of the domain
abbrev pub IsDeedAccepted : Registry → List ℕ → Deed → Type 0
IsDeedAccepted registry domain deed =
    (command : Apdu) × IsCommandOf registry domain deed command × FailsFirst (form_of deed) (judged_there registry domain command) None

-- DELETE of a thing, or of an Executable Load File with what comes from it
abbrev pub deletion_of : Bool → List ℕ → Deed
deletion_of true aid = Related aid
deletion_of false aid = Delete aid
