-- For the code inside. What the code keeps of a CAP file.
use Rattle.std.specs.Prelude.{◌≡◌, ℕ, List, length}
use Rattle.apdu_core.specs.Apdu.{Apdu}
use Rattle.cap_pack.specs.Cap.{CapOf, ListsApplets}
use Rattle.cap_pack.specs.Components.{Component}
use Rattle.cap_pack.specs.Pack.{pack}
use Rattle.cap_pack.specs.declared.cap.Cap.{Cap}
use Rattle.cap_pack.specs.declared.component.Component as the_type

-- the component that the code holds
abbrev pub component_of : the_type.Component → Component
component_of held = record { tag = held.tag; content = held.content.now }

-- it is a CAP file with these applets
pub record IsCap (cap : Cap) (aids : List (List ℕ)) : Type 0 where
  pub is : CapOf cap.bytes.now cap.package aids
  pub count : cap.count ≡ length aids
  pub lists : ListsApplets aids cap.applets.now

-- its commands
abbrev pub pack_of : Cap → List (List ℕ) → List Apdu
pack_of cap aids = pack cap.package cap.bytes.now aids
