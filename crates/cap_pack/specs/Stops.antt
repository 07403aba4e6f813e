-- Why bytes are no CAP file that can be packed. Which stops there are, and their order, is this profile's own: each says that none before
-- it applies.
use Rattle.std.specs.Prelude.{◌≡◌, ℕ, ◌<◌, ◌≤◌, List, [], ◌∷◌, ◌++◌, length}
use Rattle.cap_pack.specs.Cap.{AreWhole, HasHeader, ListsCounted, NoneRepeats}
use Rattle.cap_pack.specs.Components.{BeginNone, BeginWith, Component, Stands, components_size}
use Rattle.cap_pack.specs.declared.component.TheConstants.{APPLETS}
use Rattle.cap_pack.specs.declared.limit.TheConstants.{CAP_LIMIT}
use Rattle.cap_pack.specs.declared.stop.CapStop.{CapStop}
use Rattle.cap_pack.specs.declared.stop.CapStop.TheVariants.{Large, Component as Broken, Header, Twice, Applets}

-- after whole components, at byte n, bytes are left that begin none
abbrev pub BreakAt : ℕ → List ℕ → Type 0
BreakAt n bytes = (components : List Component) × (rest : List ℕ) × BeginWith components rest bytes × BeginNone rest × (n ≡ components_size components)

-- the first component is a header, of some package
abbrev pub HasSomeHeader : List Component → Type 0
HasSomeHeader components = (file : List ℕ) × HasHeader file components

-- the first component that repeats the tag of a header or of an applet component begins at byte n
abbrev pub RepeatsAt : ℕ → List Component → Type 0
RepeatsAt n components = (component : Component) × (stands : Stands n component components) × NoneRepeats stands.before
    × (NoneRepeats (stands.before ++ component ∷ []) → ⊥)

-- the applet component begins at byte n, and it lists no applets
abbrev pub ListsNoneAt : ℕ → List Component → Type 0
ListsNoneAt n components = (component : Component) × Stands n component components × (component.tag ≡ APPLETS)
    × ((aids : List (List ℕ)) → ListsCounted aids component.content → ⊥)

-- the cause that comes first
abbrev pub StopsPacking : List ℕ → CapStop → Type 0
StopsPacking bytes Large = CAP_LIMIT < length bytes
StopsPacking bytes (Broken n) = (length bytes ≤ CAP_LIMIT) × BreakAt n bytes
StopsPacking bytes Header = AreWhole (λ components. HasSomeHeader components → ⊥) bytes
StopsPacking bytes (Twice n) = AreWhole (λ components. HasSomeHeader components × RepeatsAt n components) bytes
StopsPacking bytes (Applets n) = AreWhole (λ components. HasSomeHeader components × NoneRepeats components × ListsNoneAt n components) bytes
