-- The components of a Java Card CAP file, one after the other (Java Card Virtual Machine Specification 3, chapter 6).
use Rattle.std.specs.Prelude.{◌≡◌, ◌≢◌, ◌⊎◌, ℕ, ◌+◌, ◌*◌, ◌<◌, ◌^◌, ◌==◌, List, [], ◌∷◌, ◌++◌, All, length}
use Rattle.std.specs.Int.{to_be_bytes, w16}
use Rattle.std.specs.List.{count_by, flat_map}

-- a component: its tag, and its bytes after tag and size
pub record Component : Type 0 where
  pub tag : ℕ
  pub content : List ℕ

pub record IsComponent (component : Component) : Type 0 where
  pub tag : component.tag ≢ 0
  pub size : length component.content < 2 ^ 16

-- tag, size in two bytes, and the bytes
abbrev pub component_bytes : Component → List ℕ
component_bytes component = component.tag ∷ to_be_bytes w16 (length component.content) ++ component.content

-- the bytes are these components, one after the other, and then the rest
pub record BeginWith (components : List Component) (rest bytes : List ℕ) : Type 0 where
  pub each : All IsComponent components
  pub is : bytes ≡ flat_map component_bytes components ++ rest

-- the bytes are these components, one after the other
abbrev pub AreComponents : List Component → List ℕ → Type 0
AreComponents components bytes = BeginWith components [] bytes

-- the bytes after a tag end before the component does
abbrev pub IsComponentCut : List ℕ → Type 0
IsComponentCut (high ∷ low ∷ content) = length content < 256 * high + low
IsComponentCut bytes = Unit {0}

-- there are bytes, and they begin no component: its tag is 00, or the end cuts it
abbrev pub BeginNone : List ℕ → Type 0
BeginNone [] = ⊥
BeginNone (tag ∷ bytes) = (tag ≡ 0) ⊎ IsComponentCut bytes

-- how many bytes components have, and so where the next one begins
abbrev pub components_size : List Component → ℕ
components_size components = length (flat_map component_bytes components)

-- a component begins at byte n
pub record Stands (n : ℕ) (component : Component) (components : List Component) : Type 0 where
  pub before : List Component
  pub after : List Component
  pub is : components ≡ before ++ component ∷ after
  pub place : n ≡ components_size before

-- how many components have a tag
abbrev pub count_of : ℕ → List Component → ℕ
count_of tag components = count_by (λ component. component.tag == tag) components
