-- Data objects that are put, each in the place of the one with its tag (GlobalPlatform Card Specification 2.3.1, 11.11).
use Rattle.std.specs.List.{fold, list_any}
use Rattle.std.specs.Prelude.{ℕ, List, ◌∷◌, Bool, filter, not, ◌&&◌, ◌==◌, ◌+◌, [], All, cond, length}
use Rattle.bertlv.specs.Spelling.{Element, AreElements}
use Rattle.card_types.specs.Aid.{same_aid}
use Rattle.card_types.specs.Registry.{Object, Registry}
use Rattle.card_types.specs.Well.{IsObject}

abbrev pub is_object_of : List ℕ → ℕ → Object → Bool
is_object_of owner tag object = same_aid object.owner owner && object.tag == tag

-- the objects with one that is put in the place of the one with its tag; of the order nothing is said
abbrev pub with_object : List ℕ → List Object → Element → List Object
with_object owner objects element =
    record { owner = owner; tag = element.tag; value = element.value } ∷ filter (λ object. not (is_object_of owner element.tag object)) objects

-- with several, one after the other: a tag that comes twice has its last value
abbrev pub with_objects : List ℕ → List Object → List Element → List Object
with_objects owner objects elements = fold (with_object owner) objects elements

-- the registry with other data objects
abbrev pub with_data : Registry → List Object → Registry
with_data registry objects = record registry { objects = objects }

-- For the code inside. Data objects as a list of elements, and how many more these make.

-- the bytes are data objects that a domain may have, none or more
abbrev pub AreObjects : List ℕ → Type 0
AreObjects bytes = (elements : List Element) × AreElements elements bytes × All (λ element. IsObject element.tag (length element.value)) elements

-- one of the elements has this tag
abbrev pub has_tag_in : List Element → ℕ → Bool
has_tag_in elements tag = list_any (λ element. element.tag == tag) elements

-- how many of the elements have a tag that is not there yet, each tag counted once
abbrev pub new_tags : (ℕ → Bool) → List Element → ℕ
new_tags there [] = 0
new_tags there (element ∷ elements) = cond (not (there element.tag) && not (has_tag_in elements element.tag)) 1 0 + new_tags there elements
