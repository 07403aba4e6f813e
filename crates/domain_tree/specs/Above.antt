-- What is above what, over steps from each thing to the next, as from an entry to its security domain (GlobalPlatform
-- Card Specification 2.3.1, 7.2).
use Rattle.std.specs.Prelude.{◌≡◌, ◌≢◌, ◌⊎◌, Bool, true, List, Option, ◌↔◌, ℕ, IsSome}
use Rattle.card_types.specs.ChangeLaws.{IsOfCard, MayAddEntry, MayMove, MayRemoveEntry}
use Rattle.card_types.specs.Hierarchy.{IsPath}
use Rattle.card_types.specs.Registry.{Entry, Registry, domain_of, entry_named}
use Rattle.card_types.specs.RegistryChange.{IsEntryAdded, with_entries, with_thing_in_domain, without_entry}

-- a is another than b, and steps lead from b to it
pub record Above {A : Type 0} (step : A → Option A) (a b : A) : Type 0 where
  pub other : a ≢ b
  pub path : List A
  pub leads : IsPath step b path a

-- the first above b of those that fit: it is above b, each other one is above it, and it is above none of them
pub record IsFirstAbove {A : Type 0} (step : A → Option A) (fits : A → Bool) (b first : A) : Type 0 where
  pub above : Above step first b
  pub fitting : fits first ≡ true
  pub lowest : (a : A) → Above step a b → fits a ≡ true → (a ≡ first) ⊎ Above step a first
  pub none_lower : (a : A) → Above step a b → fits a ≡ true → Above step first a → ⊥

-- none above b fits
abbrev pub NoneAbove : {A : Type 0} → (A → Option A) → (A → Bool) → A → Type 0
NoneAbove {A} step fits b = (a : A) → Above step a b → fits a ≢ true

-- Which domains are above which after a change of a registry, by names (GlobalPlatform Card Specification 2.3.1, 7.2).

-- a is above b in the registry
abbrev pub IsAboveIn : Registry → List ℕ → List ℕ → Type 0
IsAboveIn registry a b = Above (domain_of registry) a b

-- the test tells the AIDs of the domain and of all that is below it
abbrev pub IsTreeOf : Registry → List ℕ → (List ℕ → Bool) → Type 0
IsTreeOf registry domain these = (aid : List ℕ) → (these aid ≡ true) ↔ ((aid ≡ domain) ⊎ IsAboveIn registry domain aid)

-- above an entry that is added are its domain and those above that
abbrev pub AboveAdded : Type 0
AboveAdded =
    (entry : Entry) (before after : Registry) → IsOfCard before → MayAddEntry before entry → IsEntryAdded entry before after
    → (a : List ℕ) → IsAboveIn after a entry.aid ↔ ((a ≡ entry.domain) ⊎ IsAboveIn before a entry.domain)

-- above any other thing are those as before
abbrev pub AboveOthersOfAdded : Type 0
AboveOthersOfAdded =
    (entry : Entry) (before after : Registry) → IsOfCard before → MayAddEntry before entry → IsEntryAdded entry before after
    → (a b : List ℕ) → b ≢ entry.aid → IsAboveIn after a b ↔ IsAboveIn before a b

-- a change that keeps AIDs and domains leaves who is above whom
abbrev pub AboveChanged : Type 0
AboveChanged =
    (registry : Registry) (these : List ℕ → Bool) (change : Entry → Entry) → ((entry : Entry) → ((change entry).aid ≡ entry.aid) × ((change entry).domain ≡ entry.domain))
    → (a b : List ℕ) → IsAboveIn (with_entries registry these change) a b ↔ IsAboveIn registry a b

-- above an entry that is moved to another thing are the new domain and those above that
abbrev pub AboveMoved : Type 0
AboveMoved =
    (registry : Registry) (aid domain : List ℕ) → IsOfCard registry → MayMove registry aid domain → IsSome (entry_named registry aid) → domain ≢ aid
    → (a : List ℕ) → IsAboveIn (with_thing_in_domain registry aid domain) a aid ↔ ((a ≡ domain) ⊎ IsAboveIn registry a domain)

-- none is above an entry that is its own domain then
abbrev pub NoneAboveRoot : Type 0
NoneAboveRoot =
    (registry : Registry) (aid : List ℕ) → IsOfCard registry → MayMove registry aid aid → IsSome (entry_named registry aid)
    → (a : List ℕ) → IsAboveIn (with_thing_in_domain registry aid aid) a aid → ⊥

-- above what is below a thing that is moved are those up to the thing, and those above it then
abbrev pub AboveBelowMoved : Type 0
AboveBelowMoved =
    (registry : Registry) (aid domain : List ℕ) → IsOfCard registry → MayMove registry aid domain → (a b : List ℕ) → IsAboveIn registry aid b
    → IsAboveIn (with_thing_in_domain registry aid domain) a b ↔ ((IsAboveIn registry a b × (IsAboveIn registry a aid → ⊥)) ⊎ IsAboveIn (with_thing_in_domain registry aid domain) a aid)

-- above any other thing are those as before
abbrev pub AboveOthersOfMoved : Type 0
AboveOthersOfMoved =
    (registry : Registry) (aid domain : List ℕ) → IsOfCard registry → MayMove registry aid domain → (a b : List ℕ) → b ≢ aid → (IsAboveIn registry aid b → ⊥)
    → IsAboveIn (with_thing_in_domain registry aid domain) a b ↔ IsAboveIn registry a b

-- above what is left where an entry is removed are those as before
abbrev pub AboveRemoved : Type 0
AboveRemoved =
    (registry : Registry) (aid : List ℕ) → IsOfCard registry → MayRemoveEntry registry aid → (a b : List ℕ) → b ≢ aid
    → IsAboveIn (without_entry registry aid) a b ↔ IsAboveIn registry a b
