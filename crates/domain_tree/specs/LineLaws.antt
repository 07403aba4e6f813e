-- Which domains are above one thing, by names, and where they stay the same (GlobalPlatform Card Specification 2.3.1, 7.2).
use Rattle.std.specs.Prelude.{◌≡◌, ◌≢◌, ◌⊎◌, ◌↔◌, List, ℕ, Bool, MatchOption}
use Rattle.card_types.specs.ChangeLaws.{IsOfCard}
use Rattle.card_types.specs.Hierarchy.{IsLine}
use Rattle.card_types.specs.Registry.{Entry, Registry, domain_of, entry_named}
use Rattle.card_types.specs.RegistryChange.{IsEntryAdded, with_entries, with_thing_in_domain, without_applications, without_entry}
use Rattle.card_types.specs.Well.{IsDomainNamed}
use Rattle.domain_tree.specs.Above.{IsFirstAbove, NoneAbove, IsAboveIn}

-- of two domains above one thing, one is above the other, unless they are one
abbrev pub AboveCompared : Type 0
AboveCompared =
    (registry : Registry) (a b c : List ℕ) → IsAboveIn registry a c → IsAboveIn registry b c → (a ≡ b) ⊎ IsAboveIn registry a b ⊎ IsAboveIn registry b a

-- what is above a domain is above all that is below the domain
abbrev pub AboveFurther : Type 0
AboveFurther = (registry : Registry) → IsOfCard registry → (a b c : List ℕ) → IsAboveIn registry a b → IsAboveIn registry b c → IsAboveIn registry a c

-- no two are above each other
abbrev pub NotAboveEachOther : Type 0
NotAboveEachOther = (registry : Registry) → IsOfCard registry → (a b : List ℕ) → IsAboveIn registry a b → IsAboveIn registry b a → ⊥

-- one is above another or is not, also where no entry has the AID of either
abbrev pub AboveDecided : Type 0
AboveDecided = (registry : Registry) → IsOfCard registry → (a b : List ℕ) → IsAboveIn registry a b ⊎ (IsAboveIn registry a b → ⊥)

-- a thing has the domain that it had, and so has each one above it
pub record StepsStay (before after : Registry) (b : List ℕ) : Type 0 where
  pub itself : domain_of after b ≡ domain_of before b
  pub above : (a : List ℕ) → IsAboveIn before a b → domain_of after a ≡ domain_of before a

-- The same things are above such a thing as before.
abbrev pub AboveStays : Type 0
AboveStays = (before after : Registry) (b : List ℕ) → StepsStay before after b → (a : List ℕ) → IsAboveIn after a b ↔ IsAboveIn before a b

-- The line of such a thing up to its root is the one that it had.
abbrev pub LineStays : Type 0
LineStays =
    (before after : Registry) (b : List ℕ) → StepsStay before after b → (line : List (List ℕ)) → IsLine (domain_of before) b line → IsLine (domain_of after) b line

-- what does not come from an Executable Load File keeps its domain where the applications of that file go
abbrev pub DomainsAfterApplications : Type 0
DomainsAfterApplications =
    (registry : Registry) (file x : List ℕ) → MatchOption (entry_named registry x) (Unit {0}) (λ entry. entry.file ≢ file)
    → domain_of (without_applications registry file) x ≡ domain_of registry x

-- what is another thing than the entry that goes keeps its domain
abbrev pub DomainsAfterEntry : Type 0
DomainsAfterEntry = (registry : Registry) (aid x : List ℕ) → x ≢ aid → domain_of (without_entry registry aid) x ≡ domain_of registry x

-- what is another thing than the one that is moved keeps its domain
abbrev pub DomainsAfterMove : Type 0
DomainsAfterMove = (registry : Registry) (aid domain x : List ℕ) → x ≢ aid → domain_of (with_thing_in_domain registry aid domain) x ≡ domain_of registry x

-- what is another thing than the entry that is added keeps its domain
abbrev pub DomainsAfterEntryAdded : Type 0
DomainsAfterEntryAdded =
    (entry : Entry) (before after : Registry) → IsOfCard before → IsEntryAdded entry before after → (x : List ℕ) → x ≢ entry.aid → domain_of after x ≡ domain_of before x

-- each thing keeps its domain where entries are changed in neither AID nor domain
abbrev pub DomainsAfterChange : Type 0
DomainsAfterChange =
    (registry : Registry) (these : List ℕ → Bool) (change : Entry → Entry) → ((entry : Entry) → ((change entry).aid ≡ entry.aid) × ((change entry).domain ≡ entry.domain))
    → (x : List ℕ) → domain_of (with_entries registry these change) x ≡ domain_of registry x

-- of the domains that fit there is a first one above a domain, or none above it fits
abbrev pub FirstAboveDecided : Type 0
FirstAboveDecided =
    (registry : Registry) → IsOfCard registry → (fits : List ℕ → Bool) (b : List ℕ) → IsDomainNamed registry b
    → ((first : List ℕ) × IsFirstAbove (domain_of registry) fits b first) ⊎ NoneAbove (domain_of registry) fits b
