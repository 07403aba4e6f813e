-- For the code inside. The next right by slots: of the candidates past the last right, the first that may be done.
use Rattle.std.specs.Prelude.{◌≡◌, ◌≢◌, ℕ, ◌≤◌, List, [], ◌∷◌, Option, None, Some}
use Rattle.std.specs.Cmp.Lexicographic.{slice_cmp}
use Rattle.std.specs.Ordering.{nat_cmp}
use Rattle.std.specs.declared.cmp.Ordering.{Ordering}
use Rattle.std.specs.declared.cmp.Ordering.TheVariants.{Less, Greater}
use Rattle.card_types.specs.Found.{aid_of}
use Rattle.card_types.specs.Registry.{Registry}
use Rattle.card_types.specs.Represents.{domain_aid}
use Rattle.card_types.specs.declared.found.Found.{Found}
use Rattle.card_types.specs.declared.found.Found.TheVariants as found
use Rattle.card_types.specs.declared.tables.Tables.{Tables}
use Rattle.access_matrix.specs.Deeds.{AreUsed, HoldsDomain, deed_of}
use Rattle.access_matrix.specs.May.{May}
use Rattle.access_matrix.specs.Rights.{deed_kind, goal_of, right_key, thing_of}
use Rattle.access_matrix.specs.declared.act.Act.{Act}
use Rattle.access_matrix.specs.declared.candidate.Candidate.{Candidate}
use Rattle.access_matrix.specs.declared.deed.Deed.{Deed}
use Rattle.access_matrix.specs.declared.deed.Right.{Right}

-- the key is past the last one, if there is one
abbrev pub IsPast : {K : Type 0} → (K → K → Ordering) → Option K → K → Type 0
IsPast order None key = Unit {0}
IsPast order (Some last) key = order last key ≡ Less

-- one of those whose key is past the last one, with the least key
pub record IsNextByKey {X K : Type 0} (Has : X → K → Type 0) (order : K → K → Ordering) (last : Option K) (x : X) : Type 0 where
  pub key : K
  pub has : Has x key
  pub past : IsPast order last key
  pub least : (other : X) (another : K) → Has other another → IsPast order last another → order key another ≢ Greater

abbrev pub NoneNext : {X K : Type 0} → (X → K → Type 0) → (K → K → Ordering) → Option K → Type 0
NoneNext {X} {K} Has order last = (x : X) (key : K) → Has x key → IsPast order last key → ⊥

-- the things, the entries, the Executable Load Files and the security domains of a card, by their AIDs
abbrev pub HasThing : Tables → Found → List ℕ → Type 0
HasThing tables thing aid = aid_of tables thing ≡ Some aid

abbrev pub HasEntry : Tables → ℕ → List ℕ → Type 0
HasEntry tables slot aid = aid_of tables (found.Entry slot) ≡ Some aid

abbrev pub HasFile : Tables → ℕ → List ℕ → Type 0
HasFile tables slot aid = aid_of tables (found.File slot) ≡ Some aid

abbrev pub HasDomain : Tables → ℕ → List ℕ → Type 0
HasDomain tables slot aid = HoldsDomain tables slot × (domain_aid tables.entries.items slot ≡ aid)

-- the order of the places of rights, and of parts of them
abbrev pub place_order : List (List ℕ) → List (List ℕ) → Ordering
place_order = slice_cmp (slice_cmp nat_cmp)

-- where a deed stands among those of a kind, and among all
abbrev pub spot_of : Deed → List (List ℕ)
spot_of deed = thing_of deed ∷ goal_of deed ∷ []

abbrev pub deed_place : Deed → List (List ℕ)
deed_place deed = (deed_kind deed ∷ []) ∷ spot_of deed

-- the place of one that needs no new domain
abbrev pub alone : List ℕ → List (List ℕ)
alone aid = aid ∷ [] ∷ []

-- the acts whose slots are used, by the places of their deeds: all, those of a kind, and those from a kind on
abbrev pub HasPlace : Tables → Act → List (List ℕ) → Type 0
HasPlace tables act place = AreUsed tables act × (deed_place (deed_of tables act) ≡ place)

abbrev pub HasSpot : Tables → ℕ → Act → List (List ℕ) → Type 0
HasSpot tables kind act spot = HasPlace tables act ((kind ∷ []) ∷ spot)

abbrev pub HasPlaceFrom : Tables → ℕ → Act → List (List ℕ) → Type 0
HasPlaceFrom tables kind act place = HasPlace tables act place × (kind ≤ deed_kind (deed_of tables act))

-- a candidate by AIDs
abbrev pub right_of : Tables → Candidate → Right
right_of tables candidate = record { domain = domain_aid tables.entries.items candidate.domain; deed = deed_of tables candidate.act }

-- the candidates: a security domain with an act whose slots are used, and these by their places among rights
abbrev pub IsCandidate : Tables → Candidate → Type 0
IsCandidate tables candidate = HoldsDomain tables candidate.domain × AreUsed tables candidate.act

abbrev pub HasCandidate : Tables → Candidate → List (List ℕ) → Type 0
HasCandidate tables candidate place = IsCandidate tables candidate × (right_key (right_of tables candidate) ≡ place)

-- the domain may do what the candidate says
abbrev pub Allows : Registry → Tables → Candidate → Type 0
Allows said tables candidate = May said (domain_aid tables.entries.items candidate.domain) (deed_of tables candidate.act)

-- the candidates that are rights in the registry
abbrev pub HasAllowed : Registry → Tables → Candidate → List (List ℕ) → Type 0
HasAllowed said tables candidate place = HasCandidate tables candidate place × Allows said tables candidate
