-- For the code inside. What the code reads of a GET STATUS, and what it finds.
use Rattle.std.specs.Prelude.{◌≡◌, ◌≢◌, ◌⊎◌, ℕ, List, Option, None, Some, if◌then◌else◌, ◌==◌, ◌||◌}
use Rattle.std.specs.Option.{option_map}
use Rattle.std.specs.Ordering.{is_lt}
use Rattle.apdu_core.specs.Apdu.{Apdu}
use Rattle.card_types.specs.Aid.{NotAbove, aid_order}
use Rattle.card_types.specs.Represents.{entry_of, file_of, thing_in}
use Rattle.card_types.specs.declared.factory.TheConstants.{ISSUER}
use Rattle.card_types.specs.declared.found.Found.{Found}
use Rattle.card_types.specs.declared.found.Found.TheVariants as found
use Rattle.card_types.specs.declared.tables.Entry.{Entry}
use Rattle.card_types.specs.declared.tables.LoadFile.{LoadFile}
use Rattle.card_types.specs.declared.tables.Tables.{Tables}
use Rattle.policy_machine.specs.Admission.{Admitted}
use Rattle.policy_machine.specs.GetStatus.{AFile, AnEntry, BeginsAbove, IsListed, IsSearch, StatusParameters, Thing, aid_in, place_before}
use Rattle.policy_machine.specs.Management.{acting}
use Rattle.policy_rules.specs.declared.get_status.ListRequest.{ListRequest}
use Rattle.policy_slots.specs.StateShown.{place_of}
use Rattle.policy_slots.specs.declared.live.Place.{Place}

-- The request is that of a command with this P1, P2 and data field.
pub record IsListRequest (request : ListRequest) (p1 p2 : ℕ) (body : List ℕ) : Type 0 where
  pub parameters : StatusParameters p1 p2
  pub search : IsSearch body request.prefix.now
  pub kind : request.kind ≡ p1
  pub next : request.next ≡ (p2 == 0x03)
  pub whole : request.body.now ≡ body

-- The request is that of this command.
abbrev pub IsListOf : ListRequest → Apdu → Type 0
IsListOf request command = IsListRequest request command.p1 command.p2 command.body

-- what the code keeps is the place that the channel had before the command
abbrev pub IsPlaceBefore : Option Place → Admitted → Type 0
IsPlaceBefore place admitted = option_map place_of place ≡ place_before admitted

-- the slot holds the thing
abbrev pub IsThingAt : (ℕ → List ℕ) → Tables → Found → Thing → Type 0
IsThingAt page tables (found.Entry slot) thing =
    (entry : Entry) × (thing_in tables.entries.items slot ≡ Some entry) × (thing ≡ AnEntry (entry_of tables.entries.items tables.files.items entry))
IsThingAt page tables (found.File slot) thing =
    (file : LoadFile) × (thing_in tables.files.items slot ≡ Some file) × (thing ≡ AFile (file_of page tables.entries.items file))

-- of the things that are listed for a domain, the one with the least AID, in its slot
pub record IsNextListed (page : ℕ → List ℕ) (tables : Tables) (admitted : Admitted) (p1 : ℕ) (partial : List ℕ) (after : Option (List ℕ)) (found : Found)
    : Type 0 where
  pub thing : Thing
  pub at : IsThingAt page tables found thing
  pub listed : IsListed admitted.at.registry (acting admitted) p1 partial after thing
  pub least : (other : Thing) → IsListed admitted.at.registry (acting admitted) p1 partial after other → NotAbove (aid_in thing) (aid_in other)

-- nothing is listed
abbrev pub NoneListed : Admitted → ℕ → List ℕ → Option (List ℕ) → Type 0
NoneListed admitted p1 partial after = (thing : Thing) → IsListed admitted.at.registry (acting admitted) p1 partial after thing → ⊥

-- the first thing to be shown
pub record IsFirstShown (page : ℕ → List ℕ) (tables : Tables) (admitted : Admitted) (request : ListRequest) (found : Found) : Type 0 where
  pub after : Option (List ℕ)
  pub begins : BeginsAbove admitted after
  pub next : IsNextListed page tables admitted request.kind request.prefix.now after found

-- what has this AID is of the kind that P1 names, by the slot that it is in
abbrev pub IsListedAs : ℕ → Found → List ℕ → Type 0
IsListedAs p1 (found.Entry slot) aid = ((p1 ≡ 0x80) × (aid ≡ ISSUER)) ⊎ ((p1 ≡ 0x40) × (aid ≢ ISSUER))
IsListedAs p1 (found.File slot) aid = (p1 ≡ 0x20) ⊎ (p1 ≡ 0x10)

-- what is in a slot, of the slots where what P1 names is
abbrev pub found_in : ℕ → ℕ → Found
found_in p1 slot = if p1 == 0x20 || p1 == 0x10 then found.File slot else found.Entry slot

-- the thing in the slot has this AID and is listed for the domain
pub record IsListedAt (page : ℕ → List ℕ) (tables : Tables) (admitted : Admitted) (p1 : ℕ) (partial : List ℕ) (after : Option (List ℕ)) (found : Found)
    (aid : List ℕ) : Type 0 where
  pub thing : Thing
  pub at : IsThingAt page tables found thing
  pub named : aid_in thing ≡ aid
  pub listed : IsListed admitted.at.registry (acting admitted) p1 partial after thing

-- the thing with this AID, or one before that has no higher AID
abbrev pub lower_of : Option (Found × List ℕ) → Found → List ℕ → Found × List ℕ
lower_of None thing aid = (thing, aid)
lower_of (Some before) thing aid = if is_lt (aid_order aid before.1) then (thing, aid) else before
