-- GET STATUS (GlobalPlatform Card Specification 2.3.1, 11.4): lists things of the registry, in as many parts as it takes. How many bytes a
-- part has is this profile's own.
use Rattle.std.specs.Prelude.{◌≡◌, ◌≢◌, ◌⊎◌, ◌↔◌, ℕ, ◌+◌, ◌++◌, ◌<◌, ◌≤◌, List, [], ◌∷◌, Option, None, Some, Contains, MatchOption, true, codes, length, map, nat_eq, if◌then◌else◌, ◌==◌, ◌&&◌}
use Rattle.std.specs.List.{starts_with}
use Rattle.std.specs.List.Sorted.{IsStrictlySortedBy}
use Rattle.apdu_core.specs.Apdu.{Apdu}
use Rattle.bertlv.specs.Spelling.{AreElements, Element, Spelling}
use Rattle.card_types.specs.Aid.{aid_order, same_aid}
use Rattle.card_types.specs.CardLife.{card_life_code}
use Rattle.card_types.specs.Found.{IsAbove}
use Rattle.card_types.specs.LifeMark.{life_mark_code}
use Rattle.card_types.specs.Privileges.{privilege_bytes}
use Rattle.card_types.specs.Registry.{Entry, LoadFile, Registry}
use Rattle.card_types.specs.declared.factory.TheConstants.{FACTORY_FILE, FACTORY_MODULE, ISSUER}
use Rattle.policy_machine.specs.Admission.{Admitted}
use Rattle.policy_machine.specs.Charge.{HoldsPrivilege, IsAtOrAbove}
use Rattle.policy_machine.specs.CommandForm.{CommandForm, unreceipted_form}
use Rattle.policy_machine.specs.Management.{ManagementFails, acting}
use Rattle.policy_machine.specs.Refusal.{Refusal, refusal}
use Rattle.policy_machine.specs.State.{Effect, Channel, Place, Volatile, channel_at, place_in, with_channel}
use Rattle.policy_machine.specs.declared.get_status.RuleGS.{RuleGS}
use Rattle.policy_machine.specs.declared.get_status.RuleGS.TheVariants.{GS1, GS2}
use Rattle.policy_machine.specs.declared.management.RuleM.TheVariants.{M2}
use Rattle.policy_machine.specs.declared.rule.Rule.{Rule}
use Rattle.policy_machine.specs.declared.rule.Rule.TheVariants.{GS, M}

-- P1 says what is listed, and P2 whether this is the first part (02) or a next one (03)
abbrev pub StatusParameters : ℕ → ℕ → Type 0
StatusParameters p1 p2 =
    ((p1 ≡ 0x80) ⊎ (p1 ≡ 0x40) ⊎ (p1 ≡ 0x20) ⊎ (p1 ≡ 0x10)) × ((p2 ≡ 0x02) ⊎ (p2 ≡ 0x03))

-- a list of tags, which is not read, or nothing
abbrev pub tag_list : Option (List ℕ) → List Element
tag_list None = []
tag_list (Some tags) = record { tag = 0x5C; value = tags } ∷ []

-- the data field: a partial AID, which may be empty, and then a list of tags or nothing
pub record IsSearch (body partial : List ℕ) : Type 0 where
  pub tags : Option (List ℕ)
  pub spelled : AreElements (record { tag = 0x4F; value = partial } ∷ tag_list tags) body
  pub short : length partial ≤ 16

-- what may be listed
pub data Thing : Type 0 where
  AnEntry : Entry → Thing
  AFile : LoadFile → Thing

-- its AID
abbrev pub aid_in : Thing → List ℕ
aid_in (AnEntry entry) = entry.aid
aid_in (AFile file) = file.aid

-- the registry has it
abbrev pub IsIn : Registry → Thing → Type 0
IsIn registry (AnEntry entry) = Contains registry.entries entry
IsIn registry (AFile file) = Contains registry.files file

-- 80 lists the Issuer Security Domain, 40 all other entries, 20 Executable Load Files, and 10 these with their Modules
abbrev pub IsListedBy : ℕ → Thing → Type 0
IsListedBy p1 (AnEntry entry) = ((p1 ≡ 0x80) × (entry.aid ≡ ISSUER)) ⊎ ((p1 ≡ 0x40) × (entry.aid ≢ ISSUER))
IsListedBy p1 (AFile file) = (p1 ≡ 0x20) ⊎ (p1 ≡ 0x10)

-- in the tree of a domain are itself, the entries below it, and the Executable Load Files of all these
abbrev pub IsInTree : Registry → List ℕ → Thing → Type 0
IsInTree registry domain (AnEntry entry) = IsAtOrAbove registry domain entry.aid
IsInTree registry domain (AFile file) = IsAtOrAbove registry domain file.domain

-- the privilege Global Registry (11.1.2)
abbrev pub global_registry : ℕ
global_registry = 0x000400

-- A domain sees what is in its tree, and with Global Registry everything.
abbrev pub Sees : Registry → List ℕ → Thing → Type 0
Sees registry domain thing = IsInTree registry domain thing ⊎ HoldsPrivilege registry global_registry domain

-- The thing is of the kind that P1 names, its AID begins with the partial AID and is above the given one, if one is given, and
-- the domain sees it.
pub record IsListed (registry : Registry) (domain : List ℕ) (p1 : ℕ) (partial : List ℕ) (after : Option (List ℕ)) (thing : Thing) : Type 0 where
  pub there : IsIn registry thing
  pub kind : IsListedBy p1 thing
  pub begins : starts_with nat_eq (aid_in thing) partial ≡ true
  pub above : IsAbove after (aid_in thing)
  pub seen : Sees registry domain thing

-- the place in a listing that the channel had before the command
abbrev pub place_before : Admitted → Option Place
place_before admitted = place_in (channel_at admitted.before.volatile admitted.channel)

-- it is that of a listing with the same P1 and the same data field
abbrev pub IsPlaceOf : Apdu → Place → Type 0
IsPlaceOf command place = (place.kind ≡ command.p1) × (place.body ≡ command.body)

-- the first part begins with the least AID, and a next one goes on above the last AID of the channel's place
abbrev pub BeginsAbove : Admitted → Option (List ℕ) → Type 0
BeginsAbove admitted after =
    ((admitted.command.p2 ≡ 0x02) × (after ≡ None))
    ⊎ ((admitted.command.p2 ≡ 0x03)
    × MatchOption (place_before admitted) ⊥ (λ place. IsPlaceOf admitted.command place × (after ≡ Some place.last)))

-- the thing is to be shown: in this part, or a later one
abbrev pub IsToBeShown : Admitted → Thing → Type 0
IsToBeShown admitted thing =
    (partial : List ℕ) × (after : Option (List ℕ)) × IsSearch admitted.command.body partial × BeginsAbove admitted after
    × IsListed admitted.at.registry (acting admitted) admitted.command.p1 partial after thing

-- all that are to be shown, in ascending order of their AIDs
pub record IsListing (admitted : Admitted) (things : List Thing) : Type 0 where
  pub ascending : IsStrictlySortedBy aid_order (map aid_in things)
  pub all : (thing : Thing) → Contains things thing ↔ IsToBeShown admitted thing

-- the life cycle state: for the Issuer Security Domain it is that of the card, and an Executable Load File is LOADED
abbrev pub status_life : Registry → Thing → ℕ
status_life registry (AnEntry entry) = if same_aid entry.aid ISSUER then card_life_code registry.life else life_mark_code entry.life
status_life registry (AFile file) = 0x01

-- the Modules of an Executable Load File, in a listing with Modules: the card knows that of the factory's file alone
abbrev pub module_parts : ℕ → List ℕ → List Element
module_parts p1 file =
    if p1 == 0x10 && same_aid file FACTORY_FILE then record { tag = 0x84; value = FACTORY_MODULE } ∷ [] else []

-- the AID and the life cycle state, then the privileges and the Executable Load File of an entry or the Modules of a file, and
-- the AID of the security domain
abbrev pub status_parts : Registry → ℕ → Thing → List Element
status_parts registry p1 (AnEntry entry) =
    record { tag = 0x4F; value = entry.aid } ∷ record { tag = 0x9F70; value = status_life registry (AnEntry entry) ∷ [] }
    ∷ record { tag = 0xC5; value = privilege_bytes entry.privileges } ∷ record { tag = 0xC4; value = entry.file }
    ∷ record { tag = 0xCC; value = entry.domain } ∷ []
status_parts registry p1 (AFile file) =
    record { tag = 0x4F; value = file.aid } ∷ record { tag = 0x9F70; value = status_life registry (AFile file) ∷ [] }
    ∷ module_parts p1 file.aid ++ record { tag = 0xCC; value = file.domain } ∷ []

-- the template of a thing (11.4.3.1)
pub record IsTemplate (registry : Registry) (p1 : ℕ) (thing : Thing) (bytes : List ℕ) : Type 0 where
  pub value : List ℕ
  pub parts : AreElements (status_parts registry p1 thing) value
  pub whole : Spelling 0xE3 value bytes

-- the templates of these things, one after the other
abbrev pub AreTemplates : Registry → ℕ → List Thing → List ℕ → Type 0
AreTemplates registry p1 [] bytes = bytes ≡ []
AreTemplates registry p1 (thing ∷ things) bytes =
    (first : List ℕ) × (rest : List ℕ) × IsTemplate registry p1 thing first × AreTemplates registry p1 things rest × (bytes ≡ first ++ rest)

-- a part has whole templates, and no more bytes than a protected reply has room for
abbrev pub part_limit : ℕ
part_limit = 239

-- the first of the things that are left has a template that does not fit after these bytes
abbrev pub IsFullFor : Registry → ℕ → List Thing → List ℕ → Type 0
IsFullFor registry p1 [] bytes = Unit {0}
IsFullFor registry p1 (next ∷ left) bytes = (template : List ℕ) × IsTemplate registry p1 next template × (part_limit < length bytes + length template)

-- the AID of the last of the things, or this one where there is none
abbrev pub last_aid : List ℕ → List Thing → List ℕ
last_aid aid [] = aid
last_aid aid (thing ∷ things) = last_aid (aid_in thing) things

-- an open channel has this place then
abbrev pub channel_at_place : Place → Option Channel → Option Channel
channel_at_place place None = None
channel_at_place place (Some channel) = Some (record { selected = channel.selected; secure_channel = channel.secure_channel; place = Some place })

-- the channel has this place
abbrev pub with_place : Volatile → ℕ → Place → Volatile
with_place volatile number place = with_channel volatile number (channel_at_place place (channel_at volatile number))

-- the place that the channel has once these things were shown
abbrev pub place_after : Admitted → List Thing → Place
place_after admitted shown = record { kind = admitted.command.p1; body = admitted.command.body; last = last_aid [] shown }

-- Where things are left the status word says so, and the channel has a place, at which a next command goes on.
abbrev pub IsLeftAt : Admitted → Effect → List Thing → List Thing → Type 0
IsLeftAt admitted done shown [] = (done.state.volatile ≡ admitted.at.volatile) × (done.status ≡ 0x9000)
IsLeftAt admitted done shown (next ∷ left) =
    (done.state.volatile ≡ with_place admitted.at.volatile admitted.channel (place_after admitted shown)) × (done.status ≡ 0x6310)

abbrev pub get_status_refusal : RuleGS → Refusal
get_status_refusal GS1 = refusal (codes "GS1") 0x6985
get_status_refusal GS2 = refusal (codes "GS2") 0x6A88

abbrev pub get_status_rules : List Rule
get_status_rules = M M2 ∷ GS GS1 ∷ GS GS2 ∷ []

abbrev pub ListingFails : Admitted → RuleGS → Type 0
-- a next part is asked for, and the channel has no place in such a listing
ListingFails admitted GS1 = (admitted.command.p2 ≡ 0x03) × (MatchOption (place_before admitted) ⊥ (IsPlaceOf admitted.command) → ⊥)
-- nothing is to be shown
ListingFails admitted GS2 = (thing : Thing) → IsToBeShown admitted thing → ⊥

abbrev pub GetStatusFails : Admitted → Rule → Type 0
GetStatusFails admitted (M rule) = ManagementFails admitted rule
GetStatusFails admitted (GS rule) = ListingFails admitted rule
GetStatusFails admitted rule = ⊥

-- As many of the things are shown as fit in one part, the least AIDs first. The registry stays as it is.
pub record GetStatusEffect (admitted : Admitted) (done : Effect) : Type 0 where
  pub shown : List Thing
  pub left : List Thing
  pub listing : IsListing admitted (shown ++ left)
  pub body : AreTemplates admitted.at.registry admitted.command.p1 shown done.body
  pub fits : length done.body ≤ part_limit
  pub full : IsFullFor admitted.at.registry admitted.command.p1 left done.body
  pub registry : done.state.registry ≡ admitted.at.registry
  pub left_at : IsLeftAt admitted done shown left

-- GET STATUS
abbrev pub get_status : CommandForm
get_status = unreceipted_form 0xF2 StatusParameters (λ p1 p2 body. (partial : List ℕ) × IsSearch body partial) get_status_rules GetStatusFails GetStatusEffect
