-- What a security domain may do with the things of a card.
use Rattle.std.specs.Prelude.{◌≡◌, ◌⊎◌, ℕ, List, true, IsSome, MatchOption}
use Rattle.card_types.specs.Found.{aid_of}
use Rattle.card_types.specs.Registry.{Registry, entry_named, file_named}
use Rattle.card_types.specs.Represents.{domain_aid, file_aid, thing_in}
use Rattle.card_types.specs.Well.{IsDomainNamed}
use Rattle.card_types.specs.declared.found.Found.{Found}
use Rattle.card_types.specs.declared.found.Found.TheVariants as found
use Rattle.card_types.specs.declared.tables.Tables.{Tables}
use Rattle.card_types.specs.Privileges.{has, security_domain}
use Rattle.access_matrix.specs.declared.act.Act.{Act}
use Rattle.access_matrix.specs.declared.act.Act.TheVariants as slot
use Rattle.access_matrix.specs.declared.deed.Deed.{Deed}
use Rattle.access_matrix.specs.declared.deed.Deed.TheVariants.{Delete, Related, Lock, Move, Install, Load}

-- an entry or an Executable Load File has the AID
abbrev pub IsThing : Registry → List ℕ → Type 0
IsThing registry aid = IsSome (entry_named registry aid) ⊎ IsSome (file_named registry aid)

-- the registry has what the deed is about
abbrev pub IsThere : Registry → Deed → Type 0
IsThere registry (Delete aid) = IsThing registry aid
IsThere registry (Related file) = IsSome (file_named registry file)
IsThere registry (Lock aid) = IsSome (entry_named registry aid)
IsThere registry (Move aid domain) = IsThing registry aid × IsDomainNamed registry domain
IsThere registry (Install file) = IsSome (file_named registry file)
IsThere registry Load = Unit {0}

-- the AID of the thing in a slot
abbrev pub found_aid : Tables → Found → List ℕ
found_aid tables (found.Entry slot) = domain_aid tables.entries.items slot
found_aid tables (found.File slot) = file_aid tables.files.items slot

-- an act by slots, as a deed by AIDs
abbrev pub deed_of : Tables → Act → Deed
deed_of tables (slot.Delete thing) = Delete (found_aid tables thing)
deed_of tables (slot.Related file) = Related (file_aid tables.files.items file)
deed_of tables (slot.Lock entry) = Lock (domain_aid tables.entries.items entry)
deed_of tables (slot.Move thing domain) = Move (found_aid tables thing) (domain_aid tables.entries.items domain)
deed_of tables (slot.Install file) = Install (file_aid tables.files.items file)
deed_of tables slot.Load = Load

-- the slot holds a security domain
abbrev pub HoldsDomain : Tables → ℕ → Type 0
HoldsDomain tables slot = MatchOption (thing_in tables.entries.items slot) ⊥ (λ entry. has security_domain entry.privileges ≡ true)

-- the slots of an act are used, that of a new domain by a security domain
abbrev pub AreUsed : Tables → Act → Type 0
AreUsed tables (slot.Delete thing) = IsSome (aid_of tables thing)
AreUsed tables (slot.Related file) = IsSome (thing_in tables.files.items file)
AreUsed tables (slot.Lock entry) = IsSome (thing_in tables.entries.items entry)
AreUsed tables (slot.Move thing domain) = IsSome (aid_of tables thing) × HoldsDomain tables domain
AreUsed tables (slot.Install file) = IsSome (thing_in tables.files.items file)
AreUsed tables slot.Load = Unit {0}
