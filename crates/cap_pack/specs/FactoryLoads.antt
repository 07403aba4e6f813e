-- A load on the card as it leaves the factory.
use Rattle.std.specs.Prelude.{◌≢◌, ℕ, ◌≤◌, List, length}
use Rattle.card_types.specs.Aid.{IsAid}
use Rattle.card_types.specs.Factory.{factory_registry}
use Rattle.card_types.specs.declared.factory.TheConstants.{FACTORY_FILE, ISSUER}
use Rattle.card_types.specs.declared.limits.TheConstants.{FILE_LIMIT}
use Rattle.cmac_kdf.specs.Blocks.{IsBytes}
use Rattle.policy_machine.specs.Sound.{IsWellOffer}
use Rattle.policy_machine.specs.State.{State, Secured, first_volatile, with_secure_channel}
use Rattle.scp03_card.specs.Session.{Session}
use Rattle.cap_pack.specs.Loads.{MayLoad}

-- the factory card, with a session of its Issuer Security Domain on the basic channel
abbrev pub factory_in_session : Session → State
factory_in_session session = record { registry = factory_registry; volatile = with_secure_channel first_volatile 0 (Secured session) }

-- It may take an Executable Load File of any bytes, so many as there may be, under any AID but the two that it has.
abbrev pub FactoryMayLoad : Type 0
FactoryMayLoad =
    (session : Session) (file bytes : List ℕ) → IsWellOffer session.offer → IsAid file → IsBytes file → file ≢ ISSUER → file ≢ FACTORY_FILE → IsBytes bytes
    → 1 ≤ length bytes → length bytes ≤ FILE_LIMIT → MayLoad (factory_in_session session) 0 session file bytes
