-- Class bytes and instructions (ISO/IEC 7816-4:2013, 5.4 and 5.5; GlobalPlatform Card Specification 2.3.1, 11.1.4).
use Rattle.std.specs.Prelude.{◌≡◌, ℕ, Bool, true, false, ◌&&◌, not, List, [], ◌∷◌, ◌++◌, Option, None, Some, if◌then◌else◌, ◌==◌, Contains, MatchOption}
use Rattle.apdu_core.specs.Apdu.{Apdu}
use Rattle.apdu_core.specs.ClassBytes.{off_channel}
use Rattle.policy_machine.specs.declared.class.Class.{Class}
use Rattle.policy_machine.specs.declared.class.Class.TheVariants.{Interindustry, Plain, Secure}
use Rattle.policy_machine.specs.declared.instruction.TheConstants.{SELECT, MANAGE_CHANNEL, GET_DATA, INITIALIZE_UPDATE, EXTERNAL_AUTHENTICATE}

-- the class of a class byte, whatever its channel
abbrev pub class_of : ℕ → Option Class
class_of byte =
    if off_channel byte == 0x00 then Some Interindustry
    else if off_channel byte == 0x80 then Some Plain
    else if off_channel byte == 0x84 then Some Secure
    else None

-- PUT KEY, STORE DATA, DELETE, INSTALL, LOAD and SET STATUS: the instructions of card content management that change the registry
abbrev pub changing : List ℕ
changing = 0xD8 ∷ 0xE2 ∷ 0xE4 ∷ 0xE6 ∷ 0xE8 ∷ 0xF0 ∷ []

-- the instructions of card content management: these, and GET STATUS, which lists it
abbrev pub managing : List ℕ
managing = changing ++ 0xF2 ∷ []

-- the instructions of a class
abbrev pub instructions_of : Class → List ℕ
instructions_of Interindustry = SELECT ∷ MANAGE_CHANNEL ∷ GET_DATA ∷ []
instructions_of Plain = GET_DATA ∷ INITIALIZE_UPDATE ∷ managing
instructions_of Secure = EXTERNAL_AUTHENTICATE ∷ GET_DATA ∷ managing

abbrev pub IsKnown : ℕ → ℕ → Type 0
IsKnown byte ins = MatchOption (class_of byte) ⊥ (λ class. Contains (instructions_of class) ins)

-- with secure messaging
abbrev pub is_secure : Class → Bool
is_secure Secure = true
is_secure class = false

-- card content management outside of secure messaging
abbrev pub IsPlainManagement : Apdu → Type 0
IsPlainManagement command = (class_of command.class ≡ Some Plain) × Contains managing command.ins

-- in secure messaging each command is protected by the session of its channel, but for EXTERNAL AUTHENTICATE, which opens it
abbrev pub protects : Option Class → ℕ → Bool
protects None ins = false
protects (Some class) ins = is_secure class && not (ins == EXTERNAL_AUTHENTICATE)

abbrev pub is_protected : Apdu → Bool
is_protected command = protects (class_of command.class) command.ins

-- GET DATA outside of secure messaging
abbrev pub IsPlainGetData : Apdu → Type 0
IsPlainGetData command = (command.ins ≡ GET_DATA) × MatchOption (class_of command.class) ⊥ (λ class. is_secure class ≡ false)
