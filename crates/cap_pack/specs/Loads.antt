-- A load of an Executable Load File by the commands that pack makes, on a card that may take it.
use Rattle.std.specs.Prelude.{◌≡◌, ◌≢◌, ℕ, ◌+◌, ◌<◌, ◌≤◌, List, [], ◌∷◌, None, Some, MatchOption, false, length}
use Rattle.apdu_core.specs.Apdu.{Apdu}
use Rattle.apdu_core.specs.ClassBytes.{IsBasicChannel}
use Rattle.card_types.specs.Aid.{IsAid}
use Rattle.card_types.specs.ChangeLaws.{IsFreeAid}
use Rattle.card_types.specs.Privileges.{authorized_management}
use Rattle.card_types.specs.Registry.{LoadFile, entry_named}
use Rattle.card_types.specs.RegistryChange.{IsFileAdded}
use Rattle.card_types.specs.Well.{pages_of}
use Rattle.card_types.specs.declared.card_life.CardLife.TheVariants.{Locked, Terminated}
use Rattle.card_types.specs.declared.limits.TheConstants.{FILES, FILE_LIMIT, LOAD_PAGES}
use Rattle.cmac_kdf.specs.Blocks.{IsBytes}
use Rattle.policy_machine.specs.Charge.{HoldsPrivilege}
use Rattle.policy_machine.specs.LoadBlocks.{pages_used}
use Rattle.policy_machine.specs.Run.{Input, Run}
use Rattle.policy_machine.specs.Run as run
use Rattle.policy_machine.specs.Sound.{IsSound}
use Rattle.policy_machine.specs.State.{State, selected_on, session_on}
use Rattle.policy_machine.specs.Step.{Outcome}
use Rattle.scp03_card.specs.Protected.{session_reply}
use Rattle.scp03_card.specs.Session.{Session}
use Rattle.scp03_host.specs.Wrapped.{having_sent, wrapped_command}
use Rattle.script_tool.specs.Command.{command_bytes}
use Rattle.cap_pack.specs.Pack.{load_commands}

-- commands that a host sends on a channel, each in the session that the ones before have left
abbrev pub sent_in : Session → ℕ → List Apdu → List Input
sent_in session channel [] = []
sent_in session channel (command ∷ commands) =
    run.Command (command_bytes (wrapped_command session command channel)) ∷ sent_in (having_sent session command) channel commands

-- each is accepted, and the reply is 00 with 9000, protected by the session that has the command
abbrev pub AreAccepted : Session → List Apdu → List Outcome → Type 0
AreAccepted session [] [] = Unit {0}
AreAccepted session (command ∷ commands) (outcome ∷ outcomes) =
    (outcome.rule ≡ None)
    × (outcome.reply ≡ session_reply (having_sent session command) (0x00 ∷ []) 0x9000)
    × AreAccepted (having_sent session command) commands outcomes
AreAccepted session commands outcomes = ⊥

-- The domain that is selected on a channel may load: it is not locked, it manages content in its own right, and the host has a session
-- with it.
pub record MayLoadOn (state : State) (channel : ℕ) (session : Session) : Type 0 where
  pub low : IsBasicChannel channel
  pub in_session : session_on state.volatile channel ≡ Some session
  pub manages : HoldsPrivilege state.registry authorized_management (selected_on state.volatile channel)
  pub unlocked : MatchOption (entry_named state.registry (selected_on state.volatile channel)) ⊥ (λ entry. entry.life.locked ≡ false)

-- The card has room for the Executable Load File with this AID and these bytes.
pub record HasRoomFor (state : State) (file bytes : List ℕ) : Type 0 where
  pub few : length state.registry.files < FILES
  pub some : 1 ≤ length bytes
  pub most : length bytes ≤ FILE_LIMIT
  pub pages : pages_used state.registry + pages_of (length bytes) ≤ LOAD_PAGES

-- A card may take an Executable Load File on a channel: it is neither locked nor terminated, no file comes on another channel, and nothing
-- has the AID.
pub record MayLoad (state : State) (channel : ℕ) (session : Session) (file bytes : List ℕ) : Type 0 where
  pub sound : IsSound state
  pub unlocked : state.registry.life ≢ Locked
  pub alive : state.registry.life ≢ Terminated
  pub idle : MatchOption state.volatile.load (Unit {0}) (λ load. load.channel ≡ channel)
  pub on : MayLoadOn state channel session
  pub aid : IsAid file
  pub named : IsBytes file
  pub free : IsFreeAid state.registry file
  pub octets : IsBytes bytes
  pub room : HasRoomFor state file bytes

-- the Executable Load File that comes so, in the domain that is selected on the channel
abbrev pub loaded_file : State → ℕ → (file bytes : List ℕ) → LoadFile
loaded_file state channel file bytes = record { aid = file; domain = selected_on state.volatile channel; bytes = bytes }

-- each command was accepted, and the registry has the file besides, with exactly these bytes
pub record IsFileLoaded (state : State) (channel : ℕ) (session : Session) (file bytes : List ℕ) (outcomes : List Outcome) (last : State) : Type 0 where
  pub accepted : AreAccepted session (load_commands file bytes) outcomes
  pub added : IsFileAdded (loaded_file state channel file bytes) state.registry last.registry

-- the run of these commands
abbrev pub LoadRun : State → ℕ → Session → (file bytes : List ℕ) → List Outcome → State → Type 0
LoadRun state channel session file bytes = Run state (sent_in session channel (load_commands file bytes))

-- A card that may take an Executable Load File takes it whole: the commands that load it have a run that does so.
abbrev pub LoadsWhole : Type 0
LoadsWhole =
    (state : State) (channel : ℕ) (session : Session) (file bytes : List ℕ) → MayLoad state channel session file bytes
    → (outcomes : List Outcome) × (last : State) × LoadRun state channel session file bytes outcomes last × IsFileLoaded state channel session file bytes outcomes last

-- Each run that these commands have loads the file whole, since from one state the same inputs have at most one run.
abbrev pub AlwaysLoadsWhole : Type 0
AlwaysLoadsWhole =
    (state : State) (channel : ℕ) (session : Session) (file bytes : List ℕ) → MayLoad state channel session file bytes
    → (outcomes : List Outcome) (last : State) → LoadRun state channel session file bytes outcomes last → IsFileLoaded state channel session file bytes outcomes last
