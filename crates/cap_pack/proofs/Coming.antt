-- An Executable Load File that comes in blocks on a channel.
use Rattle.std.proofs.Common.{◌≡◌, ℕ, ◌+◌, ◌≤◌, List, ◌∷◌, ◌++◌, length, drop, Option, Some}
use Rattle.apdu_core.specs.Apdu.{Apdu}
use Rattle.apdu_core.specs.ClassBytes.{channel_of, on_channel}
use Rattle.card_types.specs.ChangeLaws.{IsFreeAid}
use Rattle.card_types.specs.Registry.{LoadFile, Registry}
use Rattle.card_types.specs.Well.{pages_of}
use Rattle.card_types.specs.declared.limits.TheConstants.{FILE_LIMIT, LOAD_PAGES}
use Rattle.cmac_kdf.specs.Blocks.{IsBytes}
use Rattle.policy_machine.specs.LoadBlocks.{pages_used}
use Rattle.policy_machine.specs.State.{State, LoadSession, selected_on}
use Rattle.scp03_card.specs.Session.{Session}
use Rattle.scp03_host.specs.Wrapped.{having_sent}
use Rattle.sha2.specs.Sha256.{sha256}
use Rattle.cap_pack.proofs.Admitting.{HasOpen}
use Rattle.cap_pack.proofs.BlocksBrought.{IsAhead}
use Rattle.cap_pack.proofs.Reaching.{Leads, MayLoadInto}

-- the load session in which an Executable Load File comes, as far as it has come
abbrev pub coming : ℕ → (file domain bytes : List ℕ) → Option ℕ → List ℕ → ℕ → LoadSession
coming number file domain bytes announced so_far blocks = record {
  channel = number;
  aid = file;
  domain = domain;
  hash = sha256 bytes;
  announced = announced;
  bytes = so_far;
  blocks = blocks;
}

-- the file may come
pub record MayCome (registry : Registry) (file bytes : List ℕ) : Type 0 where
  pub free : IsFreeAid registry file
  pub some : 1 ≤ length bytes
  pub most : length bytes ≤ FILE_LIMIT
  pub pages : pages_used registry + pages_of (length bytes) ≤ LOAD_PAGES

-- the file comes on the channel, and these bytes of its element are still to come
pub record Comes (state : State) (channel : ℕ) (session : Session) (file domain bytes : List ℕ) (announced : Option ℕ) (so_far rest : List ℕ) (blocks : ℕ) : Type 0 where
  pub has : HasOpen state channel session
  pub into : MayLoadInto state.registry domain
  pub may : MayCome state.registry file bytes
  pub selected : selected_on state.volatile (channel_of (on_channel 0x84 channel)) ≡ domain
  pub load : state.volatile.load ≡ Some (coming (channel_of (on_channel 0x84 channel)) file domain bytes announced so_far blocks)
  pub ahead : IsAhead bytes announced so_far rest
  pub few : blocks ≤ 255
  pub some : 1 ≤ length rest
  pub octets : IsBytes rest

abbrev pub file_with : (file domain bytes : List ℕ) → LoadFile
file_with file domain bytes = record { aid = file; domain = domain; bytes = bytes }

-- after the command the file comes on, and what follows leads from there
pub record GoesOnAs (state : State) (channel : ℕ) (session : Session) (file domain bytes so_far rest : List ℕ) (blocks : ℕ) (command : Apdu) : Type 0 where
  pub next : State
  pub piece : List ℕ
  pub comes : Comes next channel (having_sent session command) file domain bytes (Some (length bytes)) (so_far ++ piece) (drop 239 rest) (blocks + 1)
  pub leads :
      (others : List Apdu) → Leads channel (file_with file domain bytes) next (having_sent session command) others
      → Leads channel (file_with file domain bytes) state session (command ∷ others)
