-- For the code inside. A CMAC that is fed its message in pieces.
use Rattle.std.specs.Prelude.{ℕ, List}
use Rattle.cmac_kdf.specs.Blocks.{zero_block, first_blocks}
use Rattle.cmac_kdf.specs.Cmac.{chained, blocks_before_last, last_bytes}

-- what is kept of a message: the chaining value of the blocks before the last, and the bytes from there on
pub record MessageState : Type 0 where
  pub chain : List ℕ
  pub held : List ℕ

-- what is kept of this message under this key
unfoldable pub state_of : List ℕ → List ℕ → MessageState
state_of key message = record {
  chain = chained key zero_block (first_blocks (blocks_before_last message) message);
  held = last_bytes message;
}

-- the bytes of a key, and what is kept of a message under it
pub record MacState : Type 0 where
  pub key : List ℕ
  pub state : MessageState

-- a CMAC of this message under this key
unfoldable pub mac_of : List ℕ → List ℕ → MacState
mac_of key message = record { key = key; state = state_of key message }
