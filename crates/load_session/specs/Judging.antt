-- For the code inside. Why a block is not taken.
use Rattle.std.specs.Prelude.{ℕ, List}
use Rattle.card_check.specs.IsCard.{HasPages}
use Rattle.card_types.specs.Registry.{Registry}
use Rattle.card_types.specs.Represents.{Represents}
use Rattle.card_types.specs.declared.tables.Tables.{Tables}
use Rattle.load_session.specs.Session.{RepresentsLoad}
use Rattle.load_session.specs.declared.block.BlockStop.{BlockStop}
use Rattle.load_session.specs.declared.block.BlockStop.TheVariants.{FirstBlock, NoRoom, Count, Hash}
use Rattle.load_session.specs.declared.session.LoadSession.{LoadSession}
use Rattle.policy_machine.specs.LoadBlocks.{Block, HasNoLength, HasNoRoom, HasOtherCount, HasOtherHash}
use Rattle.policy_machine.specs.State as volatile

-- it is so of each registry that the tables say and each load session that is stood for
abbrev pub ForEachSaid : Tables → LoadSession → (Registry → volatile.LoadSession → Type 0) → Type 0
ForEachSaid tables kept holds =
    (page : ℕ → List ℕ) (said : Registry) (load : volatile.LoadSession) → HasPages page → Represents page tables said → RepresentsLoad page tables kept load → holds said load

-- the cause is the first that holds: a first block that announces no length is no cause of the others
abbrev pub StopsBlock : Registry → volatile.LoadSession → Block → BlockStop → Type 0
StopsBlock said load block FirstBlock = HasNoLength load block
StopsBlock said load block NoRoom = HasNoRoom said load block
StopsBlock said load block Count = (HasNoRoom said load block → ⊥) × HasOtherCount load block
StopsBlock said load block Hash = (HasNoRoom said load block → ⊥) × (HasOtherCount load block → ⊥) × HasOtherHash load block

-- no cause holds
pub record BlockPasses (said : Registry) (load : volatile.LoadSession) (block : Block) : Type 0 where
  pub length_is : HasNoLength load block → ⊥
  pub room : HasNoRoom said load block → ⊥
  pub count : HasOtherCount load block → ⊥
  pub hash : HasOtherHash load block → ⊥
