-- What a card keeps of an Executable Load File that comes, and the load session that it stands for (GlobalPlatform Card
-- Specification 2.3.1, 9.3.5 and 11.6).
use Rattle.std.specs.Prelude.{◌≡◌, ℕ, ◌+◌, ◌≤◌, List, Bool, false, true, length, map, take, drop, unwrap_or}
use Rattle.std.specs.List.{concat}
use Rattle.card_types.specs.Represents.{domain_aid}
use Rattle.card_types.specs.Well.{pages_of}
use Rattle.card_types.specs.declared.limits.TheConstants.{FILE_LIMIT, LOAD_PAGES}
use Rattle.card_types.specs.declared.tables.Tables.{Tables}
use Rattle.load_session.specs.Hash.{IsFed}
use Rattle.load_session.specs.Pages.{AreOwn, pages_in}
use Rattle.load_session.specs.Paged.{IsOpen, bytes_in, size_of}
use Rattle.load_session.specs.declared.block.Taken.{Taken}
use Rattle.load_session.specs.declared.session.LoadSession.{LoadSession}
use Rattle.policy_machine.specs.LoadBlocks.{Block, BringsBytes}
use Rattle.policy_machine.specs.State as volatile

-- the AID, the slot of the security domain, how many blocks were taken, and the load pages that were
abbrev pub load_aid : LoadSession → List ℕ
load_aid kept = kept.aid

abbrev pub load_slot : LoadSession → ℕ
load_slot kept = kept.domain

abbrev pub blocks_taken : LoadSession → ℕ
blocks_taken kept = kept.blocks

abbrev pub pages_taken : LoadSession → List ℕ
pages_taken kept = kept.paged.pages.items

-- it has the load session's AID, domain, hash, announced length and number of blocks
pub record IsOfLoad (tables : Tables) (kept : LoadSession) (load : volatile.LoadSession) : Type 0 where
  pub aid : kept.aid ≡ load.aid
  pub domain : domain_aid tables.entries.items kept.domain ≡ load.domain
  pub hash : kept.hash.items ≡ load.hash
  pub announced : kept.announced ≡ load.announced
  pub blocks : kept.blocks ≡ load.blocks

-- a block may come: the pages are the session's own, and each that is full is written
abbrev pub IsReadyForBlock : Tables → LoadSession → Type 0
IsReadyForBlock tables kept = IsOpen tables kept.paged

-- before the last block the bytes are in load pages, which hold these lists, and the last ones in memory
pub record RepresentsLoad (page : ℕ → List ℕ) (tables : Tables) (kept : LoadSession) (load : volatile.LoadSession) : Type 0 where
  pub of : IsOfLoad tables kept load
  pub ready : IsReadyForBlock tables kept
  pub bytes : bytes_in page kept.paged ≡ load.bytes
  pub fed : IsFed kept.hash.items kept.hasher load.bytes

-- how many bytes were announced
abbrev pub len_of : LoadSession → ℕ
len_of kept = unwrap_or kept.announced 0

-- the pages are the session's own, and as many as the announced bytes take
pub record IsWholeFile (tables : Tables) (kept : LoadSession) : Type 0 where
  pub own : AreOwn tables kept.paged.pages.items
  pub pages : length kept.paged.pages.items ≡ pages_of (len_of kept)
  pub limit : len_of kept ≤ FILE_LIMIT

-- after the last block all bytes are in load pages
pub record RepresentsWhole (page : ℕ → List ℕ) (tables : Tables) (kept : LoadSession) (load : volatile.LoadSession) : Type 0 where
  pub of : IsOfLoad tables kept load
  pub whole : IsWholeFile tables kept
  pub bytes : take (len_of kept) (concat (map page kept.paged.pages.items)) ≡ load.bytes

-- with a block that was the last one, or was not
abbrev pub IsAfterBlock : Bool → Tables → LoadSession → Type 0
IsAfterBlock false tables kept = IsReadyForBlock tables kept
IsAfterBlock true tables kept = IsWholeFile tables kept

abbrev pub RepresentsAfter : Bool → (ℕ → List ℕ) → Tables → LoadSession → volatile.LoadSession → Type 0
RepresentsAfter false page tables kept load = RepresentsLoad page tables kept load
RepresentsAfter true page tables kept load = RepresentsWhole page tables kept load

-- what a block brings, where there is room for it and it has as many bytes as it may
pub record IsBlockTaken (tables : Tables) (kept : LoadSession) (block : Block) (taken : Taken) : Type 0 where
  pub within : taken.start ≤ length block.field
  pub brings : BringsBytes kept.announced block taken.size (drop taken.start block.field)
  pub limit : taken.size ≤ FILE_LIMIT
  pub pages : pages_in tables + pages_of taken.size ≤ LOAD_PAGES
  pub count : size_of kept.paged + length (drop taken.start block.field) ≤ taken.size
  pub all : block.last ≡ true → size_of kept.paged + length (drop taken.start block.field) ≡ taken.size
