-- The names that the contracts here cite, passed on from one place. Declares nothing.
pub use Rattle.byteorder.specs.Endian.{big_from}
pub use Rattle.card_check.specs.IsCard.{HasPages, IsCard, IsInLoadPages}
pub use Rattle.card_types.specs.Aid.{IsAid}
pub use Rattle.card_types.specs.Registry.{Registry}
pub use Rattle.card_types.specs.Represents.{HasSlots, IsInOrder, Represents, thing_in, things_in}
pub use Rattle.card_types.specs.SlotChange.{SetsEntry, SetsFile, SetsKey, SetsObject}
pub use Rattle.faults.specs.Faults.{HasCause, Rose}
pub use Rattle.flash_core.specs.Device.{Only}
pub use Rattle.frame_pool.specs.Staged.{staged_at, with_page}
pub use Rattle.page_journal.specs.Journal.{HasValidJournal}
pub use Rattle.page_journal.specs.Moments.{Always, LeavesOnly}
pub use Rattle.page_journal.specs.Pages.{IsLoadPage, IsStorePage}
pub use Rattle.rec_store.specs.Bytes.{HasBytesAt}
pub use Rattle.rec_store.specs.Contents.{CardFails, IsUnwritten, OpenFails, SlotsFail, opened_cause}
pub use Rattle.rec_store.specs.EntrySlot.{HasThreeBytes}
pub use Rattle.rec_store.specs.FileSlot.{IsFileIn, page_in}
pub use Rattle.rec_store.specs.FirstSlots.{HasFirst, HaveRoom}
pub use Rattle.rec_store.specs.Keeper.{IsRoomy, SameElse, same_else_on, same_else_self}
pub use Rattle.rec_store.specs.KeySlot.{IsRoomyKey}
pub use Rattle.rec_store.specs.Places.{entry_page, file_page, key_page, object_page, slot_at, slot_from}
pub use Rattle.rec_store.specs.Reading.{IsRead}
pub use Rattle.rec_store.specs.Reopens.{AreSpare, IsAtRest, IsFree, IsInLayout, IsSpare, KeepsRegistry, Reopens, ReopensAsOne, ReopensEither, load_page, store_in, store_page}
pub use Rattle.rec_store.specs.Room.{HasFrame, with_staged}
pub use Rattle.rec_store.specs.Slot.{SlotHolds}
pub use Rattle.rec_store.specs.StoreLayout.{FitsLayout, IsShort, layout_code}
pub use Rattle.rec_store.specs.StoredTables.{AreHeld, AreRoomy, HoldsPage, HoldsTables}
pub use Rattle.rec_store.specs.Superblock.{IsSuperblock}
