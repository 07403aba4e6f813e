-- The names that the contracts here cite, passed on from one place. Declares nothing.
pub use Rattle.card_check.specs.IsCard.{IsInLoadPages}
pub use Rattle.card_types.specs.Found.{aid_of}
pub use Rattle.card_types.specs.Registry.{Registry}
pub use Rattle.card_types.specs.RegistryChange.{IsEntryAdded, IsFileAdded, with_life, with_locks, with_receipts, with_thing_in_domain, without_applications, without_entry, without_file}
pub use Rattle.card_types.specs.Represents.{HasSlots, Represents, domain_aid, entry_of, file_aid, file_of, thing_in}
pub use Rattle.card_types.specs.Search.{IsFirstFree, NoneFree}
pub use Rattle.card_types.specs.SlotChange.{SetsEntry, SetsFile}
pub use Rattle.card_types.specs.Well.{Well}
pub use Rattle.domain_tree.specs.Above.{IsTreeOf}
pub use Rattle.domain_tree.specs.Slots.{IsFreeOfLoops}
pub use Rattle.rec_store.specs.Places.{entry_page, entry_pages, file_page, key_page, object_page}
pub use Rattle.rec_store.specs.Room.{HasFramesFor, with_staged}
pub use Rattle.registry.specs.Adding.{AddsEntry, AddsFile, IsAidTaken, NoneHas, PlaceFails}
pub use Rattle.registry.specs.Pages.{KeepsRoom, StagesChanged, owner_pages, thing_page, thing_pages}
pub use Rattle.registry.specs.Removing.{IsNoDomain, IsUnloaded, RemovesApplications, RemovesEntry, StagesOwned, entry_file, is_owned, key_owner, object_owner, slot_without}
pub use Rattle.registry.specs.Setting.{ChangesEntry, Moves}
pub use Rattle.registry.specs.TableLists.{TableLists, lists_of}
pub use Rattle.registry.specs.Tree.{IsSlotInTree, LocksTree, with_lock}
