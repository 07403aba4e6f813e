-- The names that contracts and proofs here cite, passed on from one place. Declares nothing.
pub use Rattle.bertlv.specs.Refusal.{AfterLength}
pub use Rattle.card_check.specs.IsCard.{HasPages, IsInLoadPages, pages_named}
pub use Rattle.card_check.specs.LoadPages.{HasMarks, HasPageNumbers, all_pages}
pub use Rattle.card_types.specs.Aid.{same_aid}
pub use Rattle.card_types.specs.Registry.{Registry}
pub use Rattle.card_types.specs.Represents.{Represents, domain_aid, file_of, things_in}
pub use Rattle.card_types.specs.Well.{pages_of}
pub use Rattle.faults.specs.Faults.{HasCause}
pub use Rattle.load_session.specs.Hash.{IsFed}
pub use Rattle.load_session.specs.Judging.{BlockPasses, ForEachSaid, StopsBlock}
pub use Rattle.load_session.specs.Laws.{PagesStayWhole, ReadyStays, SessionStays, TablesSayTheSame}
pub use Rattle.load_session.specs.Loaded.{AreNewPages, AreTaken, IsWholePage, numbers, page_written, pages_after}
pub use Rattle.load_session.specs.Paged.{HasLoadRoom, IsOpen, bytes_in, padded_page, size_of}
pub use Rattle.load_session.specs.Pages.{AreOwn, IsPageInUse, pages_in}
pub use Rattle.load_session.specs.Session.{IsAfterBlock, IsBlockTaken, IsReadyForBlock, IsWholeFile, RepresentsAfter, RepresentsLoad, RepresentsWhole, blocks_taken, len_of, load_aid, load_slot, pages_taken}
pub use Rattle.page_journal.specs.Moments.{LeavesOnly}
pub use Rattle.page_journal.specs.Pages.{IsLoadPage}
pub use Rattle.policy_machine.specs.LoadBlocks.{Announces, Block, BringsBytes, HasNoLength, HasNoRoom, HasOtherCount, HasOtherHash, HaveHash, pages_used, with_block}
pub use Rattle.rec_store.specs.Contents.{Contents}
pub use Rattle.rec_store.specs.Reopens.{IsFree, IsSpare, KeepsRegistry, Reopens, load_page}
pub use Rattle.rec_store.specs.StoredTables.{AreRoomy}
pub use Rattle.sha1.specs.Sha1.{Holds, sha1}
pub use Rattle.sha2.specs.Hashers.{Holds256}
pub use Rattle.sha2.specs.Sha256.{sha256}
