-- The names that contracts and proofs here cite, passed on from one place. Declares nothing.
pub use Rattle.apdu_core.specs.Apdu.{Apdu, Short, apdu_of}
pub use Rattle.apdu_core.specs.ClassBytes.{channel_of}
pub use Rattle.apdu_core.specs.Reply.{status_bytes}
pub use Rattle.arrayvec.specs.ArrayVec.{array_vec_len}
pub use Rattle.bertlv.specs.Spelling.{Appends, AreElements, Element, Spelling}
pub use Rattle.bertlv.specs.Tag.{IsTag, TagGoesOn}
pub use Rattle.card_check.specs.IsCard.{HasPages, IsCard, IsInLoadPages, pages_named}
pub use Rattle.card_check.specs.LoadPages.{HasPageNumbers, all_pages}
pub use Rattle.card_core.specs.Card.{Answers, CardOver, CardRepresents, LeavesEither, kept_by}
pub use Rattle.card_core.specs.ChannelEnds.{channels_refused, channels_with, live_passed, live_refused, no_sessions}
pub use Rattle.card_core.specs.Commits.{MayCommit}
pub use Rattle.card_core.specs.ConfirmedForms.{BecomesAsAsked, IsOfForm, of_form}
pub use Rattle.card_core.specs.Confirms.{AnswersFor, Confirms, HasChanged, IsAnsweredBy, IsReceiptIn, IsUniqueIn, IsValueIn, KeepsConfirmer, KeepsNumber, KeepsReceipts, aid_list, leaves}
pub use Rattle.card_core.specs.Deletes.{LeavesOthers, LeavesOwned, RemovesLoaded}
pub use Rattle.card_core.specs.Domains.{is_domain_held, is_domain_in}
pub use Rattle.card_core.specs.Installs.{slot_made}
pub use Rattle.card_core.specs.Kept.{AreCards, ForKept, IsInSession, IsOffered, Kept, KeptRepresents, RepresentsChannels, RepresentsSecureChannel, RepresentsSome, held_on, held_passed, kept_live, kept_of, kept_set, without_offer_held}
pub use Rattle.card_core.specs.Lists.{IsSameButPlace, IsShown, Lists}
pub use Rattle.card_core.specs.LoadRead.{IsLoadRead}
pub use Rattle.card_core.specs.LoadedFile.{AddsLoaded}
pub use Rattle.card_core.specs.Loading.{AreFree, RepresentsLoading, with_due}
pub use Rattle.card_core.specs.Loads.{ForBlock, ForLoad, IsForBlock, IsLoaded, LoadsAs, block_in, block_rule}
pub use Rattle.card_core.specs.Manages.{IsChanging, IsManaged, KeepsAid, KeepsAids, KeepsFree, KeepsSelected, Manages}
pub use Rattle.card_core.specs.ObjectsPut.{IsSlotFor, PutsObject, object_with}
pub use Rattle.card_core.specs.Offers.{AnswersAs, HoldsFor, IsMade, OffersAs, secure_channel_for}
pub use Rattle.card_core.specs.Passes.{Bars, ForCome, HasCome, IsOpenedIn, Passes, plain_of}
pub use Rattle.card_core.specs.PowerOn.{PowerFails}
pub use Rattle.card_core.specs.Ready.{IsReady}
pub use Rattle.card_core.specs.Secured.{OpensAs}
pub use Rattle.card_core.specs.Serves.{CarriesOut, CarriesOutBut, IsAsked, IsPassed, IsTerminatedFor, Serves, refused_at, rule_of, status_word}
pub use Rattle.card_core.specs.ShownParts.{IsLastShown, IsPart}
pub use Rattle.card_core.specs.StatusChanges.{MakesChange, SaysChange, StagesOthers}
pub use Rattle.card_types.specs.Aid.{IsAid, same_aid}
pub use Rattle.card_types.specs.CardLife.{card_life_code}
pub use Rattle.card_types.specs.ChangeLaws.{IsOfCard, MayRemoveEntry}
pub use Rattle.card_types.specs.Counters.{HasNextCounter, raised_key, with_counter_raised}
pub use Rattle.card_types.specs.Factory.{IsFactory, IsFactoryKey, factory_entry, factory_file, factory_registry}
pub use Rattle.card_types.specs.Found.{aid_of}
pub use Rattle.card_types.specs.KeySets.{HasKey, HaveKeyLength, IsKeyOf}
pub use Rattle.card_types.specs.LifeMark.{life_mark_code}
pub use Rattle.card_types.specs.Privileges.{delegated_management, has, privilege_bytes, security_domain}
pub use Rattle.card_types.specs.Registry.{Counter, Entry, Key, LoadFile, Object, Registry, counter_order, domain_of, entry_named, file_named, is_domain, key_order, object_named, object_order}
pub use Rattle.card_types.specs.RegistryChange.{IsChanged, IsEntryAdded, IsFileAdded, with_card_life, with_life, with_locks, with_receipts, with_thing_in_domain, without_applications, without_entry, without_file}
pub use Rattle.card_types.specs.Represents.{HasIssuer, HasLayout, IsInOrder, Represents, counter_of, domain_aid, entry_of, file_aid, file_of, keeps_counter, key_of, object_of, thing_in, things_in}
pub use Rattle.card_types.specs.Search.{IsLeast, NoneFits, NoneFree}
pub use Rattle.card_types.specs.SlotChange.{SetsEntry, SetsFile, SetsKey, SetsObject}
pub use Rattle.card_types.specs.Well.{IsDomainNamed, IsIssuerDomain, IsKeyLength, IsObject, IsWellCounter, IsWellEntry, IsWellFile, IsWellKey, IsWellObject, Well, pages_of}
pub use Rattle.cmac_kdf.specs.Blocks.{IsBytes, zero_block}
pub use Rattle.cmac_kdf.specs.Cbc.{cbc}
pub use Rattle.content_rules.specs.DeleteObjectFound.{HasNoneFrom, IsAlone, IsFrom, IsRemovable, IsToGoIn, IsUnselected}
pub use Rattle.content_rules.specs.DeleteObjectRequests.{IsDeletionOf}
pub use Rattle.content_rules.specs.ExtraditionRequests.{FindsMove, IsExtraditionOf}
pub use Rattle.content_rules.specs.InstallApplicationRequests.{IsInstallOf}
pub use Rattle.content_rules.specs.LoadFound.{IsForLast}
pub use Rattle.content_rules.specs.LoadRequests.{IsLoadOf}
pub use Rattle.content_rules.specs.MakeSelectableRequests.{IsInstalledWith, IsSelectableOf}
pub use Rattle.domain_tree.specs.Above.{Above, IsAboveIn, IsTreeOf}
pub use Rattle.domain_tree.specs.Slots.{IsFreeOfLoops}
pub use Rattle.faults.specs.Faults.{HasCause}
pub use Rattle.key_rules.specs.PutFails.{NoneHolds, PutFails, has_version}
pub use Rattle.key_rules.specs.Staying.{is_of, staying}
pub use Rattle.key_sets.specs.Draws.{Raises}
pub use Rattle.key_sets.specs.Puts.{Deletes, Puts, new_key}
pub use Rattle.load_session.specs.Judging.{ForEachSaid, StopsBlock}
pub use Rattle.load_session.specs.Loaded.{AreNewPages, numbers, pages_after}
pub use Rattle.load_session.specs.Pages.{AreOwn, pages_in}
pub use Rattle.load_session.specs.Session.{IsAfterBlock, IsBlockTaken, IsWholeFile, RepresentsAfter, RepresentsLoad, RepresentsWhole, len_of, load_aid, load_slot}
pub use Rattle.page_journal.specs.Journal.{stored_page}
pub use Rattle.page_journal.specs.Moments.{Always, LeavesOnly}
pub use Rattle.page_journal.specs.Pages.{IsLoadPage}
pub use Rattle.policy_machine.specs.Admission.{Admits, Admitted, GeneralFails, GeneralRefusalLeaves, InSession, IsTakenAs, IsToApplication, Of, admitted_as, channel_passed, class_passed, command_rules, general_rules, in_plain, message_joined, session_for, session_passed, without_place}
pub use Rattle.policy_machine.specs.Arranged.{IsArranged}
pub use Rattle.policy_machine.specs.CardStatus.{managed_card_status}
pub use Rattle.policy_machine.specs.Changes.{Changes, OpensInSession}
pub use Rattle.policy_machine.specs.Classes.{IsKnown, IsPlainGetData, IsPlainManagement, changing, class_of, instructions_of, is_protected, is_secure, managing, protects}
pub use Rattle.policy_machine.specs.CommandForm.{CommandForm}
pub use Rattle.policy_machine.specs.Commands.{HasEffect, IsBuilt, Judges, Takes, TakesCommand}
pub use Rattle.policy_machine.specs.DataObjects.{has_tag_in, is_object_of, new_tags, with_data, with_object, with_objects}
pub use Rattle.policy_machine.specs.Delegation.{Holds, IsAnswered, no_confirmation, unique_data, value_of}
pub use Rattle.policy_machine.specs.DeleteKey.{managed_delete_key}
pub use Rattle.policy_machine.specs.DeleteObject.{managed_delete_object, without_thing}
pub use Rattle.policy_machine.specs.EntryStatus.{IsEntryStep, OneIsSet, TreeIsSet, managed_entry_status}
pub use Rattle.policy_machine.specs.ExternalAuthenticate.{external_authenticate, rules_before_form}
pub use Rattle.policy_machine.specs.Extradition.{domain_of_thing, managed_extradition}
pub use Rattle.policy_machine.specs.GetData.{HasData, IsDataObject, IsKeyInformation, get_data, key_information}
pub use Rattle.policy_machine.specs.GetStatus.{AFile, AnEntry, AreTemplates, BeginsAbove, GetStatusFails, IsLeftAt, IsTemplate, Thing, aid_in, channel_at_place, get_status, get_status_rules, last_aid, module_parts, part_limit, place_after, status_parts, with_place}
pub use Rattle.policy_machine.specs.InitializeUpdate.{AsksForSet, diversification_of, initialize_update, offer_body}
pub use Rattle.policy_machine.specs.InstallApplication.{entry_made, managed_install}
pub use Rattle.policy_machine.specs.InstallLoad.{file_domain_for, install_load, load_begun}
pub use Rattle.policy_machine.specs.KeySets.{UsesSet, counters_but, has_key_version, keys_but, with_keys}
pub use Rattle.policy_machine.specs.Load.{EndsLoad, LoadFails, LoadGoesOn, LoadParameters, block_of, file_of_load, front_rules, last_rules, load_rules, loading}
pub use Rattle.policy_machine.specs.LoadBlocks.{Block, BringsBytes, HasNoRoom, HasOtherCount, HasOtherHash, with_block}
pub use Rattle.policy_machine.specs.MakeSelectable.{managed_selectable}
pub use Rattle.policy_machine.specs.Malformed.{IsMalformed}
pub use Rattle.policy_machine.specs.ManageChannel.{lowest_closed, manage_channel}
pub use Rattle.policy_machine.specs.ManagedForm.{CommandAsks, JudgedFirst, JudgedForm, ManagedForm, command_form}
pub use Rattle.policy_machine.specs.Management.{acting}
pub use Rattle.policy_machine.specs.PutKey.{AreKeysPut, AreKeysSent, AreOpened, ChecksFit, HasFieldLengths, IsKeySent, IsNewVersion, PutKeyParameters, SaysChecks, SentKey, check_value, counters_from, key_count, keys_from, managed_put_key, sealed_size}
pub use Rattle.policy_machine.specs.PutKeyRules.{key_rules, version_rules}
pub use Rattle.policy_machine.specs.Receipts.{CountsReceipts}
pub use Rattle.policy_machine.specs.Refusal.{IsFirst}
pub use Rattle.policy_machine.specs.Rules.{status_of}
pub use Rattle.policy_machine.specs.RunsApart.{KeepsTrees}
pub use Rattle.policy_machine.specs.Select.{IsControlInformation, select, selected_status}
pub use Rattle.policy_machine.specs.Sound.{IsSound, IsWellLoad}
pub use Rattle.policy_machine.specs.State.{Channel, Effect, LoadSession, Nothing, Offered, Place, SecureChannel, Secured, State, Volatile, channel_at, channel_with, first_volatile, fresh, load_without_channel, offer_in, offer_on, place_in, powered_on, secure_channel_of, selected_of, selected_on, session_in, session_on, with_channel, with_load, with_offer_dropped, with_secure_channel, with_selected, without_channel, without_load, without_offer, without_session}
pub use Rattle.policy_machine.specs.Step.{Outcome, Step, keeps_load, refusal_leaves, reply_bytes}
pub use Rattle.policy_machine.specs.StoreData.{HasObjects, StoreDataField, managed_store_data}
pub use Rattle.policy_rules.specs.Found.{IsFor}
pub use Rattle.policy_rules.specs.GetStatusRequests.{IsFirstShown, IsListOf, IsNextListed, IsPlaceBefore, IsThingAt, NoneListed}
pub use Rattle.policy_rules.specs.Requests.{Decodes, IsRequestOf, IsWellFormed, form_in, sent_key, sent_keys}
pub use Rattle.policy_rules.specs.SetStatusRequests.{IsCardStatusOf, IsChangeFor, IsOther, slot_of}
pub use Rattle.policy_slots.specs.HoldersFound.{FindsConfirmer, IsReceipterIn, MayReceipt}
pub use Rattle.policy_slots.specs.KeyOrder.{follows, is_past, name_order}
pub use Rattle.policy_slots.specs.LiveEnds.{first_live, kept_of_others, live_with_block, live_with_channel, live_with_place, live_without_load, live_without_place}
pub use Rattle.policy_slots.specs.ObjectsHeld.{has_object_in, is_tagged_in}
pub use Rattle.policy_slots.specs.StateShown.{ActsIn, ForActing, ForActingLive, ForEntry, IsLoadNamed, IsSelectedIn, RepresentsState, place_of}
pub use Rattle.rec_store.specs.Contents.{Contents, IsUnwritten}
pub use Rattle.rec_store.specs.FirstSlots.{HasFirst}
pub use Rattle.rec_store.specs.Keeper.{SameElse}
pub use Rattle.rec_store.specs.Places.{entry_page, entry_pages, file_page, key_pages, object_page, object_pages}
pub use Rattle.rec_store.specs.Reopens.{AreSpare, IsAtRest, IsFree, IsSpare, KeepsRegistry, Reopens, ReopensAsOne, ReopensEither, load_page, store_page}
pub use Rattle.rec_store.specs.Room.{HasFramesFor, with_staged}
pub use Rattle.rec_store.specs.StoredTables.{AreRoomy}
pub use Rattle.registry.specs.Adding.{AddsEntry, AddsFile, NoneHas}
pub use Rattle.registry.specs.Pages.{KeepsRoom, StagesChanged, owner_pages, thing_page, thing_pages}
pub use Rattle.registry.specs.Removing.{IsNoDomain, IsUnloaded, RemovesEntry, entry_file, key_owner, object_owner, slot_without}
pub use Rattle.registry.specs.Setting.{ChangesEntry, Moves}
pub use Rattle.registry.specs.Tree.{IsSlotInTree, LocksTree, with_lock}
pub use Rattle.scp03_card.specs.Kept.{KeptOffer, KeptSession, RepresentsOffer, RepresentsSession}
pub use Rattle.scp03_card.specs.Offer.{Offer, card_cryptogram, counter_bytes, new_offer}
pub use Rattle.scp03_card.specs.Opens.{Gives, IsAuthentic, Opens, accepting, field_of}
pub use Rattle.scp03_card.specs.Protected.{session_reply}
pub use Rattle.scp03_card.specs.Session.{HasCryptogram, HasMac, Session, session_from}
pub use Rattle.sha2.specs.Hashers.{Holds256}
pub use Rattle.sha2.specs.Sha256.{sha256}
pub use Rattle.tokens_receipts.specs.Receipt.{aids_of, receipt}
