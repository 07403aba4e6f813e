-- The names that contracts and proofs here cite, passed on from one place. Declares nothing.
pub use Rattle.aes_block.specs.Cipher.{IsBlock}
pub use Rattle.apdu_core.specs.Apdu.{Apdu, Short}
pub use Rattle.apdu_core.specs.ClassBytes.{channel_of}
pub use Rattle.bertlv.specs.Spelling.{AreElements, BeginsWith, Element, Spelling}
pub use Rattle.bertlv.specs.Tag.{TagBytes, TagGoesOn}
pub use Rattle.card_types.specs.Aid.{IsAid, aid_order, same_aid}
pub use Rattle.card_types.specs.ChangeLaws.{IsFreeAid, IsOfCard, MayAddEntry, MayAddFile, MayHaveLife, MayMove}
pub use Rattle.card_types.specs.Counters.{raised_counter, with_counter_raised}
pub use Rattle.card_types.specs.Hierarchy.{IsPath}
pub use Rattle.card_types.specs.Level.{code_of}
pub use Rattle.card_types.specs.Privileges.{ArePrivilegeBytes, IsNamed, authorized_management, bits_of, delegated_management, has, privilege_bytes, receipt_generation, token_verification}
pub use Rattle.card_types.specs.Registry.{Counter, Entry, IsAscending, Key, LoadFile, Object, Registry, counter_order, domain_of, entry_named, file_named, is_domain, key_named, key_order, keys_of, object_order}
pub use Rattle.card_types.specs.RegistryChange.{IsChanged, IsEntryAdded, IsFileAdded, with_card_life, with_entries, with_life, with_locks, with_receipts, with_thing_in_domain, without_applications, without_entry}
pub use Rattle.card_types.specs.Well.{HasLengthOfSet, IsDomainNamed, IsIssuerDomain, IsKeyLength, IsKeyName, IsObject, IsProperEntry, IsWellCounter, IsWellEntry, IsWellFile, IsWellKey, IsWellObject, IsWholeSet, Well, has_domain_privilege, has_life, pages_of}
pub use Rattle.cmac_kdf.specs.Blocks.{zero_block}
pub use Rattle.domain_tree.specs.Above.{IsAboveIn, IsTreeOf}
pub use Rattle.domain_tree.specs.LineLaws.{StepsStay}
pub use Rattle.policy_machine.specs.Admission.{Admits, Admitted, GeneralFails, GeneralRefusalLeaves, InSession, IsTakenAs, IsToApplication, Of, SessionEnds, admitted_as, channel_passed, class_passed, general_rules, message_joined, offer_passed, session_for, without_place}
pub use Rattle.policy_machine.specs.Arranged.{IsArranged}
pub use Rattle.policy_machine.specs.CardStatus.{managed_card_status}
pub use Rattle.policy_machine.specs.Changes.{Changes, IsSameButCounters, OpensInSession, without_number}
pub use Rattle.policy_machine.specs.Charge.{IsAtOrAbove, IsFileInCharge, IsInCharge, is_privileged}
pub use Rattle.policy_machine.specs.Classes.{IsKnown, IsPlainManagement, changing, class_of, instructions_of, is_protected, is_secure, managing, protects}
pub use Rattle.policy_machine.specs.CommandForm.{CommandForm}
pub use Rattle.policy_machine.specs.Commands.{AtMostOne, DoesAs, FormFails, HasEffect, Judges, JudgesAs, JudgesForm, OneOf, Takes, TakesCommand, form_rules, forms_if, forms_of}
pub use Rattle.policy_machine.specs.DataObjects.{AreObjects, has_tag_in, is_object_of, new_tags, with_data, with_object, with_objects}
pub use Rattle.policy_machine.specs.Delegation.{Approval, Holds, IsAnswered, IsConfirmed, IsNearestHolder, IsReceipter, IsVerifier, NoVerifier, ReceiptFails, TokenFails, delegation_rules, has_with_key, no_confirmation, token_rules, unique_data}
pub use Rattle.policy_machine.specs.DeleteKey.{AsksToDeleteKey, Chooses, DeleteParameters, KeyChosen, managed_delete_key}
pub use Rattle.policy_machine.specs.DeleteObject.{AsksToDelete, ComesFrom, DeletingFails, DeletionAsked, HasOthers, IsDelegated, IsInUse, IsLoadedInto, IsSelected, IsToGo, IsTokenField, managed_delete_object, without_thing}
pub use Rattle.policy_machine.specs.EntryStatus.{IsEntryStep, IsMarked, IsPersonalizing, Marks, OneIsSet, PersonalizesItself, SettingStatusFails, TreeIsSet, managed_entry_status}
pub use Rattle.policy_machine.specs.ExternalAuthenticate.{ExternalAuthenticateEffect, ExternalAuthenticateFails, external_authenticate, external_authenticate_rules, rules_before_form}
pub use Rattle.policy_machine.specs.Extradition.{AsksToExtradite, ExtraditingFails, managed_extradition}
pub use Rattle.policy_machine.specs.GetData.{AsksFor, GetDataEffect, GetDataFails, HasData, IsDataObject, IsSequenceCounter, get_data, key_information, tag_of}
pub use Rattle.policy_machine.specs.GetStatus.{AreTemplates, GetStatusEffect, IsFullFor, IsLeftAt, IsListing, IsTemplate, ListingFails, Thing, aid_in, channel_at_place, get_status, part_limit, place_before, status_parts, with_place}
pub use Rattle.policy_machine.specs.InitializeUpdate.{AsksForSet, InitializeUpdateEffect, InitializeUpdateFails, IsOfferOf, initialize_update, offer_body, offer_rules}
pub use Rattle.policy_machine.specs.InstallApplication.{AreInstallParameters, AsksToInstall, InstallAsked, MayBeMade, entry_made, managed_install, refused_privileges}
pub use Rattle.policy_machine.specs.InstallFields.{AreLengthFields, BeginsWithField, InstallData, IsInstallData, approval_in, signed_fields}
pub use Rattle.policy_machine.specs.InstallLoad.{InstallLoadEffect, IsLoadData, LoadData, install_load, judged_install_load, load_begun, named_or, signed_load_fields}
pub use Rattle.policy_machine.specs.Isolation.{BringsInto, HasPowerOver, IsEntrusted, MovesWith, Spares}
pub use Rattle.policy_machine.specs.KeyFields.{AreFields, BeginsWithKey, NoFields}
pub use Rattle.policy_machine.specs.KeySets.{UsesSet, counters_but, has_key_version, is_counter_numbered, is_key_numbered, keys_but, set_counter, with_keys}
pub use Rattle.policy_machine.specs.Laws.{ChangesAreOpened, NumbersRise, NumbersRiseInRuns, OneForm, OneOutcome, OneRun, OthersAreChanges, PlacesAreForgotten, RefusalsDropOffers, StartsSound, StepsKeepSound, is_later}
pub use Rattle.policy_machine.specs.Load.{EndsLoad, InLoad, IsLoadOn, LoadConfirms, LoadEffect, LoadFails, LoadGoesOn, LoadingFails, about_load, block_of, file_of_load, load_rules, loading}
pub use Rattle.policy_machine.specs.LoadBlocks.{Announces, Block, BringsBytes, HasNoLength, HasNoRoom, HasOtherCount, HasOtherHash, pages_used, with_block}
pub use Rattle.policy_machine.specs.MakeSelectable.{AsksToMakeSelectable, MakingSelectableFails, is_installed, managed_selectable}
pub use Rattle.policy_machine.specs.Malformed.{FormRefuses, IsMalformed}
pub use Rattle.policy_machine.specs.ManageChannel.{IsClosed, IsClosedAlready, IsOpened, ManageChannelEffect, ManageChannelParameters, is_closed, lowest_closed, manage_channel}
pub use Rattle.policy_machine.specs.ManagedForm.{AskedFails, CommandAsks, IsJudgeable, IsOnAsked, IsOwn, JudgedFails, JudgedForm, ManagedEffect, ManagedForm, OfEach, OwnFirst, command_form}
pub use Rattle.policy_machine.specs.Management.{ManagementFails, acting}
pub use Rattle.policy_machine.specs.OwnRules.{AlikeAreJudgedAlike, AreAlike, OpenedAreJudged, selection_of, selections}
pub use Rattle.policy_machine.specs.PutKey.{AreKeysPut, AreKeysSent, AreOfOneLength, AsksToPut, HasFieldLengths, HasKeyFields, IsKeySent, IsNewVersion, KeysAsked, PuttingKeyFails, SentKey, counters_from, key_count, key_field, keys_from, keys_left, managed_put_key, own_keys_left, sealed_size}
pub use Rattle.policy_machine.specs.Receipts.{IsReceiptedBy, ReceiptNames, RepliesReceipt, last_receipt}
pub use Rattle.policy_machine.specs.Refusal.{IsFirst}
pub use Rattle.policy_machine.specs.Rules.{name_of, refusal_by, status_of, statuses_of}
pub use Rattle.policy_machine.specs.Run.{Command, Reset, Run}
pub use Rattle.policy_machine.specs.RunsApart.{RootsGetNothing, StaysThrough, TreesStay, TreesStayInRuns}
pub use Rattle.policy_machine.specs.Select.{IsControlInformation, SelectEffect, SelectFails, SelectsEntry, control_parts, fits_select, least_fitting, select}
pub use Rattle.policy_machine.specs.Sound.{Fits, FitsSecureChannel, IsAnnounced, IsHashLength, IsSecured, IsSound, IsWellChannel, IsWellLoad, IsWellOffer}
pub use Rattle.policy_machine.specs.State.{Channel, Effect, LoadSession, Nothing, Place, SecureChannel, Secured, State, Volatile, channel_at, channel_with, first_volatile, fresh, load_without_channel, offer_in, offer_on, place_in, powered_on, secure_channel_of, selected_of, selected_on, session_in, session_on, with_channel, with_load, with_offer_dropped, with_secure_channel, with_selected, without_load, without_offer, without_session}
pub use Rattle.policy_machine.specs.Step.{IsAccepted, IsRefused, IsRejected, Outcome, Step, keeps_load, outcome_of_effect, outcome_of_refusal, refusal_leaves, reply_bytes}
pub use Rattle.policy_machine.specs.StoreData.{StoreDataField, managed_store_data, objects_stored}
pub use Rattle.policy_machine.specs.Trees.{AFile, AKey, AnEntry, AnObject, InTreeOf, IsMember, IsWholeTree, Member, TreeStays, member_place}
pub use Rattle.scp03_card.specs.Offer.{Offer, counter_bytes}
pub use Rattle.scp03_card.specs.Opens.{Gives, IsAuthentic, Opens, accepting, field_of}
pub use Rattle.scp03_card.specs.Session.{HasCryptogram, HasMac, Session, session_from}
pub use Rattle.tokens_receipts.specs.Receipt.{receipt, with_length}
pub use Rattle.tokens_receipts.specs.Token.{token}
