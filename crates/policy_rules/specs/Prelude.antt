-- The names that contracts and proofs here cite, passed on from one place. Declares nothing.
pub use Rattle.apdu_core.specs.Apdu.{Apdu}
pub use Rattle.bertlv.specs.Spelling.{AreElements, BeginsWith, Element, Spelling}
pub use Rattle.bertlv.specs.Tag.{IsTag}
pub use Rattle.card_types.specs.Aid.{IsAid, NotAbove, aid_order, same_aid}
pub use Rattle.card_types.specs.CardLife.{card_life_code}
pub use Rattle.card_types.specs.Counters.{HasNextCounter}
pub use Rattle.card_types.specs.Found.{IsAbove, aid_of}
pub use Rattle.card_types.specs.Hierarchy.{IsLine, IsPath}
pub use Rattle.card_types.specs.KeySets.{AreKeysOf, HaveKeyLength}
pub use Rattle.card_types.specs.Privileges.{has, security_domain}
pub use Rattle.card_types.specs.Registry.{Counter, Entry, IsAscending, Registry, domain_of, entry_named, is_domain}
pub use Rattle.card_types.specs.Represents.{HasLayout, IsInOrder, Represents, counter_of, domain_aid, domain_slot, entry_of, file_of, keeps_counter, key_of, object_of, thing_in, things_in}
pub use Rattle.card_types.specs.Search.{NoneFits}
pub use Rattle.card_types.specs.Well.{IsDomainNamed, IsKeyLength, IsObject, IsRoot, IsWellCounter, IsWellEntry, IsWellFile, IsWellObject, LeadsToRoot, Well}
pub use Rattle.content_rules.specs.LoadFound.{IsForLoad}
pub use Rattle.domain_tree.specs.Above.{Above, IsAboveIn}
pub use Rattle.key_rules.specs.PutFails.{NoneHolds, PutFails}
pub use Rattle.policy_machine.proofs.Judging.{judged}
pub use Rattle.policy_machine.specs.Admission.{Admitted}
pub use Rattle.policy_machine.specs.CardStatus.{CardStatusParameters, IsCardStep, IsLocking, IsPreparing, IsTerminating, SettingCardFails, card_lock, card_terminate, managed_card_status}
pub use Rattle.policy_machine.specs.Charge.{IsAtOrAbove, is_privileged}
pub use Rattle.policy_machine.specs.CommandForm.{FailsFirst}
pub use Rattle.policy_machine.specs.Commands.{IsBuilt, Judges, Takes, TakesCommand}
pub use Rattle.policy_machine.specs.DataObjects.{AreObjects, is_object_of, new_tags}
pub use Rattle.policy_machine.specs.Delegation.{Holds}
pub use Rattle.policy_machine.specs.DeleteKey.{AsksToDeleteKey, Chooses, DeleteParameters, DeletingKeyFails, IsLastSet, KeyChosen, NamesPart, managed_delete_key}
pub use Rattle.policy_machine.specs.DeleteObject.{managed_delete_object}
pub use Rattle.policy_machine.specs.EntryStatus.{EntryStatusParameters, IsEntryStep, Marks, PersonalizesItself, SettingStatusFails, global_lock, managed_entry_status}
pub use Rattle.policy_machine.specs.Extradition.{managed_extradition}
pub use Rattle.policy_machine.specs.GetData.{AsksFor, HasData, IsDataObject, IsSequenceCounter, key_information, tag_of}
pub use Rattle.policy_machine.specs.GetStatus.{AFile, AnEntry, BeginsAbove, GetStatusFails, IsIn, IsInTree, IsListed, IsListedBy, IsListing, IsPlaceOf, IsSearch, IsToBeShown, ListingFails, Sees, StatusParameters, Thing, aid_in, get_status, get_status_rules, global_registry, last_aid, place_before, tag_list}
pub use Rattle.policy_machine.specs.InitializeUpdate.{AsksForSet, InitializeUpdateFails, offer_rules}
pub use Rattle.policy_machine.specs.InstallApplication.{managed_install}
pub use Rattle.policy_machine.specs.InstallLoad.{install_load}
pub use Rattle.policy_machine.specs.KeyFields.{AreFields, BeginsWithKey, NoFields}
pub use Rattle.policy_machine.specs.KeySets.{UsesCounter, UsesSet, counters_but, has_key_version, is_counter_numbered, keys_but, set_counter}
pub use Rattle.policy_machine.specs.Load.{LoadFails, front_rules}
pub use Rattle.policy_machine.specs.MakeSelectable.{managed_selectable}
pub use Rattle.policy_machine.specs.Malformed.{FormRefuses, IsMalformed}
pub use Rattle.policy_machine.specs.ManageChannel.{is_closed, lowest_closed}
pub use Rattle.policy_machine.specs.ManagedForm.{JudgedFirst, OwnFirst, command_form}
pub use Rattle.policy_machine.specs.Management.{ManagementFails, acting}
pub use Rattle.policy_machine.specs.PutKey.{HasKeyFields, IsNewVersion, KeysAsked, PutKeyFails, PutKeyParameters, PuttingKeyFails, SaysChecks, SentKey, TellsChecks, key_count, keys_left, managed_put_key, own_keys_left, sealed_size}
pub use Rattle.policy_machine.specs.PutKeyRules.{key_rules, version_rules}
pub use Rattle.policy_machine.specs.Refusal.{IsFirst}
pub use Rattle.policy_machine.specs.Select.{fits_as, is_card_locked, least_fitting}
pub use Rattle.policy_machine.specs.Sound.{IsSound}
pub use Rattle.policy_machine.specs.State.{Channel, Place, State, channel_at, place_in, selected_on}
pub use Rattle.policy_machine.specs.StoreData.{HasObjects, StoreDataField, StoreDataParameters, StoringFails, managed_store_data, objects_stored}
pub use Rattle.policy_rules.specs.Found.{IsFor}
pub use Rattle.policy_rules.specs.GetStatusRequests.{IsFirstShown, IsListOf, IsListedAs, IsListedAt, IsNextListed, IsPlaceBefore, IsThingAt, NoneListed, found_in, lower_of}
pub use Rattle.policy_rules.specs.Requests.{Decodes, IsJudgedAfter, IsMeant, IsRequestOf, Parses, form_in, sent_key, sent_keys}
pub use Rattle.policy_rules.specs.SetStatusRequests.{IsCardStatusOf, IsChangeFor, IsEntryStatusOf, IsEntryStatusRequest, IsOther, IsSlotStep, IsStepBy, MaySet, MayStep, slot_of}
pub use Rattle.policy_slots.specs.KeyOrder.{UsesSetOfKey, follows, holds_counter_but, keeps_counter_of}
pub use Rattle.policy_slots.specs.ObjectsHeld.{has_object_in, is_tagged_in}
pub use Rattle.policy_slots.specs.StateShown.{ActsAsBefore, ActsIn, ForActingLive, ForSound, IsSelectedIn, RepresentsState, TellsCard, place_of}
pub use Rattle.scp03_card.specs.Offer.{counter_bytes}
