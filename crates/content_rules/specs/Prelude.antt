-- The names that contracts and proofs here cite, passed on from one place. Declares nothing.
pub use Rattle.bertlv.specs.Spelling.{AreElements, Element}
pub use Rattle.card_types.specs.Aid.{IsAid, same_aid}
pub use Rattle.card_types.specs.Found.{aid_of}
pub use Rattle.card_types.specs.Hierarchy.{IsPath}
pub use Rattle.card_types.specs.Privileges.{ArePrivilegeBytes, authorized_management, bits_of, delegated_management, has}
pub use Rattle.card_types.specs.Registry.{Entry, Key, Registry, domain_of, entry_named, file_named}
pub use Rattle.card_types.specs.Represents.{IsInOrder, Represents, domain_aid, domain_slot, entry_of, file_aid, file_of, thing_in}
pub use Rattle.card_types.specs.Search.{IsFirstFree, NoneFree}
pub use Rattle.card_types.specs.Well.{IsDomainNamed, IsWellEntry, IsWellFile, Well}
pub use Rattle.content_rules.specs.DeleteObjectFound.{FindsThing, HasNoneFrom, HasOthersIn, HasSelected, IsAlone, IsFrom, IsInUseIn, IsLoadDomain, IsPartOutOfCharge, IsUnselected, comes_from_slot, has_slot, is_file_of, is_other_of}
pub use Rattle.content_rules.specs.DeleteObjectRequests.{IsDeletionOf, IsDeletionRequest}
pub use Rattle.content_rules.specs.ExtraditionRequests.{FindsMove, IsExtraditionOf, IsExtraditionRequest}
pub use Rattle.content_rules.specs.FieldsRead.{first_four, given_of, load_data_of}
pub use Rattle.content_rules.specs.FormRefused.{IsFormRefused}
pub use Rattle.content_rules.specs.InstallApplicationRequests.{FindsSource, IsInstallOf, IsInstallRequest, IsOutOfCharge, exceeds_by, is_loaded_as}
pub use Rattle.content_rules.specs.InstallLoadRequests.{IsLoadInstallOf, IsLoadInstallRequest, NamesDomain}
pub use Rattle.content_rules.specs.LoadFound.{FindsDomain, IsForLast, IsForLoad, named_on, number_rules}
pub use Rattle.content_rules.specs.LoadRequests.{IsLoadOf, IsLoadRequest}
pub use Rattle.content_rules.specs.MakeSelectableRequests.{AreGiven, IsInstalledWith, IsSelectableOf, IsSelectableRequest}
pub use Rattle.domain_tree.specs.Above.{Above}
pub use Rattle.domain_tree.specs.Holders.{entry_has}
pub use Rattle.policy_machine.proofs.DeleteObjectLaws.{deletion_judgeable}
pub use Rattle.policy_machine.proofs.ExtraditionLaws.{extradition_judgeable}
pub use Rattle.policy_machine.proofs.InstallApplicationAsking.{install_judgeable}
pub use Rattle.policy_machine.proofs.InstallLoadLaws.{load_install_judgeable}
pub use Rattle.policy_machine.proofs.MakeSelectableLaws.{selectable_judgeable}
pub use Rattle.policy_machine.specs.Admission.{Admitted}
pub use Rattle.policy_machine.specs.Charge.{IsAtOrAbove, IsFileInCharge, IsInCharge, is_privileged}
pub use Rattle.policy_machine.specs.Delegation.{Holds, IsVerifier, MayManage}
pub use Rattle.policy_machine.specs.DeleteKey.{DeleteParameters}
pub use Rattle.policy_machine.specs.DeleteObject.{AsksToDelete, ComesFrom, DeletingFails, DeletionAsked, HasOthers, IsInUse, IsLoadedInto, IsSelected, IsToGo, IsTokenField, managed_delete_object}
pub use Rattle.policy_machine.specs.Extradition.{AsksToExtradite, ExtraditingFails, ExtraditionParameters, IsOutOfReach, IsUnapprovable, is_personalized, managed_extradition}
pub use Rattle.policy_machine.specs.InstallApplication.{AreInstallParameters, AsksToInstall, InstallAsked, InstallParameters, InstallingFails, IsTakenAid, MayBeMade, entry_made, guarded_privileges, managed_install}
pub use Rattle.policy_machine.specs.InstallFields.{AreLengthFields, BeginsWithField, InstallData, IsInstallData, signed_fields}
pub use Rattle.policy_machine.specs.InstallLoad.{AsksToLoad, InstallLoadParameters, InstallingLoadFails, IsLoadData, LoadData, file_domain_for, install_load, judged_install_load, named_or, signed_load_fields}
pub use Rattle.policy_machine.specs.Load.{IsLoadOn, LoadFails, LoadParameters, LoadingFails, block_of, block_rules, front_rules, last_rules, load_rules, loading}
pub use Rattle.policy_machine.specs.LoadBlocks.{Block, HasNoLength, HasNoRoom, HasOtherCount, HasOtherHash, with_block}
pub use Rattle.policy_machine.specs.MakeSelectable.{AsksToMakeSelectable, MakeSelectableParameters, MakingSelectableFails, is_installed, managed_selectable}
pub use Rattle.policy_machine.specs.Malformed.{FormRefuses}
pub use Rattle.policy_machine.specs.ManagedForm.{JudgedForm, OwnFirst, command_form}
pub use Rattle.policy_machine.specs.Management.{ManagementFails, acting}
pub use Rattle.policy_machine.specs.Refusal.{IsFirst}
pub use Rattle.policy_machine.specs.Sound.{IsHashLength, IsSound, IsWellLoad}
pub use Rattle.policy_machine.specs.State.{Channel, LoadSession, Volatile, channel_at}
pub use Rattle.policy_slots.specs.HoldersFound.{FindsConfirmer, IsReceipterIn, MayReceipt}
pub use Rattle.policy_slots.specs.LiveEnds.{after_block}
pub use Rattle.policy_slots.specs.StateShown.{ActsIn, ForActing, ForActingLive, IsLoadNamed, IsSelectedIn, RepresentsState}
pub use Rattle.tokens_receipts.specs.Receipt.{with_length}
