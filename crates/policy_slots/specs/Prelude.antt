-- The names that contracts and proofs here cite, passed on from one place. Declares nothing.
pub use Rattle.apdu_core.specs.Apdu.{Apdu}
pub use Rattle.bertlv.specs.Spelling.{AreElements, Element}
pub use Rattle.card_types.specs.Aid.{aid_order, same_aid}
pub use Rattle.card_types.specs.Found.{aid_of}
pub use Rattle.card_types.specs.Hierarchy.{IsLine}
pub use Rattle.card_types.specs.KeySets.{HasKey, IsKeyOf, is_key}
pub use Rattle.card_types.specs.Privileges.{bits_of, delegated_management, security_domain}
pub use Rattle.card_types.specs.Registry.{Entry, Registry, domain_of, entry_named, file_named, is_domain, key_named, key_order}
pub use Rattle.card_types.specs.Represents.{IsInOrder, Represents, counter_of, domain_aid, domain_slot, entry_of, file_of, keeps_counter, key_of, object_of, thing_in, things_in}
pub use Rattle.card_types.specs.Search.{IsLeast, NoneFits}
pub use Rattle.card_types.specs.Well.{IsDomainNamed, IsKeyLength, IsKeyName, IsWellFile, IsWellKey, Well}
pub use Rattle.domain_tree.specs.Above.{Above, IsAboveIn, IsFirstAbove, NoneAbove}
pub use Rattle.domain_tree.specs.Holders.{entry_has}
pub use Rattle.key_rules.specs.Staying.{is_of, staying}
pub use Rattle.policy_machine.specs.Admission.{Admitted}
pub use Rattle.policy_machine.specs.Charge.{IsAtOrAbove, IsFileInCharge, IsInCharge, is_privileged}
pub use Rattle.policy_machine.specs.DataObjects.{has_tag_in, is_object_of}
pub use Rattle.policy_machine.specs.Delegation.{Approval, Holds, IsNearestHolder, MayManage, NoHolder, ReceiptFails, TokenFails, has_with_key, token_rules}
pub use Rattle.policy_machine.specs.Extradition.{domain_of_thing, entry_domain, file_domain}
pub use Rattle.policy_machine.specs.KeySets.{NoSetToUse, OwnsSets, UsesSet, counters_but, has_key_version, has_set, is_counter_numbered, is_key_numbered, keys_but, lowest_counter, set_counter}
pub use Rattle.policy_machine.specs.ManagedForm.{AskedFails, IsJudgeable, JudgedFails, JudgedFirst, JudgedForm, OfEach, OwnFirst}
pub use Rattle.policy_machine.specs.Management.{ManagementFails, acting}
pub use Rattle.policy_machine.specs.Refusal.{IsFirst}
pub use Rattle.policy_machine.specs.Select.{is_card_locked}
pub use Rattle.policy_machine.specs.Sound.{IsSound}
pub use Rattle.policy_machine.specs.State.{Channel, State, channel_at, selected_of, selected_on}
pub use Rattle.policy_slots.specs.HoldersFound.{FindsConfirmer, FindsReceipter, IsSignedFor, MayReceipt, approval_of, has_with_key_in, holds_lone_key}
pub use Rattle.policy_slots.specs.KeyOrder.{UsesSetOfKey, follows, has_set_in, holds_counter_of, is_past, keeps_counter_of, keeps_counter_with, name_order, version_order}
pub use Rattle.policy_slots.specs.ObjectsHeld.{has_object_in, is_tagged_in}
pub use Rattle.policy_slots.specs.RequestJudged.{IsBroughtFor, IsTokenForm, OwnRefuses, receipt_rules}
pub use Rattle.policy_slots.specs.StateShown.{ActsIn, ForActing, ForEntry, IsSelectedIn, RepresentsState, TellsCard}
pub use Rattle.tokens_receipts.specs.Token.{token}
