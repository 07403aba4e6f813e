-- The names that the contracts here cite, passed on from one place. Declares nothing.
pub use Rattle.access_matrix.specs.Accepted.{AcceptsAsJudged}
pub use Rattle.access_matrix.specs.Commands.{IsFirstFreeAid, IsTokenFor, module_for, privileges_for}
pub use Rattle.access_matrix.specs.Deeds.{AreUsed, HoldsDomain, deed_of, found_aid}
pub use Rattle.access_matrix.specs.Kinds.{kind_number}
pub use Rattle.access_matrix.specs.Lines.{is_about_locked, line_as, names_room, verb_as}
pub use Rattle.access_matrix.specs.May.{IsSelectable, May, initialize}
pub use Rattle.access_matrix.specs.Next.{HasAllowed, HasCandidate, HasDomain, HasEntry, HasFile, HasPlace, HasPlaceFrom, HasSpot, HasThing, IsCandidate, IsNextByKey, NoneNext, alone, deed_place, place_order, spot_of}
pub use Rattle.access_matrix.specs.Passing.{ForSaid, IsDeedAccepted, IsUsed, deletion_of}
pub use Rattle.access_matrix.specs.Rights.{IsNextRight, NextRightsAreAll, NoRightAfter, deed_kind, right_key}
pub use Rattle.access_matrix.specs.Text.{aid_word, line_of, names_of}
pub use Rattle.access_matrix.specs.There.{judged_there}
pub use Rattle.access_matrix.specs.Walks.{rights_left}
pub use Rattle.arrayvec.specs.ArrayVec.{array_vec_len}
pub use Rattle.card_types.specs.Aid.{IsAid, aid_order, same_aid}
pub use Rattle.card_types.specs.Found.{aid_of}
pub use Rattle.card_types.specs.Privileges.{ArePrivilegeBytes, delegated_management, has, security_domain}
pub use Rattle.card_types.specs.Registry.{Registry}
pub use Rattle.card_types.specs.Represents.{HasLayout, IsInOrder, Represents, domain_aid, file_aid, thing_in}
pub use Rattle.card_types.specs.Search.{is_above}
pub use Rattle.card_types.specs.Well.{IsKeyLength}
pub use Rattle.policy_machine.specs.Admission.{Admitted}
pub use Rattle.policy_machine.specs.CommandForm.{FailsFirst}
pub use Rattle.policy_machine.specs.Delegation.{Holds}
pub use Rattle.policy_machine.specs.DeleteObject.{IsDelegated}
pub use Rattle.policy_machine.specs.InitializeUpdate.{initialize_update}
pub use Rattle.policy_machine.specs.Management.{acting}
pub use Rattle.policy_slots.specs.LiveEnds.{first_live, live_with_channel}
pub use Rattle.policy_slots.specs.StateShown.{ActsIn}
