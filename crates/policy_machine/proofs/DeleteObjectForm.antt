-- DELETE of an object: what the laws over all commands need of the form.
use Rattle.std.proofs.Common.{◌≡◌, ◌⊎◌, ℕ, List, Option, None, Some, inl, inr, refl, subst, sym}
use Rattle.policy_machine.specs.Prelude.{Admitted, Channel, ComesFrom, DeletingFails, DeletionAsked, HasOthers, IsDelegated, IsInUse, IsLoadedInto, IsToGo, Registry, changing, channel_at, command_form, managed_delete_object, selection_of, without_thing}
use Rattle.std.specs.Prelude.{MatchOption}
use Rattle.policy_machine.specs.declared.delete_object.RuleDO.{RuleDO}
use Rattle.policy_machine.specs.declared.delete_object.RuleDO.TheVariants.{DO4}
use Rattle.policy_machine.proofs.Alike.{IsAlike, IsAlikeForm, by_seen, same_selection, unchanged}
use Rattle.policy_machine.proofs.AlikeManaged.{judged_alike}
use Rattle.policy_machine.proofs.DeleteObjectLaws.{managed_delete_object_lawful}
use Rattle.policy_machine.proofs.DeleteObjectSpares.{deletion_sparing}
use Rattle.policy_machine.proofs.FormLaws.{FormLaws, managed_laws}
use Rattle.policy_machine.proofs.Instructed.{among}
use Rattle.policy_machine.proofs.Lawful.{sound_of_card}
use Rattle.policy_machine.proofs.NumbersKept.{KeepsNumbers, found_numbers}
use Rattle.policy_machine.proofs.RisingForms.{KeepsAllNumbers}
use Rattle.policy_machine.proofs.TreesRemoved.{named_was}

-- whether an AID is selected on a channel, by what is selected there
on_channel : (aid : List ℕ) (channel : Option Channel)
    → (MatchOption channel ⊥ (λ opened. opened.selected ≡ aid) → MatchOption (selection_of channel) ⊥ (λ one. one ≡ aid))
    × (MatchOption (selection_of channel) ⊥ (λ one. one ≡ aid) → MatchOption channel ⊥ (λ opened. opened.selected ≡ aid))
on_channel aid None = unchanged
on_channel aid (Some channel) = unchanged

in_use_alike : (aid : List ℕ) → IsAlike (λ x. IsInUse x aid)
in_use_alike aid a b alike (inl (number, here)) =
    let there = (on_channel aid (channel_at a.at.volatile number)).0 here in
    let same = subst (λ (one : Option (List ℕ)). MatchOption one ⊥ (λ other. other ≡ aid)) (same_selection a b alike number) there in
    inl (number, (on_channel aid (channel_at b.at.volatile number)).1 same)
in_use_alike aid a b alike (inr other) =
    inr (by_seen (λ x. IsLoadedInto x.at.volatile aid ⊎ HasOthers x.at.registry aid) (λ x. unchanged) a b alike other)

to_go_alike : (thing aid : List ℕ) → IsAlike (λ x. IsToGo x thing aid)
to_go_alike thing aid = by_seen (λ x. IsToGo x thing aid) (λ x. unchanged)

-- something comes from the Executable Load File, which is to go alone
abbrev LeavesOthers : Admitted → List ℕ → Type 0
LeavesOthers x thing = (x.command.p2 ≡ 0x00) × ((aid : List ℕ) × ComesFrom x.at.registry thing aid)

deleting_alike : (asked : DeletionAsked) (rule : RuleDO) → IsAlike (λ x. DeletingFails x asked rule)
deleting_alike asked DO4 a b alike (inl (aid, goes, used)) = inl (aid, to_go_alike asked.aid aid a b alike goes, in_use_alike aid a b alike used)
deleting_alike asked DO4 a b alike (inr leaves) = inr (by_seen (λ x. LeavesOthers x asked.aid) (λ x. unchanged) a b alike leaves)
deleting_alike asked rule a b alike fails = by_seen (λ x. DeletingFails x asked rule) (λ x. unchanged) a b alike fails

deletion_alike : IsAlikeForm (command_form managed_delete_object)
deletion_alike = judged_alike managed_delete_object.judged (by_seen IsDelegated (λ x. unchanged)) deleting_alike

deletion_numbers : KeepsAllNumbers managed_delete_object
deletion_numbers admitted asked changed passed becomes =
    let before = admitted.at.registry in
    subst (λ (r : Registry). KeepsNumbers before r) (sym becomes)
    (found_numbers before (without_thing before asked.aid) (λ aid entry named.
    named_was before (sound_of_card passed.sound) asked.aid aid entry named))

pub deletion_laws : FormLaws (command_form managed_delete_object)
deletion_laws = managed_laws managed_delete_object managed_delete_object_lawful (among changing 0xE4 refl) deletion_numbers deletion_sparing (inl deletion_alike)
