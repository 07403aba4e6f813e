-- The rules of the policy: for each its name and its status word (ISO/IEC 7816-4:2013, 5.6). Those of a command stand with
-- the command.
use Rattle.std.specs.Prelude.{ℕ, List, [], ◌∷◌, codes, map}
use Rattle.policy_machine.specs.CardStatus.{card_status_refusal}
use Rattle.policy_machine.specs.CommandForm.{CommandForm}
use Rattle.policy_machine.specs.Delegation.{receipt_refusal, token_refusal}
use Rattle.policy_machine.specs.DeleteKey.{delete_key_refusal}
use Rattle.policy_machine.specs.DeleteObject.{delete_object_refusal}
use Rattle.policy_machine.specs.EntryStatus.{entry_status_refusal}
use Rattle.policy_machine.specs.ExternalAuthenticate.{external_authenticate_refusal}
use Rattle.policy_machine.specs.Extradition.{extradition_refusal}
use Rattle.policy_machine.specs.GetData.{get_data_refusal}
use Rattle.policy_machine.specs.GetStatus.{get_status_refusal}
use Rattle.policy_machine.specs.InitializeUpdate.{initialize_update_refusal}
use Rattle.policy_machine.specs.InstallApplication.{install_refusal}
use Rattle.policy_machine.specs.InstallLoad.{install_load_refusal}
use Rattle.policy_machine.specs.Load.{load_refusal}
use Rattle.policy_machine.specs.MakeSelectable.{selectable_refusal}
use Rattle.policy_machine.specs.ManageChannel.{manage_channel_refusal}
use Rattle.policy_machine.specs.Management.{management_refusal}
use Rattle.policy_machine.specs.PutKey.{put_key_refusal}
use Rattle.policy_machine.specs.Refusal.{Refusal, refusal}
use Rattle.policy_machine.specs.Select.{select_refusal}
use Rattle.policy_machine.specs.StoreData.{store_data_refusal}
use Rattle.policy_machine.specs.declared.rule.Rule.{Rule}
use Rattle.policy_machine.specs.declared.rule.Rule.TheVariants as group
use Rattle.policy_machine.specs.declared.rule.RuleG.TheVariants.{G1, G2, G3, G4, G5, G6, G7, G8}
use Rattle.policy_machine.specs.declared.rule.RulePS.TheVariants.{P, S}

abbrev pub refusal_by : Rule → Refusal
refusal_by (group.G G1) = refusal (codes "G1") 0x6700
refusal_by (group.G G2) = refusal (codes "G2") 0x6E00
refusal_by (group.G G3) = refusal (codes "G3") 0x6881
refusal_by (group.G G4) = refusal (codes "G4") 0x6D00
refusal_by (group.G G5) = refusal (codes "G5") 0x6985
refusal_by (group.G G6) = refusal (codes "G6") 0x6982
refusal_by (group.G G7) = refusal (codes "G7") 0x6982
refusal_by (group.G G8) = refusal (codes "G8") 0x6982
refusal_by (group.PS P) = refusal (codes "P") 0x6A86
refusal_by (group.PS S) = refusal (codes "S") 0x6A80
refusal_by (group.M rule) = management_refusal rule
refusal_by (group.SE rule) = select_refusal rule
refusal_by (group.MC rule) = manage_channel_refusal rule
refusal_by (group.GD rule) = get_data_refusal rule
refusal_by (group.IU rule) = initialize_update_refusal rule
refusal_by (group.EA rule) = external_authenticate_refusal rule
refusal_by (group.PK rule) = put_key_refusal rule
refusal_by (group.DK rule) = delete_key_refusal rule
refusal_by (group.SD rule) = store_data_refusal rule
refusal_by (group.II rule) = install_refusal rule
refusal_by (group.IL rule) = install_load_refusal rule
refusal_by (group.MS rule) = selectable_refusal rule
refusal_by (group.EX rule) = extradition_refusal rule
refusal_by (group.DO rule) = delete_object_refusal rule
refusal_by (group.SC rule) = card_status_refusal rule
refusal_by (group.SS rule) = entry_status_refusal rule
refusal_by (group.GS rule) = get_status_refusal rule
refusal_by (group.LO rule) = load_refusal rule
refusal_by (group.TK rule) = token_refusal rule
refusal_by (group.RC rule) = receipt_refusal rule

abbrev pub name_of : Rule → List ℕ
name_of rule = (refusal_by rule).name

abbrev pub status_of : Rule → ℕ
status_of rule = (refusal_by rule).status

-- those of the rules of each of these forms
abbrev pub statuses_of : List CommandForm → List (List ℕ)
statuses_of [] = []
statuses_of (form ∷ forms) = map status_of form.rules ∷ statuses_of forms
