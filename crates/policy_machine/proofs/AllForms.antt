-- The one place where all commands are gone through: what is shown of each form, and that one form at most takes a command.
use Rattle.std.proofs.Common.{◌≡◌, ℕ, Bool, true, false, List, [], ◌∷◌, ◌++◌, inl, inr, refl}
use Rattle.policy_machine.specs.Prelude.{AtMostOne, CommandForm, OneForm, Takes, forms_if, forms_of}
use Rattle.policy_machine.proofs.ByP1.{TakeP1, TakesP1, are_others, p1_apart, p1_joined}
use Rattle.policy_machine.proofs.CardStatusForm.{card_status_laws, card_status_p1}
use Rattle.policy_machine.proofs.DeleteForms.{deletions_apart}
use Rattle.policy_machine.proofs.DeleteKeyForm.{delete_key_laws}
use Rattle.policy_machine.proofs.DeleteObjectForm.{deletion_laws}
use Rattle.policy_machine.proofs.EntryStatusForm.{entry_status_laws, entry_status_p1}
use Rattle.policy_machine.proofs.ExternalAuthenticateForm.{external_authenticate_laws}
use Rattle.policy_machine.proofs.ExtraditionForm.{extradition_laws, extradition_p1}
use Rattle.policy_machine.proofs.FormLaws.{AreApart, FormLaws}
use Rattle.policy_machine.proofs.GetDataForm.{get_data_laws}
use Rattle.policy_machine.proofs.GetStatusForm.{get_status_laws}
use Rattle.policy_machine.proofs.InitializeUpdateForm.{initialize_update_laws}
use Rattle.policy_machine.proofs.InstallApplicationForm.{install_laws, install_p1}
use Rattle.policy_machine.proofs.InstallLoadForm.{install_load_laws, install_load_p1}
use Rattle.policy_machine.proofs.Lawful.{IsLawful}
use Rattle.policy_machine.proofs.LoadForm.{load_laws}
use Rattle.policy_machine.proofs.MakeSelectableForm.{selectable_laws, selectable_p1}
use Rattle.policy_machine.proofs.ManageChannelForm.{manage_channel_laws}
use Rattle.policy_machine.proofs.PutKeyForm.{put_key_laws}
use Rattle.policy_machine.proofs.SelectForm.{select_laws}
use Rattle.policy_machine.proofs.StoreDataForm.{store_data_laws}

-- it holds of all of these forms
abbrev pub AllOf : (CommandForm → Type 0) → List CommandForm → Type 0
AllOf holds [] = Unit {0}
AllOf holds (form ∷ forms) = holds form × AllOf holds forms

-- the laws of each of these forms, one of which at most takes a command
pub record AreForms (forms : List CommandForm) : Type 0 where
  pub each : AllOf FormLaws forms
  pub one : (ins p1 p2 : ℕ) (body : List ℕ) → AtMostOne (λ form. Takes form ins p1 p2 body) forms

none : AreForms []
none = record { each = tt; one = λ ins p1 p2 body. tt }

-- a form beside others, none of which takes a command that it takes
beside : (form : CommandForm) (forms : List CommandForm) → FormLaws form → AreApart form forms → AreForms forms → AreForms (form ∷ forms)
beside form forms laws apart others = record {
  each = (laws, others.each);
  one = λ ins p1 p2 body. (apart ins p1 p2 body, others.one ins p1 p2 body);
}

-- the only form of an instruction
alone : (form : CommandForm) → FormLaws form → AreForms (form ∷ [])
alone form laws = beside form [] laws (λ ins p1 p2 body takes other. other) none

-- forms that P1 tells apart, with the values of P1 that they take
record AreByP1 (these : List ℕ) (forms : List CommandForm) : Type 0 where
  are : AreForms forms
  p1 : TakeP1 these forms

alone_by_p1 : {these : List ℕ} (form : CommandForm) → FormLaws form → TakesP1 these form → AreByP1 these (form ∷ [])
alone_by_p1 form laws mine = record {
  are = alone form laws;
  p1 = λ ins p1 p2 body takes. elim takes [ inl here ↦ mine.of p1 p2 here.1 | inr other ↦ absurd other ];
}

-- a form beside others, none of which takes its values of P1
beside_by_p1 : {these others : List ℕ} (form : CommandForm) (forms : List CommandForm) → FormLaws form → TakesP1 these form → are_others these others ≡ true
    → AreByP1 others forms → AreByP1 (these ++ others) (form ∷ forms)
beside_by_p1 {these} {others} form forms laws mine differ rest = record {
  are = beside form forms laws (p1_apart form forms these others mine rest.p1 differ) rest.are;
  p1 = p1_joined form forms these others mine rest.p1;
}

-- the instruction has these forms, or it is another
either : (test : Bool) (these others : List CommandForm) → AreForms these → AreForms others → AreForms (forms_if test these others)
either true these others these_are others_are = these_are
either false these others these_are others_are = others_are

pub all_forms : (ins : ℕ) → AreForms (forms_of ins)
all_forms ins =
    either _ _ _ (alone _ select_laws)
    (either _ _ _ (alone _ manage_channel_laws)
    (either _ _ _ (alone _ get_data_laws)
    (either _ _ _ (alone _ initialize_update_laws)
    (either _ _ _ (alone _ external_authenticate_laws)
    (either _ _ _ (alone _ put_key_laws)
    (either _ _ _ (alone _ store_data_laws)
    (either _ _ _ (beside _ _ delete_key_laws deletions_apart (alone _ deletion_laws))
    (either _ _ _ (beside_by_p1 _ _ install_laws install_p1 refl
    (beside_by_p1 _ _ selectable_laws selectable_p1 refl
    (beside_by_p1 _ _ extradition_laws extradition_p1 refl
    (alone_by_p1 _ install_load_laws install_load_p1)))).are
    (either _ _ _ (beside_by_p1 _ _ card_status_laws card_status_p1 refl (alone_by_p1 _ entry_status_laws entry_status_p1)).are
    (either _ _ _ (alone _ load_laws)
    (either _ _ _ (alone _ get_status_laws) none)))))))))))

pub one_form : OneForm
one_form ins p1 p2 body = (all_forms ins).one ins p1 p2 body

-- what is so of each form by its laws is so of all forms of an instruction
lawful_of : (forms : List CommandForm) → AllOf FormLaws forms → AllOf IsLawful forms
lawful_of [] each = tt
lawful_of (form ∷ forms) each = (each.0.lawful, lawful_of forms each.1)

pub lawful_forms : (ins : ℕ) → AllOf IsLawful (forms_of ins)
lawful_forms ins = lawful_of (forms_of ins) (all_forms ins).each
