-- The laws of SELECT.
use Rattle.std.proofs.Common.{◌≡◌, ℕ, List, [], ◌∷◌, Bool, true, false, Option, None, Some, refl, sym, ap, subst, ◌∙◌}
use Rattle.std.specs.Prelude.{IsSome, MatchOption, find, cond}
use Rattle.card_types.proofs.SameAid.{aid_same_itself}
use Rattle.policy_machine.specs.Prelude.{Admitted, AreElements, Effect, Entry, Fits, IsControlInformation, IsSound, Judges, Registry, SelectEffect, SelectsEntry, Spelling, TakesCommand, control_parts, entry_named, fits_select, fresh, least_fitting, same_aid, select, with_selected}
use Rattle.policy_machine.proofs.SetChannel.{ended_fits}
use Rattle.policy_machine.proofs.SecureChannelSet.{within}
use Rattle.bertlv.proofs.SpellingLemmas.{one_spelling, one_spelling_each}
use Rattle.policy_machine.proofs.SameEffect.{effect_same, state_same}
use Rattle.policy_machine.proofs.Lawful.{HasNoPlaceOn, IsLawful, IsReady, found_so, placeless_same, placeless_set, same_as, sound_with}
use Rattle.policy_machine.proofs.FreshChannel.{fresh_is_well}
use Rattle.card_types.specs.Registry as registry
use Rattle.policy_machine.proofs.Judging.{judged}
use Rattle.policy_machine.specs.declared.rule.Rule.TheVariants.{SE}
use Rattle.policy_machine.specs.declared.select.RuleSE.{RuleSE}
use Rattle.policy_machine.specs.declared.select.RuleSE.TheVariants.{SE1}
use Rattle.std.proofs.Common.{inl, inr}

-- what passes one test is there for another
found_for : (test other : Entry → Bool) (entries : List Entry) (entry : Entry) → find test entries ≡ Some entry → other entry ≡ true → IsSome (find other entries)
found_for test other [] entry found passes = cc
found_for test other (first ∷ entries) entry found passes = by (test first) found (other first) refl (λ behind. found_for test other entries entry behind passes)
  where
    by : (is : Bool) → cond is (Some first) (find test entries) ≡ Some entry → (too : Bool) → other first ≡ too
        → (find test entries ≡ Some entry → IsSome (find other entries)) → IsSome (cond too (Some first) (find other entries))
    by is some true same more = refl
    by true some false same more = (let here : first ≡ entry = cc in let clash = sym same ∙ ap other here ∙ passes in cc)
    by false some false same more = more some

pub fitting_is_named : (registry : Registry) (partial : List ℕ) (entry : Entry) → least_fitting registry partial ≡ Some entry
    → IsSome (entry_named registry entry.aid)
fitting_is_named registry partial entry found =
    found_for (fits_select registry.life partial) (λ e. same_aid e.aid entry.aid) registry.entries entry found (aid_same_itself entry.aid)

-- the entry that is selected
selected : (admitted : Admitted) (done : Effect) → SelectEffect admitted done
    → (entry : Entry) × (least_fitting admitted.at.registry admitted.command.body ≡ Some entry) × SelectsEntry admitted done entry
selected admitted done = found_so (SelectsEntry admitted done) (least_fitting admitted.at.registry admitted.command.body)

select_keeps : (admitted : Admitted) (done : Effect) → IsReady admitted → SelectEffect admitted done → IsSound done.state
select_keeps admitted done ready does =
    let registry = admitted.at.registry in
    let volatile = admitted.at.volatile in
    let it = selected admitted done does in
    let fits = ended_fits registry volatile admitted.channel (Some (fresh it.0.aid)) ready.sound.fits
    (within registry volatile admitted.channel ready.sound.fits ready.low)
    (fresh_is_well registry it.0.aid (fitting_is_named registry admitted.command.body it.0 it.1)) (λ first. refl) in
    sound_with admitted.at done.state ready.sound it.2.registry (subst (Fits registry) (sym it.2.volatile) fits)

control_information_one : (aid a b : List ℕ) → IsControlInformation aid a → IsControlInformation aid b → a ≡ b
control_information_one aid a b one other =
    let proprietary = one_spelling 0x9F65 (0xFF ∷ []) one.proprietary other.proprietary one.longest other.longest in
    let parts = subst (λ (p : List ℕ). AreElements (control_parts aid p) one.template) proprietary one.parts in
    let template = one_spelling_each (control_parts aid other.proprietary) one.template other.template parts other.parts in
    one_spelling 0x6F other.template a b (subst (λ (t : List ℕ). Spelling 0x6F t a) template one.whole) other.whole

select_one : (admitted : Admitted) (a b : Effect) (found : Option registry.Entry)
    → MatchOption found ⊥ (SelectsEntry admitted a) → MatchOption found ⊥ (SelectsEntry admitted b) → a ≡ b
select_one admitted a b None one other = absurd one
select_one admitted a b (Some entry) one other =
    effect_same a b
    (state_same a.state b.state (one.registry ∙ sym other.registry) (one.volatile ∙ sym other.volatile))
    (control_information_one entry.aid a.body b.body one.body other.body)
    (one.status ∙ sym other.status)

selects_placeless : (admitted : Admitted) (done : Effect) → HasNoPlaceOn admitted.at.volatile admitted.channel → SelectEffect admitted done
    → HasNoPlaceOn done.state.volatile admitted.channel
selects_placeless admitted done none does =
    let it = selected admitted done does in
    placeless_same (with_selected admitted.at.volatile admitted.channel it.0.aid) done.state.volatile admitted.channel it.2.volatile
    (placeless_set admitted.at.volatile admitted.channel admitted.channel (Some (fresh it.0.aid)) refl none)

pub select_lawful : IsLawful select
select_lawful = record {
  keeps = λ admitted done ready judges does. select_keeps admitted done ready does;
  one = λ admitted a b one other. select_one admitted a b _ one other;
  quiet = λ unmanaged admitted done does. same_as admitted.at.registry done.state.registry (selected admitted done does).2.registry;
  without_place = λ other admitted done none does. selects_placeless admitted done none does;
}

-- how it is judged, by what was found
module _ (admitted : Admitted) (partial : List ℕ) (takes : TakesCommand select admitted.command) (body : partial ≡ admitted.command.body) where
  pub select_passes : (entry : Entry) → least_fitting admitted.at.registry partial ≡ Some entry
      → Judges admitted None × (least_fitting admitted.at.registry admitted.command.body ≡ Some entry)
  select_passes entry found =
      let here = subst (λ (p : List ℕ). least_fitting admitted.at.registry p ≡ Some entry) body found in
      (judged select (λ P is. inl is) admitted takes refl None (inr ((λ none. (let other = sym none ∙ here in cc)), refl)), here)

  pub select_refused : (rule : RuleSE) → least_fitting admitted.at.registry partial ≡ None → Judges admitted (Some (SE rule))
  select_refused SE1 none =
      judged select (λ P is. inl is) admitted takes refl (Some (SE SE1))
      (inl (subst (λ (p : List ℕ). least_fitting admitted.at.registry p ≡ None) body none, refl))
