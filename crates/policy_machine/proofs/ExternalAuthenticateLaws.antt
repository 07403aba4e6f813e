-- The laws of EXTERNAL AUTHENTICATE.
use Rattle.std.proofs.Common.{◌≡◌, ℕ, refl, sym, subst, ◌∙◌}
use Rattle.std.specs.Prelude.{◌==◌, if◌then◌else◌}
use Rattle.policy_machine.specs.Prelude.{Admitted, Effect, ExternalAuthenticateEffect, ExternalAuthenticateFails, Fits, FormFails, HasCryptogram, HasMac, IsFirst, IsSound, Judges, Offer, Secured, TakesCommand, code_of, external_authenticate, external_authenticate_rules, offer_on, rules_before_form, session_from, with_secure_channel}
use Rattle.policy_machine.proofs.SecureChannelSet.{offer_stands, secured_fits}
use Rattle.card_types.proofs.OneOfCode.{level_by_code}
use Rattle.card_types.specs.declared.level.Level.{Level}
use Rattle.policy_machine.proofs.SameEffect.{effect_same, state_same}
use Rattle.policy_machine.proofs.Lawful.{IsLawful, IsReady, place_leaves_secure_channel, same_as, some_same, sound_with}
use Rattle.std.proofs.Common.{Bool, true, false, List, [], ◌∷◌, ◌++◌, Option, None, Some, inl, inr}
use Rattle.std.proofs.lemmas.Bool.{eqb-true}
use Rattle.policy_machine.proofs.Judging.{BeginPasses, judged_after}
use Rattle.policy_machine.specs.declared.external_authenticate.RuleEA.TheVariants.{EA1, EA2, EA3}
use Rattle.policy_machine.specs.declared.rule.RulePS.TheVariants.{P, S}
use Rattle.policy_machine.specs.declared.rule.Rule.{Rule}
use Rattle.policy_machine.specs.declared.rule.Rule.TheVariants.{EA, PS}

external_authenticate_keeps : (admitted : Admitted) (done : Effect) → IsReady admitted → ExternalAuthenticateEffect admitted done → IsSound done.state
external_authenticate_keeps admitted done ready does =
    let registry = admitted.at.registry in
    let volatile = admitted.at.volatile in
    let stands = offer_stands registry volatile admitted.channel ready.sound.fits ready.low does.offer does.answers.0 in
    let fits = secured_fits registry volatile admitted.channel ready.sound.fits ready.low (session_from does.offer does.level) stands in
    sound_with admitted.at done.state ready.sound does.registry (subst (Fits registry) (sym does.volatile) fits)

external_authenticate_one : (admitted : Admitted) (a b : Effect) → ExternalAuthenticateEffect admitted a → ExternalAuthenticateEffect admitted b → a ≡ b
external_authenticate_one admitted a b one other =
    let offers = some_same one.offer other.offer (sym one.answers.0 ∙ other.answers.0) in
    let levels = level_by_code one.level other.level (one.answers.1 ∙ sym other.answers.1) in
    effect_same a b
    (state_same a.state b.state (one.registry ∙ sym other.registry)
    (one.volatile ∙ (λ i. with_secure_channel admitted.at.volatile admitted.channel (Secured (session_from (offers i) (levels i)))) ∙ sym other.volatile))
    (one.body ∙ sym other.body)
    (one.status ∙ sym other.status)

pub external_authenticate_lawful : IsLawful external_authenticate
external_authenticate_lawful = record {
  keeps = λ admitted done ready judges does. external_authenticate_keeps admitted done ready does;
  one = external_authenticate_one;
  quiet = λ unmanaged admitted done does. same_as admitted.at.registry done.state.registry does.registry;
  without_place = λ other admitted done none does. place_leaves_secure_channel admitted.at.volatile done.state.volatile admitted.channel _ does.volatile none;
}

-- that there is an offer stands before the rules on the form, of this command alone
pub begin_passes : (admitted : Admitted) → (admitted.command.ins ≡ external_authenticate.instruction → offer_on admitted.at.volatile admitted.channel ≡ None → ⊥)
    → BeginPasses admitted
begin_passes admitted offered = by (admitted.command.ins == 0x82) refl
  where
    by : (test : Bool) → (admitted.command.ins == 0x82) ≡ test → IsFirst (FormFails admitted) (if test then EA EA1 ∷ [] else []) None
    by true is = inr (offered (eqb-true admitted.command.ins 0x82 is), refl)
    by false is = refl

pub unoffered_judged : (admitted : Admitted) → admitted.command.ins ≡ external_authenticate.instruction → offer_on admitted.at.volatile admitted.channel ≡ None
    → Judges admitted (Some (EA EA1))
unoffered_judged admitted is none = inl (record {
  rule = EA EA1;
  found_is = refl;
  first = subst (λ (ins : ℕ). IsFirst (FormFails admitted) (rules_before_form ins ++ PS P ∷ PS S ∷ []) (Some (EA EA1))) (sym is) (inl (none, refl));
})

pub answer_judged : (admitted : Admitted) (found : Option Rule) → TakesCommand external_authenticate admitted.command
    → (offer_on admitted.at.volatile admitted.channel ≡ None → ⊥) → IsFirst (ExternalAuthenticateFails admitted) external_authenticate_rules found
    → Judges admitted found
answer_judged admitted found takes offered first =
    judged_after external_authenticate (λ holds is. inl is) admitted takes (begin_passes admitted (λ is. offered)) found first

-- how an answer to an offer is judged
module _ (admitted : Admitted) (level : Level) (body : List ℕ) (takes : TakesCommand external_authenticate admitted.command)
    (code : code_of level ≡ admitted.command.p1) (same : body ≡ admitted.command.body)
    (offer : Offer) (is : offer_on admitted.at.volatile admitted.channel ≡ Some offer) where
  there : offer_on admitted.at.volatile admitted.channel ≡ None → ⊥
  there none = (let clash = sym none ∙ is in cc)

  pub wrong_cryptogram : (HasCryptogram offer body → ⊥) → Judges admitted (Some (EA EA2))
  wrong_cryptogram wrong =
      answer_judged admitted (Some (EA EA2)) takes there
      (inl ((offer, level, (is, code), (λ right. wrong (subst (HasCryptogram offer) (sym same) right))), refl))

  cryptogram_passes : HasCryptogram offer body → ExternalAuthenticateFails admitted (EA EA2) → ⊥
  cryptogram_passes right (other, at, answers, wrong) =
      wrong (subst (λ (o : Offer). HasCryptogram o admitted.command.body) (some_same offer other (sym is ∙ answers.0)) (subst (HasCryptogram offer) same right))

  pub wrong_mac : HasCryptogram offer body → (HasMac offer level body → ⊥) → Judges admitted (Some (EA EA3))
  wrong_mac right wrong =
      answer_judged admitted (Some (EA EA3)) takes there
      (inr (cryptogram_passes right, inl ((offer, level, (is, code), (λ mac. wrong (subst (HasMac offer level) (sym same) mac))), refl)))

  mac_passes : HasMac offer level body → ExternalAuthenticateFails admitted (EA EA3) → ⊥
  mac_passes right (other, at, answers, wrong) =
      wrong (subst (λ (l : Level). HasMac other l admitted.command.body) (level_by_code level at (code ∙ sym answers.1))
      (subst (λ (o : Offer). HasMac o level admitted.command.body) (some_same offer other (sym is ∙ answers.0)) (subst (HasMac offer level) same right)))

  pub answer_passes : HasCryptogram offer body → HasMac offer level body → Judges admitted None
  answer_passes right mac = answer_judged admitted None takes there (inr (cryptogram_passes right, inr (mac_passes mac, refl)))
