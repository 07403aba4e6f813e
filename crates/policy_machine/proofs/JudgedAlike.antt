-- Commands that are alike are judged alike.
use Rattle.std.proofs.Common.{◌≡◌, ◌≢◌, ℕ, Bool, List, [], ◌∷◌, ◌++◌, Option, None, Some, inl, inr, sym, ap, subst, ◌∙◌}
use Rattle.std.proofs.lemmas.Bool.{ne_eqb}
use Rattle.std.specs.Prelude.{if◌then◌else◌}
use Rattle.policy_machine.specs.Prelude.{Admitted, AlikeAreJudgedAlike, AreAlike, CommandForm, FormFails, IsFirst, JudgesAs, JudgesForm, OneOf, TakesCommand, form_rules, forms_of}
use Rattle.policy_machine.specs.declared.external_authenticate.RuleEA.TheVariants.{EA1}
use Rattle.policy_machine.specs.declared.instruction.TheConstants.{EXTERNAL_AUTHENTICATE, PUT_KEY}
use Rattle.policy_machine.specs.declared.rule.Rule.{Rule}
use Rattle.policy_machine.specs.declared.rule.Rule.TheVariants.{EA, PS}
use Rattle.policy_machine.specs.declared.rule.RulePS.TheVariants as form_rule
use Rattle.policy_machine.proofs.Alike.{IsAlikeForm, alike_back, by_seen, unchanged}
use Rattle.policy_machine.proofs.AllForms.{AllOf, all_forms}
use Rattle.policy_machine.proofs.FormLaws.{FormLaws, LooksAlike}
use Rattle.policy_machine.proofs.FirstLike.{first_like}

-- of the rules on the form, where none stands before them
abbrev on_form : List Rule
on_form = PS form_rule.P ∷ PS form_rule.S ∷ []

none_before : (ins : ℕ) → ins ≢ EXTERNAL_AUTHENTICATE → form_rules ins ≡ on_form
none_before ins answers = ap (λ (test : Bool). (if test then EA EA1 ∷ [] else []) ++ on_form) (ne_eqb ins EXTERNAL_AUTHENTICATE answers)

module _ (a b : Admitted) (alike : AreAlike a b) (puts : a.command.ins ≢ PUT_KEY) (answers : a.command.ins ≢ EXTERNAL_AUTHENTICATE) (found : Option Rule) where
  form_alike : (first : Option Rule) → JudgesForm a first → JudgesForm b first
  form_alike first judges =
      let judged = subst (λ (rules : List Rule). IsFirst (FormFails a) rules first) (none_before a.command.ins answers) judges in
      let same = by_seen (λ x. IsFirst (FormFails x) on_form first) (λ x. unchanged) a b alike judged in
      subst (λ (rules : List Rule). IsFirst (FormFails b) rules first) (sym (none_before b.command.ins (λ is. answers (alike.ins ∙ is)))) same

  takes_alike : (form : CommandForm) → TakesCommand form a.command → TakesCommand form b.command
  takes_alike form takes = by_seen (λ x. TakesCommand form x.command) (λ x. unchanged) a b alike takes

  fails_alike : (form : CommandForm) → IsAlikeForm form → JudgesAs form a found → JudgesAs form b found
  fails_alike form so judges = (
    takes_alike form judges.0,
    first_like (form.fails a) (form.fails b) (λ rule fails. so rule a b alike fails) (λ rule fails. so rule b a (alike_back a b alike) fails) form.rules found judges.1,
  )

  -- the form is not one of the two that are judged by keys and cryptograms
  looks_alike : (form : CommandForm) → LooksAlike form → TakesCommand form a.command → IsAlikeForm form
  looks_alike form (inl so) takes = so
  looks_alike form (inr (inl is)) takes = absurd (puts (takes.0 ∙ is))
  looks_alike form (inr (inr is)) takes = absurd (answers (takes.0 ∙ is))

  one_alike : (forms : List CommandForm) → AllOf FormLaws forms → OneOf (λ form. JudgesAs form a found) forms → OneOf (λ form. JudgesAs form b found) forms
  one_alike [] each one = one
  one_alike (form ∷ forms) each (inl here) = inl (fails_alike form (looks_alike form each.0.alike here.0) here)
  one_alike (form ∷ forms) each (inr later) = inr (one_alike forms each.1 later)

  own_alike : OneOf (λ form. JudgesAs form a found) (forms_of a.command.ins) → OneOf (λ form. JudgesAs form b found) (forms_of b.command.ins)
  own_alike judges =
      subst (λ (ins : ℕ). OneOf (λ form. JudgesAs form b found) (forms_of ins)) alike.ins
      (one_alike (forms_of a.command.ins) (all_forms a.command.ins).each judges)

pub alike_are_judged_alike : AlikeAreJudgedAlike
alike_are_judged_alike a b alike puts answers found (inl wrong) = inl (record {
  rule = wrong.rule;
  found_is = wrong.found_is;
  first = form_alike a b alike puts answers found (Some wrong.rule) wrong.first;
})
alike_are_judged_alike a b alike puts answers found (inr judged) =
    inr (form_alike a b alike puts answers found None judged.0, own_alike a b alike puts answers found judged.1)
