-- How a command is judged that a form of its instruction takes, or none.
use Rattle.std.proofs.Common.{◌≡◌, ℕ, List, [], ◌∷◌, Option, None, Some, Result, Ok, Err, refl, sym, ap, subst, ◌∙◌, inl, inr}
use Rattle.std.specs.Prelude.{IfErr, OnOk}
use Rattle.std.specs.Result.{result_err}
use Rattle.policy_machine.specs.Prelude.{Admitted, CommandForm, Effect, FormFails, HasEffect, IsFirst, IsMalformed, Judges, OneOf, TakesCommand, forms_of, rules_before_form}
use Rattle.policy_machine.specs.declared.rule.Rule.{Rule}
use Rattle.policy_machine.specs.declared.rule.Rule.TheVariants.{PS}
use Rattle.policy_machine.specs.declared.rule.RulePS.TheVariants.{P, S}
use Rattle.policy_machine.proofs.FirstUnique.{behind}

-- the form is one of those of its instruction
abbrev pub IsListed : CommandForm → Type 1
IsListed form = (holds : CommandForm → Type 0) → holds form → OneOf holds (forms_of form.instruction)

-- what stands before the rules on the form passes
abbrev pub BeginPasses : Admitted → Type 0
BeginPasses admitted = IsFirst (FormFails admitted) (rules_before_form admitted.command.ins) None

module _ (form : CommandForm) (listed : IsListed form) (admitted : Admitted) (takes : TakesCommand form admitted.command) where
  one_here : (holds : CommandForm → Type 0) → holds form → OneOf holds (forms_of admitted.command.ins)
  one_here holds here = subst (λ (ins : ℕ). OneOf holds (forms_of ins)) (sym takes.0) (listed holds here)

  -- the rules on the form pass
  form_passes : IsFirst (FormFails admitted) (PS P ∷ PS S ∷ []) None
  form_passes = inr (
    (λ fails. fails (one_here (λ f. f.takes admitted.command.p1 admitted.command.p2) takes.1)),
    inr ((λ fails. fails (one_here (λ f. TakesCommand f admitted.command) takes)), refl),
  )

  -- the form's own rules are judged
  pub judged_after : BeginPasses admitted → (found : Option Rule) → IsFirst (form.fails admitted) form.rules found → Judges admitted found
  judged_after begins found first = inr (
    behind (FormFails admitted) (rules_before_form admitted.command.ins) (PS P ∷ PS S ∷ []) None begins form_passes,
    one_here (λ f. TakesCommand f admitted.command × IsFirst (f.fails admitted) f.rules found) (takes, first),
  )

  -- where none stands before them
  pub judged : rules_before_form form.instruction ≡ [] → (found : Option Rule) → IsFirst (form.fails admitted) form.rules found → Judges admitted found
  judged none found first =
      judged_after (subst (λ (rules : List Rule). IsFirst (FormFails admitted) rules None) (sym (ap rules_before_form takes.0 ∙ none)) refl) found first

  pub does_so : (done : Effect) → form.does admitted done → HasEffect admitted done
  does_so done does = one_here (λ f. TakesCommand f admitted.command × f.does admitted done) (takes, does)

  -- a refusal by a rule of the form's own
  pub err_judged : {T : Type 0} → rules_before_form form.instruction ≡ [] → (result : Result T Rule)
      → IfErr result (λ rule. IsFirst (form.fails admitted) form.rules (Some rule)) → IfErr result (λ rule. Judges admitted (Some rule))
  err_judged none (Ok x) first = first
  err_judged none (Err rule) first = judged none (Some rule) first

-- what is malformed is refused by a rule on the form
malformed_first : (admitted : Admitted) (rule : Rule)
    → IsMalformed admitted.command.ins admitted.command.p1 admitted.command.p2 admitted.command.body rule
    → IsFirst (FormFails admitted) (PS P ∷ PS S ∷ []) (Some rule)
malformed_first admitted rule (inl (is, none)) = inl (none, ap Some is)
malformed_first admitted rule (inr (is, takes, none)) = inr ((λ fails. fails takes), inl (none, ap Some is))

pub malformed_judged : (admitted : Admitted) (rule : Rule) → BeginPasses admitted
    → IsMalformed admitted.command.ins admitted.command.p1 admitted.command.p2 admitted.command.body rule → Judges admitted (Some rule)
malformed_judged admitted rule begins wrong = inl (record {
  rule = rule;
  found_is = refl;
  first = behind (FormFails admitted) (rules_before_form admitted.command.ins) (PS P ∷ PS S ∷ []) (Some rule) begins (malformed_first admitted rule wrong);
})

-- the rule of a judgement that may refuse
pub by_err : {T : Type 0} (holds : Option Rule → Type 0) (result : Result T Rule) → OnOk result (holds None) → IfErr result (λ rule. holds (Some rule)) → holds (result_err result)
by_err holds (Ok x) passed refused = passed
by_err holds (Err rule) passed refused = refused

-- a form that nothing stands before, by such a judgement
pub judged_by : (form : CommandForm) → IsListed form → (admitted : Admitted) → TakesCommand form admitted.command → rules_before_form form.instruction ≡ []
    → {T : Type 0} (result : Result T Rule) → OnOk result (IsFirst (form.fails admitted) form.rules None)
    → IfErr result (λ rule. IsFirst (form.fails admitted) form.rules (Some rule)) → Judges admitted (result_err result)
judged_by form listed admitted takes none result passed refused =
    judged form listed admitted takes none (result_err result) (by_err (λ found. IsFirst (form.fails admitted) form.rules found) result passed refused)
