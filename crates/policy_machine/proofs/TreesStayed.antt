-- The tree of a domain that a command spares stays, and what is new in it was entrusted to it.
use Rattle.std.proofs.Common.{◌≡◌, ◌⊎◌, inl, inr, ℕ, List, None, ap, sym, subst, ◌∙◌}
use Rattle.std.specs.Prelude.{Contains}
use Rattle.policy_machine.specs.Prelude.{Admitted, Apdu, BringsInto, CommandForm, HasPowerOver, InTreeOf, IsAccepted, IsDomainNamed, IsEntrusted, IsSound, Member, Outcome, Registry, Spares, State, TakesCommand, TreeStays, TreesStay, acting, changing, channel_of, forms_of, selected_on}
use Rattle.policy_machine.proofs.AllForms.{all_forms}
use Rattle.policy_machine.proofs.FormLaws.{FormLaws}
use Rattle.policy_machine.proofs.FormTaken.{Accepts, accepting_form, pick_form}
use Rattle.policy_machine.proofs.KeepsSound.{admitted_is_ready}
use Rattle.policy_machine.proofs.Passing.{admitted_selected}
use Rattle.policy_machine.proofs.TreeKept.{KeepsTree}

module _ (state : State) (bytes : List ℕ) (outcome : Outcome) (domain : List ℕ) where
  abbrev IsKept : Registry → Type 0
  IsKept after =
      TreeStays state.registry after domain
      × ((member : Member) → InTreeOf after domain member → InTreeOf state.registry domain member ⊎ BringsInto state bytes outcome domain member)

  -- the registry that stays
  kept_same : (after : Registry) → after ≡ state.registry → IsKept after
  kept_same after same = subst IsKept (sym same) (record { members = λ member in_it. in_it; line = λ line is. is }, λ member in_it. inl in_it)

  module _ (sound : IsSound state) (accepts : IsAccepted state bytes outcome) (named : IsDomainNamed state.registry domain) (spares : Spares state bytes outcome domain) where
    abbrev admitted : Admitted
    admitted = accepts.admitted

    abbrev command : Apdu
    command = accepts.admits.1.0

    at : admitted.at.registry ≡ state.registry
    at = ap (λ (a : Admitted). a.at.registry) accepts.admits.1.2.3

    ins : command.ins ≡ admitted.command.ins
    ins = sym (ap (λ (a : Admitted). a.command.ins) accepts.admits.1.2.3)

    no_rule : outcome.rule ≡ None
    no_rule = ap (λ (o : Outcome). o.rule) accepts.outcome_is

    acts : acting admitted ≡ selected_on state.volatile (channel_of command.class)
    acts =
        ap acting accepts.admits.1.2.3 ∙ admitted_selected state command sound.fits accepts.admits.1.2.0 accepts.admits.1.2.1

    powerless : (form : CommandForm) → TakesCommand form admitted.command → Contains changing form.instruction
        → HasPowerOver admitted.at.registry (acting admitted) domain → ⊥
    powerless form takes changes power =
        spares (acting admitted) (no_rule, (command, accepts.admits.1.1, (subst (Contains changing) (sym (ins ∙ takes.0)) changes, acts)))
        (subst (λ (r : Registry). HasPowerOver r (acting admitted) domain) at power)

    kept : KeepsTree admitted accepts.done.state.registry domain
    kept =
        pick_form FormLaws (Accepts admitted accepts.done) (λ form. Unit {0}) (KeepsTree admitted accepts.done.state.registry domain) (forms_of admitted.command.ins)
        (λ form laws both there.
        laws.sparing.spares admitted accepts.done (admitted_is_ready state bytes admitted sound accepts.admits) both.0 both.1.1 domain
        (subst (λ (r : Registry). IsDomainNamed r domain) (sym at) named) (powerless form both.0.0))
        (all_forms admitted.command.ins).each (accepting_form admitted accepts.done accepts.judges accepts.does)

    brought : (member : Member) → InTreeOf admitted.at.registry domain member ⊎ IsEntrusted admitted domain member
        → InTreeOf state.registry domain member ⊎ BringsInto state bytes outcome domain member
    brought member (inl was) = inl (subst (λ (r : Registry). InTreeOf r domain member) at was)
    brought member (inr entrusted) = inr (no_rule, (admitted, accepts.admits, entrusted))

    kept_accepted : IsKept outcome.state.registry
    kept_accepted = subst (λ (o : Outcome). IsKept o.state.registry) (sym accepts.outcome_is) (
      subst (λ (r : Registry). TreeStays r accepts.done.state.registry domain) at kept.stays,
      λ member in_it. brought member (kept.new member in_it),
    )

pub trees_stay : TreesStay
trees_stay state bytes outcome sound (inl rejected) domain named spares =
    kept_same state bytes outcome domain outcome.state.registry (ap (λ (o : Outcome). o.state.registry) rejected.outcome_is)
trees_stay state bytes outcome sound (inr (inl refuses)) domain named spares =
    kept_same state bytes outcome domain outcome.state.registry (ap (λ (o : Outcome). o.state.registry) refuses.outcome_is)
trees_stay state bytes outcome sound (inr (inr accepts)) domain named spares = kept_accepted state bytes outcome domain sound accepts named spares
