-- A receipt number rises by one with each command that its domain confirms, and with no other.
use Rattle.std.proofs.Common.{◌≡◌, inl, inr, ℕ, ◌+◌, List, [], ◌∷◌, Some, ap, sym, subst, ◌∙◌}
use Rattle.policy_machine.specs.Prelude.{Admitted, Command, CommandForm, Effect, IsAccepted, IsReceiptedBy, IsReceipter, IsSound, Key, NumbersRise, NumbersRiseInRuns, OneOf, Outcome, ReceiptNames, Registry, RepliesReceipt, Reset, State, TakesCommand, acting, forms_of, last_receipt, powered_on, receipt, reply_bytes, unique_data}
use Rattle.policy_machine.specs.declared.rule.Rule.{Rule}
use Rattle.policy_machine.proofs.AllForms.{all_forms}
use Rattle.policy_machine.proofs.FormLaws.{FormLaws}
use Rattle.policy_machine.proofs.FormTaken.{Accepts, accepting_form, join_forms, pick_form}
use Rattle.policy_machine.proofs.KeepsSound.{admitted_is_ready, starts_sound, steps_keep_sound}
use Rattle.policy_machine.proofs.Lawful.{IsReady, some_same}
use Rattle.policy_machine.proofs.OneOutcome.{admits_one}

module _ (state : State) (bytes : List ℕ) (outcome : Outcome) (domain : List ℕ) (before after : ℕ) where
  abbrev Told : Type 0
  Told =
      ((is : IsReceiptedBy state bytes outcome domain) → (after ≡ before + 1) × RepliesReceipt is after)
      × ((IsReceiptedBy state bytes outcome domain → ⊥) → after ≡ before)

  -- a refusal leaves the registry, and is not confirmed
  refused_told : {rule : Rule} → outcome.rule ≡ Some rule → outcome.state.registry ≡ state.registry → last_receipt state.registry domain ≡ Some before
      → last_receipt outcome.state.registry domain ≡ Some after → Told
  refused_told refused same was is = (
    λ receipted. (let clash = sym receipted.accepted ∙ refused in cc),
    λ none. some_same after before (sym is ∙ ap (λ (r : Registry). last_receipt r domain) same ∙ was),
  )

  module _ (sound : IsSound state) (accepts : IsAccepted state bytes outcome) (was : last_receipt state.registry domain ≡ Some before)
      (is : last_receipt outcome.state.registry domain ≡ Some after) where
    abbrev admitted : Admitted
    admitted = accepts.admitted

    abbrev done : Effect
    done = accepts.done

    at : admitted.at.registry ≡ state.registry
    at = ap (λ (a : Admitted). a.at.registry) accepts.admits.1.2.3

    was_at : last_receipt admitted.at.registry domain ≡ Some before
    was_at = subst (λ (r : Registry). last_receipt r domain ≡ Some before) (sym at) was

    is_done : last_receipt done.state.registry domain ≡ Some after
    is_done = subst (λ (o : Outcome). last_receipt o.state.registry domain ≡ Some after) accepts.outcome_is is

    ready : IsReady admitted
    ready = admitted_is_ready state bytes admitted sound accepts.admits

    accepting : OneOf (Accepts admitted done) (forms_of admitted.command.ins)
    accepting = accepting_form admitted done accepts.judges accepts.does

    -- a form takes the command, and a receipt of it names these
    abbrev TakesToConfirm : List (List ℕ) → CommandForm → Type 0
    TakesToConfirm aids form = TakesCommand form admitted.command × form.confirms admitted aids

    abbrev ConfirmsSome : CommandForm → Type 0
    ConfirmsSome form = (aids : List (List ℕ)) × TakesToConfirm aids form

    -- the domain confirms it
    module _ (aids : List (List ℕ)) (confirms : ReceiptNames admitted aids) (key : Key) (receipter : IsReceipter admitted.at.registry (acting admitted) domain key) where
      pub record IsConfirmedSo : Type 0 where
        pub rises : after ≡ before + 1
        pub body : done.body ≡ receipt key.bytes after (unique_data admitted.at.registry) aids
        pub status : done.status ≡ 0x9000

      pub confirmed_so : IsConfirmedSo
      confirmed_so =
          pick_form FormLaws (λ form. TakesToConfirm aids form × Accepts admitted done form) (λ form. Unit {0}) IsConfirmedSo (forms_of admitted.command.ins)
          (λ form laws both there.
          (let so = laws.rising.rises admitted done ready both.1.0 both.1.1.1 domain before after was_at is_done in
          let confirmed = so.confirmed aids key both.0.1 receipter in
          record { rises = confirmed.0; body = confirmed.1; status = laws.rising.status admitted done aids both.1.1.1 both.0.1 }))
          (all_forms admitted.command.ins).each
          (join_forms admitted (TakesToConfirm aids) (Accepts admitted done) (λ form one. one.0) (λ form other. other.0.0) confirms accepting)

    -- the domain does not confirm it
    unconfirmed_same : ((aids : List (List ℕ)) (key : Key) → ReceiptNames admitted aids → IsReceipter admitted.at.registry (acting admitted) domain key → ⊥) → after ≡ before
    unconfirmed_same none =
        pick_form FormLaws (Accepts admitted done) ConfirmsSome (after ≡ before) (forms_of admitted.command.ins)
        (λ form laws both there. (laws.rising.rises admitted done ready both.0 both.1.1 domain before after was_at is_done).same (λ aids key so receipter.
        (let some = told_of (forms_of admitted.command.ins) (there (aids, (both.0.0, so))) in none some.0 key some.1 receipter)))
        (all_forms admitted.command.ins).each accepting
      where
        told_of : (forms : List CommandForm) → OneOf ConfirmsSome forms → (aids : List (List ℕ)) × OneOf (TakesToConfirm aids) forms
        told_of [] one = absurd one
        told_of (form ∷ forms) (inl (aids, so)) = (aids, inl so)
        told_of (form ∷ forms) (inr later) = (let some = told_of forms later in (some.0, inr some.1))

    told_accepted : Told
    told_accepted = (told, λ none. unconfirmed_same (λ aids key so receipter. none (receipted aids key so receipter)))
      where
        receipted : (aids : List (List ℕ)) (key : Key) → ReceiptNames admitted aids → IsReceipter admitted.at.registry (acting admitted) domain key
            → IsReceiptedBy state bytes outcome domain
        receipted aids key so receipter = record {
          accepted = ap (λ (o : Outcome). o.rule) accepts.outcome_is;
          admitted = admitted;
          admits = accepts.admits;
          aids = aids;
          confirms = so;
          key = key;
          receipter = subst (λ (r : Registry). IsReceipter r (acting admitted) domain key) at receipter;
        }

        told : (is : IsReceiptedBy state bytes outcome domain) → (after ≡ before + 1) × RepliesReceipt is after
        told is =
            (let same = admits_one state bytes is.admitted admitted is.admits accepts.admits in
            let so = confirmed_so is.aids (subst (λ (a : Admitted). ReceiptNames a is.aids) same is.confirms) is.key
            (subst (λ (r : Registry). IsReceipter r (acting admitted) domain is.key) (sym at)
            (subst (λ (a : Admitted). IsReceipter state.registry (acting a) domain is.key) same is.receipter)) in
            let reply = ap (λ (o : Outcome). o.reply) accepts.outcome_is in
            let body = so.body ∙ ap (λ (r : Registry). receipt is.key.bytes after (unique_data r) is.aids) at in
            (so.rises, reply ∙ (λ i. reply_bytes ((sym same i).session) (body i) (so.status i))))

pub numbers_rise : NumbersRise
numbers_rise state bytes outcome sound (inl rejected) domain before after was is =
    refused_told state bytes outcome domain before after (ap (λ (o : Outcome). o.rule) rejected.outcome_is) (ap (λ (o : Outcome). o.state.registry) rejected.outcome_is) was is
numbers_rise state bytes outcome sound (inr (inl refuses)) domain before after was is =
    refused_told state bytes outcome domain before after (ap (λ (o : Outcome). o.rule) refuses.outcome_is) (ap (λ (o : Outcome). o.state.registry) refuses.outcome_is) was is
numbers_rise state bytes outcome sound (inr (inr accepts)) domain before after was is = told_accepted state bytes outcome domain before after sound accepts was is

pub numbers_rise_in_runs : NumbersRiseInRuns
numbers_rise_in_runs state [] outcomes last sound run = tt
numbers_rise_in_runs state (Command bytes ∷ inputs) [] last sound run = tt
numbers_rise_in_runs state (Command bytes ∷ inputs) (outcome ∷ outcomes) last sound run =
    (numbers_rise state bytes outcome sound run.0, numbers_rise_in_runs outcome.state inputs outcomes last (steps_keep_sound state bytes outcome sound run.0) run.1)
numbers_rise_in_runs state (Reset ∷ inputs) outcomes last sound run =
    numbers_rise_in_runs (powered_on state.registry) inputs outcomes last (starts_sound state.registry sound.well sound.ascending) run
