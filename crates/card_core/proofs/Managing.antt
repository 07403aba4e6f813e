-- What comes of a command of card content management.
use Rattle.std.proofs.Common.{◌≡◌, ◌↔◌, ℕ, inl, inr, Bool, List, [], None, Option, Some, Result, Ok, Err, refl, sym, subst}
use Rattle.std.specs.Result.{IsErrAnd}
use Rattle.apdu_core.specs.declared.reply.Status.{Status}
use Rattle.card_core.specs.Prelude.{ActsIn, Admitted, AnswersFor, AreCards, BecomesAsAsked, CommandAsks, CommandForm, Confirms, FindsConfirmer, IsAnswered, IsFirst, IsManaged, IsOfForm, JudgedForm, Judges, KeepsReceipts, ManagedForm, Manages, Registry, Represents, TakesCommand, command_form, leaves, rules_before_form}
use Rattle.card_types.specs.declared.tables.Tables.{Tables}
use Rattle.policy_machine.proofs.Judging.{IsListed, does_so, judged}
use Rattle.policy_machine.proofs.ManagedLawful.{replied}
use Rattle.policy_machine.specs.declared.rule.Rule.{Rule}
use Rattle.card_core.proofs.Cards.{in_order}
use Rattle.card_core.proofs.Confirming.{answered_so, finds_receipter}

-- a refusal that is handed on changes nothing
pub refusal_managed : (admitted : Admitted) (page : ℕ → List ℕ) (tables : Tables) (body : List ℕ) (result : Result Status Rule) (found : Rule)
    → IsErrAnd result (λ rule. rule ≡ found) → Judges admitted (Some found) → body ≡ [] → Manages admitted page tables tables body result
refusal_managed admitted page tables body (Ok status) found given judges empty = absurd given
refusal_managed admitted page tables body (Err rule) found given judges empty =
    (subst (λ (r : Rule). Judges admitted (Some r)) (sym given) judges, refl, empty)

-- one by a rule of the form's own
pub refused_as : (form : CommandForm) → IsListed form → (admitted : Admitted) → TakesCommand form admitted.command → rules_before_form form.instruction ≡ []
    → (page : ℕ → List ℕ) (tables : Tables) (body : List ℕ) (result : Result Status Rule) (found : Rule)
    → IsErrAnd result (λ rule. rule ≡ found) → IsFirst (form.fails admitted) form.rules (Some found) → body ≡ [] → Manages admitted page tables tables body result
refused_as form listed admitted takes none page tables body result found given first empty =
    refusal_managed admitted page tables body result found given (judged form listed admitted takes none (Some found) first) empty

module _ (form : ManagedForm) (listed : IsListed (command_form form)) (admitted : Admitted) (takes : TakesCommand (command_form form) admitted.command)
    (asked : form.judged.Asked) (asks : CommandAsks form.judged admitted asked) (changed : Registry) (becomes : form.becomes admitted asked changed) where
  -- a command that nobody confirms has changed the registry, and is answered by its reply
  pub replied_managed : Judges admitted None → (form.judged.delegation.is_delegated admitted → ⊥) → (page : ℕ → List ℕ) (tables : Tables) → Represents page tables changed
      → (body : List ℕ) → body ≡ form.reply asked → (status : Status) → status.0 ≡ 0x9000 → IsManaged admitted page tables body status
  replied_managed judges undelegated page tables says body is status word = record {
    judges = judges;
    done = record { state = record { registry = changed; volatile = admitted.at.volatile }; body = form.reply asked; status = 0x9000 };
    does = does_so (command_form form) listed admitted takes _ (replied form admitted asked changed asks becomes undelegated);
    volatile = refl;
    says = says;
    body_is = is;
    status_is = word;
  }

-- who confirms is the same where a command is delegated as well
confirmer_for : {A B : Type 0} → (A ↔ B) → (tables : Tables) (admitted : Admitted) (receipter : Option ℕ) → FindsConfirmer B tables admitted receipter
    → FindsConfirmer A tables admitted receipter
confirmer_for same tables admitted receipter (inl (holds, found)) = inl (same.1 holds, found)
confirmer_for same tables admitted receipter (inr (lacks, none)) = inr (λ holds. lacks (same.0 holds), none)

-- a command that may be confirmed has changed the registry, and is answered by a receipt or by 00
pub confirmed_managed : (form : ManagedForm) (rules : JudgedForm) (admitted : Admitted) → (receipted : Bool) → IsOfForm form rules receipted admitted → Judges admitted None
    → (page : ℕ → List ℕ) (before mid after : Tables) (domain : ℕ) → AreCards before → ActsIn page before domain admitted
    → (receipter : Option ℕ) → FindsConfirmer (rules.delegation.is_delegated admitted) before admitted receipter → KeepsReceipts before mid receipter
    → (aids : List (List ℕ)) → BecomesAsAsked form admitted page mid aids → (body : List ℕ) → Confirms mid after receipter aids body
    → (status : Status) → status.0 ≡ 0x9000 → IsManaged admitted page after body status
confirmed_managed form rules admitted receipted is judges page before mid after domain cards acts receipter finds keeps aids becomes body confirms status word =
    let delegated = form.judged.delegation.is_delegated admitted in
    let named = form.judged.delegation.about admitted becomes.asked in
    let confirmer = confirmer_for is.delegated before admitted receipter finds in
    let answers = confirms page admitted before domain becomes.changed (record {
      acts = acts;
      issuer = (in_order before cards).layout.issuer;
      finds = finds_receipter delegated before admitted receipter confirmer;
      keeps = keeps;
      says = becomes.says;
    }) in
    let told = subst (λ (names : List (List ℕ)). AnswersFor page after receipter admitted names becomes.changed body) becomes.about answers in
    let left = leaves admitted told.0 body in
    let answered = answered_so delegated before admitted receipter confirmer named becomes.changed left told.2 in
    record {
      judges = judges;
      done = left;
      does = is.does left (record {
        asked = becomes.asked;
        asks = becomes.asks;
        changed = becomes.changed;
        becomes = becomes.becomes;
        answered = subst (λ (bytes : List ℕ). IsAnswered delegated admitted named becomes.changed bytes left) (sym (is.reply becomes.asked)) answered;
        volatile = refl;
        status = refl;
      });
      volatile = refl;
      says = told.1;
      body_is = refl;
      status_is = word;
    }
