-- What is asked of a form of card content management, by which its command is lawful.
use Rattle.std.proofs.Common.{◌≡◌, ℕ, List, None, refl, sym, subst, ◌∙◌, arith, inr}
use Rattle.std.specs.Prelude.{Contains, nat_lt}
use Rattle.std.proofs.lemmas.Bool.{ltb-true}
use Rattle.policy_machine.specs.Prelude.{Admitted, CommandAsks, Effect, Fits, IsAnswered, IsDomainNamed, IsJudgeable, IsOfCard, IsSound, JudgedForm, JudgesAs, ManagedEffect, ManagedForm, ReceiptFails, Registry, acting, command_form, delegation_rules, managing}
use Rattle.policy_machine.specs.declared.delegation.RuleRC.TheVariants.{RC1}
use Rattle.policy_machine.specs.declared.rule.Rule.TheVariants.{RC}
use Rattle.policy_machine.proofs.AnsweredKeeps.{answered_fits, answered_keeps, answered_once}
use Rattle.policy_machine.proofs.Instructed.{each_byte}
use Rattle.policy_machine.proofs.Lawful.{IsLawful, IsReady, fits_as, managed_apart, placeless_same}
use Rattle.policy_machine.proofs.ManagedJudging.{OwnPass, approval_passes, own_pass}
use Rattle.policy_machine.proofs.SameEffect.{effect_same, state_same}

-- A command that no rule refuses asks for this.
pub record IsPassedFor (form : JudgedForm) (admitted : Admitted) (asked : form.Asked) : Type 0 where
  pub sound : IsSound admitted.at
  pub domain : IsDomainNamed admitted.at.registry (acting admitted)
  pub takes : form.takes admitted.command.p1 admitted.command.p2
  pub asks : CommandAsks form admitted asked
  pub own : OwnPass form admitted asked

-- the card may have this registry then
pub record MayFollow (admitted : Admitted) (changed : Registry) : Type 0 where
  pub of : IsOfCard changed
  pub fits : Fits changed admitted.at.volatile

pub may_follow : (admitted : Admitted) (left changed : Registry) → changed ≡ left → IsOfCard left → Fits left admitted.at.volatile → MayFollow admitted changed
may_follow admitted left changed becomes of fits = record {
  of = subst IsOfCard (sym becomes) of;
  fits = subst (λ (r : Registry). Fits r admitted.at.volatile) (sym becomes) fits;
}

-- the registry that a form leaves is one that the card may have
abbrev pub KeepsCard : ManagedForm → Type 0
KeepsCard form =
    (admitted : Admitted) (asked : form.judged.Asked) (changed : Registry) → IsPassedFor form.judged admitted asked
    → form.becomes admitted asked changed → MayFollow admitted changed

-- and there is one
abbrev pub LeavesOne : ManagedForm → Type 0
LeavesOne form =
    (admitted : Admitted) (asked : form.judged.Asked) (a b : Registry) → CommandAsks form.judged admitted asked
    → form.becomes admitted asked a → form.becomes admitted asked b → a ≡ b

-- It judges one thing, what is delegated may be receipted, its registry is one that the card may have, and there is one.
pub record IsManagedLawful (form : ManagedForm) : Type 0 where
  pub judgeable : IsJudgeable form.judged
  pub receipted : (admitted : Admitted) → form.judged.delegation.is_delegated admitted → Contains form.judged.delegation.rules (RC RC1)
  pub keeps : KeepsCard form
  pub one : LeavesOne form

-- a form that is delegated to nobody
pub undelegated : (form : ManagedForm) → ((admitted : Admitted) → form.judged.delegation.is_delegated admitted → ⊥) → IsJudgeable form.judged
    → KeepsCard form → LeavesOne form → IsManagedLawful form
undelegated form nobody judgeable keeps one =
    record { judgeable = judgeable; receipted = λ admitted delegated. absurd (nobody admitted delegated); keeps = keeps; one = one }

-- a form that leaves one registry
pub leaves_one : (form : JudgedForm) (left : Admitted → form.Asked → Registry) (reply : form.Asked → List ℕ) → IsJudgeable form
    → ((admitted : Admitted) → form.delegation.is_delegated admitted → Contains form.delegation.rules (RC RC1))
    → ((admitted : Admitted) (asked : form.Asked) → IsPassedFor form admitted asked → MayFollow admitted (left admitted asked))
    → IsManagedLawful (record { judged = form; becomes = λ admitted asked changed. changed ≡ left admitted asked; reply = reply })
leaves_one form left reply judgeable receipted follows = record {
  judgeable = judgeable;
  receipted = receipted;
  keeps = λ admitted asked changed passed becomes. subst (MayFollow admitted) (sym becomes) (follows admitted asked passed);
  one = λ admitted asked a b asks one other. one ∙ sym other;
}

module _ (form : ManagedForm) (lawful : IsManagedLawful form) (managed : Contains managing form.judged.instruction) where
  pub passed_for : (admitted : Admitted) (done : Effect) → IsReady admitted → JudgesAs (command_form form) admitted None → (does : ManagedEffect form admitted done)
      → IsPassedFor form.judged admitted does.asked
  passed_for admitted done ready (takes, first) does =
      let high = ltb-true 0xD7 form.judged.instruction (each_byte (λ byte. nat_lt 0xD7 byte) managing refl form.judged.instruction managed) in
      let apart = managed_apart admitted.command.ins form.judged.instruction takes.0 (omega (arith, high)) in
      record {
        sound = ready.sound;
        domain = ready.domain apart.0 apart.1;
        takes = takes.1;
        asks = does.asks;
        own = own_pass form.judged lawful.judgeable admitted does.asked does.asks first;
      }

  keeps : (admitted : Admitted) (done : Effect) → IsReady admitted → JudgesAs (command_form form) admitted None → ManagedEffect form admitted done → IsSound done.state
  keeps admitted done ready (takes, first) does =
      let delegated = form.judged.delegation.is_delegated admitted in
      let aids = form.judged.delegation.about admitted does.asked in
      let reply = form.reply does.asked in
      let follows = lawful.keeps admitted does.asked does.changed (passed_for admitted done ready (takes, first) does) does.becomes in
      let receipt : delegated → ReceiptFails admitted RC1 → ⊥ = (λ so fails.
      approval_passes form.judged lawful.judgeable admitted does.asked does.asks first (RC RC1) (lawful.receipted admitted so) (so, fails)) in
      let kept = answered_keeps delegated admitted aids does.changed reply done ready.sound.well receipt does.answered follows.of in
      let fits = answered_fits delegated admitted aids does.changed reply done ready.sound.well receipt does.answered admitted.at.volatile follows.fits in
      record { well = kept.well; ascending = kept.ascending; fits = fits_as refl (sym does.volatile) fits }

  once : (admitted : Admitted) (a b : Effect) → ManagedEffect form admitted a → ManagedEffect form admitted b → a ≡ b
  once admitted a b one other =
      let asked = lawful.judgeable.one_asked admitted.command.p1 admitted.command.p2 admitted.command.body one.asked other.asked one.asks other.asks in
      let changed = lawful.one admitted other.asked one.changed other.changed other.asks
      (subst (λ (it : form.judged.Asked). form.becomes admitted it one.changed) asked one.becomes) other.becomes in
      let Answers : form.judged.Asked → Registry → Type 0
      = (λ (it : form.judged.Asked) (r : Registry). IsAnswered (form.judged.delegation.is_delegated admitted) admitted (form.judged.delegation.about admitted it) r (form.reply it) a) in
      let answered : Answers other.asked other.changed =
      subst (λ (r : Registry). Answers other.asked r) changed (subst (λ (it : form.judged.Asked). Answers it one.changed) asked one.answered) in
      let same = answered_once (form.judged.delegation.is_delegated admitted) admitted (form.judged.delegation.about admitted other.asked) other.changed (form.reply other.asked) a b answered other.answered in
      effect_same a b (state_same a.state b.state same.0 (one.volatile ∙ sym other.volatile)) same.1 (one.status ∙ sym other.status)

  pub managed_lawful : IsLawful (command_form form)
  managed_lawful = record {
    keeps = keeps;
    one = once;
    quiet = λ unmanaged. absurd (unmanaged managed);
    without_place = λ other admitted done none does. placeless_same admitted.at.volatile done.state.volatile admitted.channel does.volatile none;
  }

-- a delegated command is receipted
pub receipt_judged : Contains delegation_rules (RC RC1)
receipt_judged = (3, omega arith, refl)

-- a command that nobody confirms has done what it does once the registry is changed
pub replied : (form : ManagedForm) (admitted : Admitted) (asked : form.judged.Asked) (changed : Registry) → CommandAsks form.judged admitted asked
    → form.becomes admitted asked changed → (form.judged.delegation.is_delegated admitted → ⊥)
    → ManagedEffect form admitted (record { state = record { registry = changed; volatile = admitted.at.volatile }; body = form.reply asked; status = 0x9000 })
replied form admitted asked changed asks becomes undelegated = record {
  asked = asked;
  asks = asks;
  changed = changed;
  becomes = becomes;
  answered = inr ((λ delegated. absurd (undelegated delegated)), record { registry = refl; body = refl });
  volatile = refl;
  status = refl;
}
