-- A command of a deed that is sent in a session of the domain is judged as on a card that was just powered on.
use Rattle.std.proofs.Common.{◌≡◌, ◌≢◌, ◌⊎◌, inl, inr, ℕ, ◌==◌, List, Bool, true, false, not, Some, refl, sym, ap, subst, ◌∙◌, arith}
use Rattle.std.specs.Prelude.{if◌then◌else◌}
use Rattle.apdu_core.specs.Apdu.{Apdu, Short}
use Rattle.card_types.specs.Registry.{Registry}
use Rattle.policy_machine.specs.Admission.{admitted_as, class_passed, message_joined}
use Rattle.policy_machine.specs.OwnRules.{AlikeAreJudgedAlike, AreAlike, OpenedAreJudged, selections}
use Rattle.policy_machine.specs.Classes.{IsKnown}
use Rattle.policy_machine.specs.State.{Volatile, without_load}
use Rattle.policy_machine.specs.declared.instruction.TheConstants.{EXTERNAL_AUTHENTICATE, LOAD, PUT_KEY}
use Rattle.scp03_card.specs.Opens.{Opens, accepting}
use Rattle.scp03_card.specs.Session.{Session}
use Rattle.access_matrix.specs.Accepted.{AcceptsAsJudged, state_in_session}
use Rattle.access_matrix.specs.Commands.{form_of, judged_as}
use Rattle.access_matrix.specs.There.{judged_there}
use Rattle.access_matrix.specs.declared.deed.Deed.{Deed}
use Rattle.access_matrix.specs.declared.deed.Deed.TheVariants.{Delete, Related, Lock}
use Rattle.access_matrix.proofs.CommandTaken.{command_taken, form_listed, none_before}
use Rattle.access_matrix.proofs.FormPassed.{passes}

-- the instruction of a deed
abbrev pub IsOfDeed : ℕ → Type 0
IsOfDeed ins = (ins ≡ 0xE4) ⊎ (ins ≡ 0xE6) ⊎ (ins ≡ 0xF0)

instruction_of : (deed : Deed) → IsOfDeed (judged_as deed).instruction
instruction_of (Delete aid) = inl refl
instruction_of (Related file) = inl refl
instruction_of (Lock aid) = inr (inr refl)
instruction_of _ = inr (inl refl)

other_than : (ins number : ℕ) → IsOfDeed ins → number ≢ 0xE4 → number ≢ 0xE6 → number ≢ 0xF0 → ins ≢ number
other_than ins number (inl is) e4 e6 f0 same = e4 (sym same ∙ is)
other_than ins number (inr (inl is)) e4 e6 f0 same = e6 (sym same ∙ is)
other_than ins number (inr (inr is)) e4 e6 f0 same = f0 (sym same ∙ is)

not_key : (ins : ℕ) → IsOfDeed ins → ins ≢ PUT_KEY
not_key ins is = other_than ins PUT_KEY is (λ same. omega (arith, same)) (λ same. omega (arith, same)) (λ same. omega (arith, same))

not_opening : (ins : ℕ) → IsOfDeed ins → ins ≢ EXTERNAL_AUTHENTICATE
not_opening ins is = other_than ins EXTERNAL_AUTHENTICATE is (λ same. omega (arith, same)) (λ same. omega (arith, same)) (λ same. omega (arith, same))

by_choice : (P : Volatile → Type 0) (b : Bool) (v w : Volatile) → P v → P w → P (if b then v else w)
by_choice P true v w one other = one
by_choice P false v w one other = other

-- a command with its class changed to 84
abbrev secured : Apdu → Apdu
secured sent = record { class = 0x84; ins = sent.ins; p1 = sent.p1; p2 = sent.p2; body = sent.body; le = sent.le }

secured_is : (sent : Apdu) → sent.class ≡ 0x84 → sent ≡ secured sent
secured_is sent is = λ i. record { class = is i; ins = sent.ins; p1 = sent.p1; p2 = sent.p2; body = sent.body; le = sent.le }

module _ (registry : Registry) (domain : List ℕ) (session : Session) (sent command : Apdu) where
  abbrev in_its_session : Volatile
  in_its_session = message_joined (class_passed (state_in_session registry domain session).volatile (secured sent)) 0 (Some (accepting session (secured sent)))

  abbrev there : Volatile
  there = (judged_there registry domain command).at.volatile

  selected_alike : selections (if sent.ins == LOAD then in_its_session else without_load in_its_session 0) ≡ selections there
  selected_alike = by_choice (λ v. selections v ≡ selections there) (sent.ins == LOAD) in_its_session (without_load in_its_session 0) refl refl

  load_alike : (if sent.ins == LOAD then in_its_session else without_load in_its_session 0).load ≡ there.load
  load_alike = by_choice (λ v. v.load ≡ there.load) (sent.ins == LOAD) in_its_session (without_load in_its_session 0) refl refl

  alike : sent.ins ≡ command.ins → sent.p1 ≡ command.p1 → sent.p2 ≡ command.p2
      → AreAlike (admitted_as (state_in_session registry domain session) (secured sent) (Some (accepting session (secured sent))) command.body) (judged_there registry domain command)
  alike same first second = record {
    registry = refl;
    channel = refl;
    ins = same;
    p1 = first;
    p2 = second;
    body = refl;
    selected = selected_alike;
    load = load_alike;
    place = refl;
  }

-- an instruction of a deed is one of class 84, which protects it
known : (ins : ℕ) → IsOfDeed ins → IsKnown 0x84 ins
known ins (inl is) = (4, omega arith, sym is)
known ins (inr (inl is)) = (5, omega arith, sym is)
known ins (inr (inr is)) = (7, omega arith, sym is)

protected : (ins : ℕ) → IsOfDeed ins → not (ins == EXTERNAL_AUTHENTICATE) ≡ true
protected ins (inl is) = rw is refl
protected ins (inr (inl is)) = rw is refl
protected ins (inr (inr is)) = rw is refl

-- where commands that open are judged by their own rules, and these look at nothing else
pub accepted_so : OpenedAreJudged → AlikeAreJudgedAlike → AcceptsAsJudged
accepted_so opened alikes registry domain session sound living deed command is_there is bytes outcome sends step =
    let sent = sends.sent in
    let same = secured_is sent sends.class in
    let ins : sent.ins ≡ (judged_as deed).instruction = sends.ins ∙ ap (λ (c : Apdu). c.ins) is.is in
    let of_deed = subst IsOfDeed (sym ins) (instruction_of deed) in
    let short = subst (λ (c : Apdu). Short c bytes) same sends.short in
    let opens = subst (λ (c : Apdu). Opens session c command.body) same sends.opens in
    let judges = opened (state_in_session registry domain session) sound living bytes (secured sent) session command.body short (protected sent.ins of_deed) refl opens
    (known sent.ins of_deed) outcome step in
    let judged = alikes (admitted_as (state_in_session registry domain session) (secured sent) (Some (accepting session (secured sent))) command.body) (judged_there registry domain command)
    (alike registry domain session sent command sends.ins sends.p1 sends.p2) (not_key sent.ins of_deed) (not_opening sent.ins of_deed) outcome.rule judges in
    passes (form_of deed) (form_listed deed) (judged_there registry domain command) (command_taken registry sound.well domain deed command is_there is) (none_before deed)
    outcome.rule judged
