-- Two commands that are alike in what their own rules look at, and conditions that are so of both of them or of neither.
use Rattle.std.proofs.Common.{◌≡◌, ℕ, List, [], ◌∷◌, Option, None, Some, refl, sym, ap, subst, ◌∙◌}
use Rattle.std.proofs.Math.ListN.{get_or-map}
use Rattle.std.specs.Prelude.{slice_index_or}
use Rattle.policy_machine.specs.Prelude.{Admitted, Approval, AreAlike, Channel, CommandForm, LoadSession, ManagementFails, Nothing, Place, ReceiptFails, Registry, State, TokenFails, Volatile, acting, channel_at, place_before, selected_of, selected_on, selection_of, selections}
use Rattle.policy_machine.specs.declared.delegation.RuleRC.{RuleRC}
use Rattle.policy_machine.specs.declared.delegation.RuleRC.TheVariants.{RC1}
use Rattle.policy_machine.specs.declared.delegation.RuleTK.{RuleTK}
use Rattle.policy_machine.specs.declared.delegation.RuleTK.TheVariants.{TK1}
use Rattle.policy_machine.specs.declared.management.RuleM.{RuleM}
use Rattle.policy_machine.specs.declared.management.RuleM.TheVariants.{M1}
use Rattle.policy_machine.specs.declared.rule.Rule.{Rule}

-- what holds of one of two commands that are alike holds of the other
abbrev pub IsAlike : (Admitted → Type 0) → Type 0
IsAlike holds = (a b : Admitted) → AreAlike a b → holds a → holds b

-- each of a form's own rules fails of both or of neither
abbrev pub IsAlikeForm : CommandForm → Type 0
IsAlikeForm form = (rule : Rule) → IsAlike (λ x. form.fails x rule)

pub alike_back : (a b : Admitted) → AreAlike a b → AreAlike b a
alike_back a b alike = record {
  registry = sym alike.registry;
  channel = sym alike.channel;
  ins = sym alike.ins;
  p1 = sym alike.p1;
  p2 = sym alike.p2;
  body = sym alike.body;
  selected = sym alike.selected;
  load = sym alike.load;
  place = sym alike.place;
}

-- the AID selected on a channel, by the selections
abbrev aid_of : Option (List ℕ) → List ℕ
aid_of None = []
aid_of (Some aid) = aid

aid_there : (channel : Option Channel) → aid_of (selection_of channel) ≡ selected_of channel
aid_there None = refl
aid_there (Some channel) = refl

selection_at : (volatile : Volatile) (number : ℕ) → slice_index_or (selections volatile) number None ≡ selection_of (channel_at volatile number)
selection_at volatile number = get_or-map selection_of volatile.channels number None

aid_at : (volatile : Volatile) (number : ℕ) → aid_of (slice_index_or (selections volatile) number None) ≡ selected_on volatile number
aid_at volatile number = ap aid_of (selection_at volatile number) ∙ aid_there (channel_at volatile number)

pub same_selection : (a b : Admitted) → AreAlike a b → (number : ℕ) → selection_of (channel_at a.at.volatile number) ≡ selection_of (channel_at b.at.volatile number)
same_selection a b alike number =
    sym (selection_at a.at.volatile number) ∙ (λ i. slice_index_or (alike.selected i) number None) ∙ selection_at b.at.volatile number

same_acting : (a b : Admitted) → AreAlike a b → acting a ≡ acting b
same_acting a b alike =
    sym (aid_at a.at.volatile a.channel) ∙ (λ i. aid_of (slice_index_or (alike.selected i) (alike.channel i) None)) ∙ aid_at b.at.volatile b.channel

-- a card on which this domain is selected alone
abbrev card_seen : Registry → List ℕ → Option LoadSession → Option Place → State
card_seen registry domain load place = record {
  registry = registry;
  volatile = record { channels = Some (record { selected = domain; secure_channel = Nothing; place = place }) ∷ []; load = load };
}

-- a command for this domain on it
abbrev seen : Registry → List ℕ → Option LoadSession → Option Place → (ins p1 p2 : ℕ) → List ℕ → Admitted
seen registry domain load place ins p1 p2 body = record {
  before = card_seen registry domain load place;
  at = card_seen registry domain load place;
  channel = 0;
  command = record { class = 0; ins = ins; p1 = p1; p2 = p2; body = body; le = None };
  session = None;
}

-- a command with no more than most rules look at: neither its channel nor what is selected on others
abbrev pub as_seen : Admitted → Admitted
as_seen a = seen a.at.registry (acting a) a.at.volatile.load (place_before a) a.command.ins a.command.p1 a.command.p2 a.command.body

same_seen : (a b : Admitted) → AreAlike a b → as_seen a ≡ as_seen b
same_seen a b alike =
    let domain = same_acting a b alike in
    (λ i. seen (alike.registry i) (domain i) (alike.load i) (alike.place i) (alike.ins i) (alike.p1 i) (alike.p2 i) (alike.body i))

-- the condition looks at no more
abbrev pub LooksAtSeen : (Admitted → Type 0) → Type 0
LooksAtSeen holds = (a : Admitted) → (holds a → holds (as_seen a)) × (holds (as_seen a) → holds a)

pub by_seen : (holds : Admitted → Type 0) → LooksAtSeen holds → IsAlike holds
by_seen holds looks a b alike is = (looks b).1 (subst holds (same_seen a b alike) ((looks a).0 is))

-- where a condition has nothing else in it, both are the same
pub unchanged : {A : Type 0} → (A → A) × (A → A)
unchanged = ((λ is. is), (λ is. is))

-- the rules that forms have in common
pub management_alike : (rule : RuleM) → IsAlike (λ x. ManagementFails x rule)
management_alike rule = by_seen (λ x. ManagementFails x rule) (λ a. elim rule [ M1 ↦ unchanged | _ ↦ unchanged ])

pub token_alike : (approval : Approval) (rule : RuleTK) → IsAlike (λ x. TokenFails x approval rule)
token_alike approval rule = by_seen (λ x. TokenFails x approval rule) (λ a. elim rule [ TK1 ↦ unchanged | _ ↦ unchanged ])

pub receipt_alike : (rule : RuleRC) → IsAlike (λ x. ReceiptFails x rule)
receipt_alike rule = by_seen (λ x. ReceiptFails x rule) (λ a. elim rule [ RC1 ↦ unchanged ])
