-- The laws of INSTALL [for extradition].
use Rattle.std.proofs.Common.{◌≡◌, inl, inr, true, Option, None, Some, refl, sym, ◌∙◌, arith}
use Rattle.std.specs.Prelude.{MatchOption}
use Rattle.std.proofs.lemmas.Bool.{cases_Bool}
use Rattle.card_types.proofs.MovedThing.{moved_keeps}
use Rattle.card_types.proofs.NamedThings.{aid_cases}
use Rattle.policy_machine.specs.Prelude.{Admitted, AsksToExtradite, Entry, ExtraditingFails, InstallData, IsFirst, IsJudgeable, IsOfCard, MayMove, command_form, domain_of, entry_named, is_domain, managed_extradition, with_thing_in_domain}
use Rattle.domain_tree.proofs.Paths.{off_line}
use Rattle.policy_machine.specs.declared.extradition.RuleEX.TheVariants.{EX2, EX3, EX6}
use Rattle.policy_machine.proofs.Lawful.{sound_of_card}
use Rattle.policy_machine.proofs.LengthFields.{one_data}
use Rattle.policy_machine.proofs.MovedFits.{moved_fits}
use Rattle.policy_machine.proofs.ManagedJudging.{OwnPass, own_pass, delegation_asked}
use Rattle.policy_machine.proofs.ManagedLawful.{IsManagedLawful, leaves_one, receipt_judged}

-- what can't be no domain is one
pub domain_stable : (o : Option Entry) → ((MatchOption o ⊥ (λ entry. is_domain entry ≡ true) → ⊥) → ⊥) → MatchOption o ⊥ (λ entry. is_domain entry ≡ true)
domain_stable None other = other (λ is. is)
domain_stable (Some entry) other = elim (cases_Bool (is_domain entry)) [
  | inl is ↦ is
  | inr not_ ↦ absurd (other (λ is. (let clash = sym is ∙ not_ in cc)))
]

module _ (admitted : Admitted) (given : InstallData) (known : ExtraditingFails admitted given EX2 → ⊥) (movable : ExtraditingFails admitted given EX3 → ⊥)
    (not_below : ExtraditingFails admitted given EX6 → ⊥) where
  -- the thing may be moved to its new domain
  pub may_move : MayMove admitted.at.registry given.third given.first
  may_move = record {
    other = λ same. movable (inl same);
    other_file = λ same. movable (inr same);
    into = domain_stable (entry_named admitted.at.registry given.first) (λ none. known (inr none));
    not_below = λ line is there. elim (aid_cases given.first given.third) [
      | inl same ↦ same
      | inr apart ↦ absurd (off_line (domain_of admitted.at.registry) given.first given.third line is apart not_below there)
    ];
  }

pub extradition_judgeable : IsJudgeable managed_extradition.judged
extradition_judgeable = record { one_asked = λ p1 p2 body a b one other. one_data a b body one.fields other.fields; own = λ rule. tt; one_rule = λ a b same. cc; approving = delegation_asked }

-- its own rules leave the thing in its new domain
module _ (admitted : Admitted) (given : InstallData) (of : IsOfCard admitted.at.registry) (own : OwnPass managed_extradition.judged admitted given) where
  moved_follows : IsOfCard (with_thing_in_domain admitted.at.registry given.third given.first)
  moved_follows =
      moved_keeps admitted.at.registry given.third given.first of
      (may_move admitted given (own EX2 (1, omega arith, refl)) (own EX3 (2, omega arith, refl)) (own EX6 (5, omega arith, refl)))

-- the registry with the thing in its new domain is one that a card may have
pub moved_of_card : (admitted : Admitted) (given : InstallData) → AsksToExtradite admitted.command.body given → IsOfCard admitted.at.registry
    → IsFirst ((command_form managed_extradition).fails admitted) (command_form managed_extradition).rules None → IsOfCard (with_thing_in_domain admitted.at.registry given.third given.first)
moved_of_card admitted given asks of first = moved_follows admitted given of (own_pass managed_extradition.judged extradition_judgeable admitted given asks first)

pub managed_extradition_lawful : IsManagedLawful managed_extradition
managed_extradition_lawful =
    leaves_one managed_extradition.judged (λ admitted given. with_thing_in_domain admitted.at.registry given.third given.first) managed_extradition.reply extradition_judgeable
    (λ admitted delegated. receipt_judged)
    (λ admitted given passed. record {
      of = moved_follows admitted given (sound_of_card passed.sound) passed.own;
      fits = moved_fits admitted.at.registry given.third given.first admitted.at.volatile passed.sound.fits;
    })
