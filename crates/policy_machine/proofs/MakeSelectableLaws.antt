-- The laws of INSTALL [for make selectable].
use Rattle.std.proofs.Common.{◌≡◌, ◌≢◌, Option, None, Some, true, false, refl, ap, sym, subst, ◌∙◌, arith}
use Rattle.std.specs.Prelude.{IfSome, MatchOption}
use Rattle.card_types.proofs.LifeChanges.{life_keeps}
use Rattle.policy_machine.specs.Prelude.{Admitted, AsksToMakeSelectable, Entry, InstallData, IsFirst, IsIssuerDomain, IsJudgeable, IsOfCard, MakingSelectableFails, MayHaveLife, Well, command_form, entry_named, has_life, is_domain, is_installed, managed_selectable, same_aid, with_life}
use Rattle.card_types.specs.declared.factory.TheConstants.{ISSUER}
use Rattle.card_types.specs.declared.life.Life.TheVariants.{Selectable}
use Rattle.card_types.specs.declared.life.LifeMark.{LifeMark}
use Rattle.policy_machine.specs.declared.make_selectable.RuleMS.TheVariants.{MS2, MS4}
use Rattle.policy_machine.proofs.ChangedFits.{changed_fits}
use Rattle.policy_machine.proofs.Lawful.{sound_of_card}
use Rattle.policy_machine.proofs.LengthFields.{one_data}
use Rattle.policy_machine.proofs.ManagedJudging.{OwnPass, own_pass, delegation_asked}
use Rattle.policy_machine.proofs.ManagedLawful.{IsManagedLawful, leaves_one, receipt_judged}

abbrev pub selectable_life : LifeMark
selectable_life = record { life = Selectable; locked = false }

module _ (admitted : Admitted) (given : InstallData) (well : Well admitted.at.registry) (installed : MakingSelectableFails admitted given MS4 → ⊥)
    (known : MakingSelectableFails admitted given MS2 → ⊥) where
  -- it is not the Issuer Security Domain, which is personalized
  not_issuer : given.third ≢ ISSUER
  not_issuer same = by (entry_named admitted.at.registry ISSUER) refl well.issuer
    where
      by : (o : Option Entry) → entry_named admitted.at.registry ISSUER ≡ o → MatchOption o ⊥ IsIssuerDomain → ⊥
      by None at is = is
      by (Some entry) at is =
          installed (subst (λ (o : Option Entry). MatchOption o ⊥ (λ e. e.life ≢ is_installed)) (sym (ap (entry_named admitted.at.registry) same ∙ at))
          (λ just. (let clash = sym is.life ∙ ap (λ (l : LifeMark). l.life) just in cc)))

  may_be_selectable : MayHaveLife admitted.at.registry given.third selectable_life
  may_be_selectable = record { other = not_issuer; fits = any (entry_named admitted.at.registry given.third) }
    where
      any : (o : Option Entry) → IfSome o (λ entry. has_life (is_domain entry) Selectable ≡ true)
      any None = tt
      any (Some entry) = refl

pub selectable_judgeable : IsJudgeable managed_selectable.judged
selectable_judgeable = record { one_asked = λ p1 p2 body a b one other. one_data a b body one.fields other.fields; own = λ rule. tt; one_rule = λ a b same. cc; approving = delegation_asked }

-- its own rules leave the application selectable
module _ (admitted : Admitted) (given : InstallData) (of : IsOfCard admitted.at.registry) (own : OwnPass managed_selectable.judged admitted given) where
  selectable_follows : IsOfCard (with_life admitted.at.registry given.third selectable_life)
  selectable_follows =
      life_keeps admitted.at.registry given.third selectable_life of
      (may_be_selectable admitted given of.well (own MS4 (3, omega arith, refl)) (own MS2 (1, omega arith, refl)))

-- the registry with the application selectable is one that a card may have
pub selectable_of_card : (admitted : Admitted) (given : InstallData) → AsksToMakeSelectable admitted.command.body given → IsOfCard admitted.at.registry
    → IsFirst ((command_form managed_selectable).fails admitted) (command_form managed_selectable).rules None → IsOfCard (with_life admitted.at.registry given.third selectable_life)
selectable_of_card admitted given asks of first =
    selectable_follows admitted given of (own_pass managed_selectable.judged selectable_judgeable admitted given asks first)

pub managed_selectable_lawful : IsManagedLawful managed_selectable
managed_selectable_lawful =
    leaves_one managed_selectable.judged (λ admitted given. with_life admitted.at.registry given.third selectable_life) managed_selectable.reply selectable_judgeable
    (λ admitted delegated. receipt_judged)
    (λ admitted given passed. record {
      of = selectable_follows admitted given (sound_of_card passed.sound) passed.own;
      fits = changed_fits admitted.at.registry (λ other. same_aid other given.third) (λ (entry : Entry). record entry { life = selectable_life })
          (record { aid = λ _. refl; file = λ _. refl; privileges = λ _. refl }) admitted.at.volatile passed.sound.fits;
    })
