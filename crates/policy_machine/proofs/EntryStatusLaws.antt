-- The laws of SET STATUS of an entry.
use Rattle.std.proofs.Common.{◌≡◌, ◌≢◌, ◌⊎◌, inl, inr, ℕ, List, Bool, true, false, Option, None, Some, refl, ap, sym, subst, ◌∙◌, arith}
use Rattle.std.specs.Prelude.{IfSome, MatchOption}
use Rattle.std.specs.Option.{option_map}
use Rattle.std.proofs.lemmas.Bool.{false_from_ne_true}
use Rattle.std.proofs.lemmas.List.Elements.{All-contains}
use Rattle.card_types.proofs.LeastOfList.{found_fits}
use Rattle.card_types.proofs.LifeChanges.{life_keeps, locks_keep}
use Rattle.policy_machine.specs.Prelude.{Admitted, Entry, Fits, IsAboveIn, IsAid, IsEntryStep, IsFirst, IsIssuerDomain, IsJudgeable, IsMarked, IsOfCard, IsPersonalizing, IsTreeOf, IsWellEntry, Marks, OneIsSet, Registry, TreeIsSet, Volatile, Well, command_form, domain_of, entry_named, has_life, is_domain, managed_entry_status, same_aid, with_life, with_locks}
use Rattle.card_types.specs.declared.factory.TheConstants.{ISSUER}
use Rattle.card_types.specs.declared.life.Life.TheVariants.{Personalized}
use Rattle.card_types.specs.declared.life.LifeMark.{LifeMark}
use Rattle.domain_tree.proofs.Paths.{root_alone}
use Rattle.policy_machine.specs.declared.entry_status.RuleSS.TheVariants.{SS2}
use Rattle.policy_machine.proofs.ChangedFits.{changed_fits}
use Rattle.policy_machine.proofs.Lawful.{some_same, sound_of_card}
use Rattle.policy_machine.proofs.ManagedJudging.{own_pass}
use Rattle.policy_machine.proofs.ManagedLawful.{IsManagedLawful, KeepsCard, undelegated}

-- nothing is above the Issuer Security Domain
issuer_root : (registry : Registry) → Well registry → domain_of registry ISSUER ≡ Some ISSUER
issuer_root registry well = by (entry_named registry ISSUER) refl well.issuer
  where
    by : (o : Option Entry) → entry_named registry ISSUER ≡ o → MatchOption o ⊥ IsIssuerDomain → domain_of registry ISSUER ≡ Some ISSUER
    by None at is = absurd is
    by (Some entry) at is = ap (option_map (λ (e : Entry). e.domain)) at ∙ ap Some is.domain

none_above_issuer : (registry : Registry) → Well registry → (aid : List ℕ) → IsAboveIn registry aid ISSUER → ⊥
none_above_issuer registry well aid above = above.other (sym (root_alone (domain_of registry) ISSUER aid above.path (issuer_root registry well) above.leads))

-- a step leads to a life cycle state that the entry may have
step_fits : (registry : Registry) → Well registry → (aid : List ℕ) (entry : Entry) → entry_named registry aid ≡ Some entry → (p1 p2 : ℕ) (life : LifeMark)
    → IsEntryStep p1 p2 entry life → has_life (is_domain entry) life.life ≡ true
step_fits registry well aid entry named p1 p2 life (inl marks) =
    let there = found_fits (λ (e : Entry). same_aid e.aid aid) registry.entries entry named in
    ap (has_life (is_domain entry)) marks.stays ∙ (All-contains (IsWellEntry registry) registry.entries entry well.entries there.0).proper.life
step_fits registry well aid entry named p1 p2 life (inr personalizes) =
    ap (λ (l : LifeMark). has_life (is_domain entry) l.life) personalizes.becomes ∙ ap (λ (is : Bool). has_life is Personalized) personalizes.domain

module _ (admitted : Admitted) (other : admitted.command.body ≢ ISSUER) where
  set_follows : IsOfCard admitted.at.registry → (left : Registry) → OneIsSet admitted left ⊎ TreeIsSet admitted left → IsOfCard left
  set_follows of left (inl set) =
      subst IsOfCard (sym set.registry) (life_keeps admitted.at.registry admitted.command.body set.life of (record {
        other = other;
        fits = subst (λ (o : Option Entry). IfSome o (λ e. has_life (is_domain e) set.life.life ≡ true)) (sym set.named)
            (step_fits admitted.at.registry of.well admitted.command.body set.entry set.named admitted.command.p1 admitted.command.p2 set.life set.step);
      }))
  set_follows of left (inr set) =
      subst IsOfCard (sym set.registry) (locks_keep admitted.at.registry set.these set.locked of
      (false_from_ne_true (set.these ISSUER) (λ is. elim ((set.tree ISSUER).0 is) [
        | inl same ↦ other (sym same)
        | inr above ↦ none_above_issuer admitted.at.registry of.well admitted.command.body above
      ])))

set_fits : (admitted : Admitted) (left : Registry) (volatile : Volatile) → OneIsSet admitted left ⊎ TreeIsSet admitted left → Fits admitted.at.registry volatile → Fits left volatile
set_fits admitted left volatile (inl set) fits =
    subst (λ (r : Registry). Fits r volatile) (sym set.registry)
    (changed_fits admitted.at.registry (λ other. same_aid other admitted.command.body) (λ entry. record entry { life = set.life })
    (record { aid = λ _. refl; file = λ _. refl; privileges = λ _. refl }) volatile fits)
set_fits admitted left volatile (inr set) fits =
    subst (λ (r : Registry). Fits r volatile) (sym set.registry)
    (changed_fits admitted.at.registry set.these (λ entry. record entry { life = record { life = entry.life.life; locked = set.locked } })
    (record { aid = λ _. refl; file = λ _. refl; privileges = λ _. refl }) volatile fits)

pub entry_status_judgeable : IsJudgeable managed_entry_status.judged
entry_status_judgeable = record { one_asked = λ p1 p2 body a b one other. refl; own = λ rule. tt; one_rule = λ a b same. cc; approving = tt }

-- the registry that is left is one that a card may have
pub set_of_card : (admitted : Admitted) → IsAid admitted.command.body → IsFirst ((command_form managed_entry_status).fails admitted) (command_form managed_entry_status).rules None → IsOfCard admitted.at.registry
    → (left : Registry) → OneIsSet admitted left ⊎ TreeIsSet admitted left → IsOfCard left
set_of_card admitted field first =
    set_follows admitted (own_pass managed_entry_status.judged entry_status_judgeable admitted tt field first SS2 (1, omega arith, refl))

setting_keeps : KeepsCard managed_entry_status
setting_keeps admitted asked changed passed set = record {
  of = set_follows admitted (passed.own SS2 (1, omega arith, refl)) (sound_of_card passed.sound) changed set;
  fits = set_fits admitted changed admitted.at.volatile set passed.sound.fits;
}

-- P2 says one lock mark
one_mark : (p2 : ℕ) (a b : Bool) → Marks p2 a → Marks p2 b → a ≡ b
one_mark p2 a b (inl one) (inl other) = one.1 ∙ sym other.1
one_mark p2 a b (inl one) (inr other) = absurd (omega (arith, one.0, other.0))
one_mark p2 a b (inr one) (inl other) = absurd (omega (arith, one.0, other.0))
one_mark p2 a b (inr one) (inr other) = one.1 ∙ sym other.1

unmarked : (p2 : ℕ) (locked : Bool) → p2 ≡ 0x0F → Marks p2 locked → locked ≡ false
unmarked p2 locked is (inl mark) = absurd (omega (arith, mark.0, is))
unmarked p2 locked is (inr mark) = mark.1

-- a security domain that is personalized takes no other step by the same command
module _ (p1 p2 : ℕ) (entry : Entry) (a b : LifeMark) where
  marked_apart : IsMarked p2 entry a → IsPersonalizing p1 p2 entry b → ⊥
  marked_apart marks personalizes =
      marks.other (ap (λ (l : LifeMark). l.locked) personalizes.selectable ∙ sym (unmarked p2 a.locked personalizes.code marks.mark))

one_step : (p1 p2 : ℕ) (entry : Entry) (a b : LifeMark) → IsEntryStep p1 p2 entry a → IsEntryStep p1 p2 entry b → a ≡ b
one_step p1 p2 entry a b (inl one) (inl other) =
    let life : a.life ≡ b.life = one.stays ∙ sym other.stays in
    let locked = one_mark p2 a.locked b.locked one.mark other.mark in
    (λ i. record { life = life i; locked = locked i })
one_step p1 p2 entry a b (inl one) (inr other) = absurd (marked_apart p1 p2 entry a b one other)
one_step p1 p2 entry a b (inr one) (inl other) = absurd (marked_apart p1 p2 entry b a other one)
one_step p1 p2 entry a b (inr one) (inr other) = one.becomes ∙ sym other.becomes

-- two tests that tell one tree are the same
alike : (a b : Bool) → (a ≡ true → b ≡ true) → (b ≡ true → a ≡ true) → a ≡ b
alike true b to from = sym (to refl)
alike false true to from = from refl
alike false false to from = refl

one_tree : (registry : Registry) (domain : List ℕ) (these others : List ℕ → Bool) → IsTreeOf registry domain these → IsTreeOf registry domain others → these ≡ others
one_tree registry domain these others one other =
    let each : (aid : List ℕ) → these aid ≡ others aid
    = λ aid. alike (these aid) (others aid) (λ is. (other aid).1 ((one aid).0 is)) (λ is. (one aid).1 ((other aid).0 is)) in
    (λ i aid. each aid i)

module _ (admitted : Admitted) (a b : Registry) where
  apart : OneIsSet admitted a → TreeIsSet admitted b → ⊥
  apart one all = (let p1 = one.one in let other = all.all in omega arith)

  one_set : OneIsSet admitted a → OneIsSet admitted b → a ≡ b
  one_set one other =
      let entry = some_same one.entry other.entry (sym one.named ∙ other.named) in
      let step = subst (λ (e : Entry). IsEntryStep admitted.command.p1 admitted.command.p2 e one.life) entry one.step in
      let life = one_step admitted.command.p1 admitted.command.p2 other.entry one.life other.life step other.step in
      one.registry ∙ ap (with_life admitted.at.registry admitted.command.body) life ∙ sym other.registry

  tree_set : TreeIsSet admitted a → TreeIsSet admitted b → a ≡ b
  tree_set one other =
      let these = one_tree admitted.at.registry admitted.command.body one.these other.these one.tree other.tree in
      let locked = one_mark admitted.command.p2 one.locked other.locked one.mark other.mark in
      one.registry ∙ (λ i. with_locks admitted.at.registry (these i) (locked i)) ∙ sym other.registry

set_once : (admitted : Admitted) (a b : Registry) → OneIsSet admitted a ⊎ TreeIsSet admitted a → OneIsSet admitted b ⊎ TreeIsSet admitted b → a ≡ b
set_once admitted a b (inl one) (inl other) = one_set admitted a b one other
set_once admitted a b (inl one) (inr other) = absurd (apart admitted a b one other)
set_once admitted a b (inr one) (inl other) = absurd (apart admitted b a other one)
set_once admitted a b (inr one) (inr other) = tree_set admitted a b one other

pub managed_entry_status_lawful : IsManagedLawful managed_entry_status
managed_entry_status_lawful = undelegated managed_entry_status (λ admitted delegated. delegated) entry_status_judgeable setting_keeps (λ admitted asked a b asks one other. set_once admitted a b one other)
