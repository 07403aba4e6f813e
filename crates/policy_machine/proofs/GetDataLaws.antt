-- The laws of GET DATA.
use Rattle.std.proofs.Common.{◌≡◌, ℕ, List, sym, ap, subst, ◌∙◌, inl, inr, arith, None, Some, refl}
use Rattle.std.specs.Prelude.{map}
use Rattle.policy_machine.specs.Prelude.{Admitted, AsksFor, Effect, GetDataEffect, HasData, IsDataObject, IsSequenceCounter, IsSound, Judges, Spelling, State, TakesCommand, counter_bytes, get_data, key_information, tag_of}
use Rattle.bertlv.proofs.SpellingLemmas.{one_spelling, one_spelling_each}
use Rattle.policy_machine.proofs.SameEffect.{effect_same}
use Rattle.policy_machine.proofs.Lawful.{IsLawful, placeless_same, same_as, some_same}
use Rattle.policy_machine.proofs.OneSet.{counter_one}
use Rattle.card_types.specs.Registry as registry
use Rattle.policy_machine.proofs.Judging.{judged}
use Rattle.policy_machine.specs.declared.rule.Rule.TheVariants.{GD}
use Rattle.policy_machine.specs.declared.get_data.RuleGD.{RuleGD}
use Rattle.policy_machine.specs.declared.get_data.RuleGD.TheVariants.{GD1}

sequence_one : (said : registry.Registry) (domain a b : List ℕ) → IsSequenceCounter said domain a → IsSequenceCounter said domain b → a ≡ b
sequence_one said domain a b one other =
    one.2 ∙ ap (λ (c : registry.Counter). counter_bytes c.number) (counter_one said domain one.0 other.0 one.1 other.1) ∙ sym other.2

object_one : (said : registry.Registry) (domain : List ℕ) (tag : ℕ) (a b : List ℕ) → IsDataObject said domain tag a → IsDataObject said domain tag b → a ≡ b
object_one said domain tag a b one other =
    one.2 ∙ ap (λ (o : registry.Object). o.value) (some_same one.0 other.0 (sym one.1 ∙ other.1)) ∙ sym other.2

keys_not_counter : {P : Type 0} (tag : ℕ) → tag ≡ 0xE0 → tag ≡ 0xC1 → P
keys_not_counter tag keys counter = absurd (omega arith)

data_one : (said : registry.Registry) (domain : List ℕ) (tag : ℕ) (a b : List ℕ) → HasData said domain tag a → HasData said domain tag b → a ≡ b
data_one said domain tag a b (inl one) (inl other) =
    (let x = one.1 in let y = other.1 in one_spelling_each (map key_information (registry.keys_of said domain)) a b x.1 y.1)
data_one said domain tag a b (inl one) (inr (inl other)) = keys_not_counter tag one.0 other.0
data_one said domain tag a b (inl one) (inr (inr other)) = absurd (other.0 one.0)
data_one said domain tag a b (inr (inl one)) (inl other) = keys_not_counter tag other.0 one.0
data_one said domain tag a b (inr (inl one)) (inr (inl other)) = sequence_one said domain a b one.1 other.1
data_one said domain tag a b (inr (inl one)) (inr (inr other)) = absurd (other.1 one.0)
data_one said domain tag a b (inr (inr one)) (inl other) = absurd (one.0 other.0)
data_one said domain tag a b (inr (inr one)) (inr (inl other)) = absurd (one.1 other.0)
data_one said domain tag a b (inr (inr one)) (inr (inr other)) = object_one said domain tag a b one.2 other.2

get_data_one : (admitted : Admitted) (a b : Effect) → GetDataEffect admitted a → GetDataEffect admitted b → a ≡ b
get_data_one admitted a b one other =
    let tag = tag_of admitted.command.p1 admitted.command.p2 in
    let values = data_one _ _ tag one.value other.value one.asked other.asked in
    effect_same a b (one.state ∙ sym other.state)
    (one_spelling tag other.value a.body b.body (subst (λ (v : List ℕ). Spelling tag v a.body) values one.body) other.body)
    (one.status ∙ sym other.status)

pub get_data_lawful : IsLawful get_data
get_data_lawful = record {
  keeps = λ admitted done ready judges does. subst IsSound (sym does.state) ready.sound;
  one = get_data_one;
  quiet = λ unmanaged admitted done does. same_as admitted.at.registry done.state.registry (ap (λ (s : State). s.registry) does.state);
  without_place = λ other admitted done none does.
      placeless_same admitted.at.volatile done.state.volatile admitted.channel (ap (λ (s : State). s.volatile) does.state) none;
}

-- how it is judged, by what was found
module _ (admitted : Admitted) (takes : TakesCommand get_data admitted.command) where
  pub get_passes : (value : List ℕ) → AsksFor admitted value → Judges admitted None
  get_passes value asked = judged get_data (λ P is. inl is) admitted takes refl None (inr ((λ fails. fails value asked), refl))

  pub get_refused : (rule : RuleGD) → ((value : List ℕ) → AsksFor admitted value → ⊥) → Judges admitted (Some (GD rule))
  get_refused GD1 none = judged get_data (λ P is. inl is) admitted takes refl (Some (GD GD1)) (inl (none, refl))
