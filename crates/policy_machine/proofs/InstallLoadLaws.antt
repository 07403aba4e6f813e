-- The laws of INSTALL [for load].
use Rattle.std.proofs.Common.{◌≡◌, ◌≢◌, inl, inr, ℕ, List, [], ◌∷◌, Option, None, length, refl, sym, subst, ◌∙◌, arith}
use Rattle.std.specs.Prelude.{Contains}
use Rattle.std.proofs.lemmas.Bool.Decides.{eqb_tells}
use Rattle.policy_machine.specs.Prelude.{Admitted, Effect, Fits, InstallLoadEffect, IsAid, IsDomainNamed, IsFirst, IsHashLength, IsJudgeable, IsSound, IsWellLoad, Judges, JudgesAs, LoadData, Registry, TakesCommand, Volatile, acting, entry_named, file_named, install_load, judged_install_load, load_begun, managing, named_or, with_load}
use Rattle.policy_machine.specs.declared.install_load.RuleIL.TheVariants.{IL3, IL4, IL6, IL7}
use Rattle.policy_machine.specs.declared.rule.Rule.{Rule}
use Rattle.policy_machine.proofs.Instructed.{among}
use Rattle.policy_machine.proofs.ExtraditionLaws.{domain_stable}
use Rattle.policy_machine.proofs.Judging.{judged}
use Rattle.policy_machine.proofs.Lawful.{HasNoPlaceOn, IsLawful, IsReady, managed_apart, none_of, sound_with}
use Rattle.policy_machine.proofs.LengthFields.{one_load_data}
use Rattle.policy_machine.proofs.SameEffect.{effect_same, state_same}
use Rattle.policy_machine.proofs.ManagedJudging.{OwnPass, own_pass}

-- a length that can't be none of a hash is one
hash_stable : (size : ℕ) → ((IsHashLength size → ⊥) → ⊥) → IsHashLength size
hash_stable size other = elim (eqb_tells size 0) [
  | inl none ↦ inl none.1
  | inr some ↦ elim (eqb_tells size 20) [
    | inl short ↦ inr (inl short.1)
    | inr longer ↦ elim (eqb_tells size 32) [
      | inl long ↦ inr (inr long.1)
      | inr another ↦ absurd (other (λ is. elim is [
        | inl none ↦ some.1 none
        | inr (inl short) ↦ longer.1 short
        | inr (inr long) ↦ another.1 long
      ]))
    ]
  ]
]

-- the domain of the file is one: it is named, or the command acts for it
domain_given : (registry : Registry) (field other : List ℕ) → IsDomainNamed registry other → ((field ≢ []) × (IsDomainNamed registry field → ⊥) → ⊥)
    → IsDomainNamed registry (named_or field other)
domain_given registry [] other domain passes = domain
domain_given registry (byte ∷ bytes) other domain passes =
    domain_stable (entry_named registry (byte ∷ bytes)) (λ none. passes ((λ same. cc), none))

pub load_install_judgeable : IsJudgeable judged_install_load
load_install_judgeable = record { one_asked = λ p1 p2 body a b one other. one_load_data a b body one.fields other.fields; own = λ rule. tt; one_rule = λ a b same. cc; approving = (tt, (tt, (tt, tt))) }

-- the load session that begins goes with the registry
begun_well : (admitted : Admitted) (given : LoadData) → IsAid given.file → IsReady admitted → admitted.command.ins ≡ install_load.instruction
    → OwnPass judged_install_load admitted given
    → IsWellLoad admitted.at.registry (with_load admitted.at.volatile (load_begun admitted given)) (load_begun admitted given)
begun_well admitted given aid ready is own =
    let registry = admitted.at.registry in
    let apart = managed_apart admitted.command.ins install_load.instruction is (omega arith) in
    record {
      aid = aid;
      session = ready.session (subst (Contains managing) (sym is) (among managing 0xE6 refl));
      no_entry = none_of (entry_named registry given.file) (λ some. own IL3 (2, omega arith, refl) (inl some));
      no_file = none_of (file_named registry given.file) (λ some. own IL3 (2, omega arith, refl) (inr some));
      domain = domain_given registry given.domain (acting admitted) (ready.domain apart.0 apart.1) (own IL4 (3, omega arith, refl));
      hash = hash_stable (length given.hash) (λ other. own IL6 (5, omega arith, refl) (inl other));
      few_files = (let room = own IL7 (6, omega arith, refl) in omega (arith, room));
      few_blocks = omega arith;
      announced = refl;
      within = omega arith;
      few_pages = (let few = ready.sound.well.few_pages in omega (arith, few));
    }

begun_fits : (admitted : Admitted) (given : LoadData) → Fits admitted.at.registry admitted.at.volatile
    → IsWellLoad admitted.at.registry (with_load admitted.at.volatile (load_begun admitted given)) (load_begun admitted given)
    → Fits admitted.at.registry (with_load admitted.at.volatile (load_begun admitted given))
begun_fits admitted given fits well = record { channels = fits.channels; basic = fits.basic; each = fits.each; load = well }

install_load_keeps : (admitted : Admitted) (done : Effect) → IsReady admitted → JudgesAs install_load admitted None → InstallLoadEffect admitted done
    → IsSound done.state
install_load_keeps admitted done ready (takes, first) does =
    let well = begun_well admitted does.given does.asks.file ready takes.0 (own_pass judged_install_load load_install_judgeable admitted does.given does.asks first) in
    sound_with admitted.at done.state ready.sound does.registry
    (subst (Fits admitted.at.registry) (sym does.volatile) (begun_fits admitted does.given ready.sound.fits well))

install_load_one : (admitted : Admitted) (a b : Effect) → InstallLoadEffect admitted a → InstallLoadEffect admitted b → a ≡ b
install_load_one admitted a b one other =
    let given = one_load_data one.given other.given admitted.command.body one.asks.fields other.asks.fields in
    let volatile = subst (λ (g : LoadData). a.state.volatile ≡ with_load admitted.at.volatile (load_begun admitted g)) given one.volatile in
    effect_same a b (state_same a.state b.state (one.registry ∙ sym other.registry) (volatile ∙ sym other.volatile)) (one.body ∙ sym other.body) (one.status ∙ sym other.status)

-- how it is judged by what was found
pub load_install_judged : (admitted : Admitted) (found : Option Rule) → TakesCommand install_load admitted.command → IsFirst (install_load.fails admitted) install_load.rules found
    → Judges admitted found
load_install_judged admitted found takes first = judged install_load (λ P is. inr (inr (inr (inl is)))) admitted takes refl found first

-- once its instruction is one of those that manage content
pub install_load_lawful : Contains managing install_load.instruction → IsLawful install_load
install_load_lawful among = record {
  keeps = install_load_keeps;
  one = install_load_one;
  quiet = λ unmanaged. absurd (unmanaged among);
  without_place = λ other admitted done none does. subst (λ (v : Volatile). HasNoPlaceOn v admitted.channel) (sym does.volatile) none;
}
