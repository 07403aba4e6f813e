-- What is asked of the form of a command, by which it spares the trees of other domains.
use Rattle.std.proofs.Common.{inl, ℕ, List, None}
use Rattle.std.specs.Prelude.{Contains}
use Rattle.policy_machine.specs.Prelude.{Admitted, CommandForm, Effect, HasPowerOver, IsDomainNamed, IsSameButCounters, JudgesAs, ManagedForm, Registry, acting, changing, command_form}
use Rattle.policy_machine.proofs.AnsweredSpares.{answered_spares}
use Rattle.policy_machine.proofs.Lawful.{IsReady, sound_of_card}
use Rattle.policy_machine.proofs.ManagedLawful.{IsManagedLawful, IsPassedFor, passed_for}
use Rattle.policy_machine.proofs.TreeKept.{AreApart, KeepsTree, SparesTree}
use Rattle.policy_machine.proofs.ChangingBytes.{manages}
use Rattle.policy_machine.proofs.TreesAlike.{same_lists_leave}

-- An accepted command keeps the tree of a domain, unless the form may change the registry and acts for one that has power over it.
pub record IsSparing (form : CommandForm) : Type 0 where
  pub spares : (admitted : Admitted) (done : Effect) → IsReady admitted → JudgesAs form admitted None → form.does admitted done → (domain : List ℕ)
      → IsDomainNamed admitted.at.registry domain → (Contains changing form.instruction → HasPowerOver admitted.at.registry (acting admitted) domain → ⊥)
      → KeepsTree admitted done.state.registry domain

-- what changes no more than the numbers of sequence counters does
pub quiet_sparing : (form : CommandForm) → ((admitted : Admitted) (done : Effect) → form.does admitted done → IsSameButCounters admitted.at.registry done.state.registry)
    → IsSparing form
quiet_sparing form quiet = record {
  spares = λ admitted done ready judges does domain named powerless.
      (let same = quiet admitted done does in
      let left = same_lists_leave admitted.at.registry done.state.registry same.entries same.files same.keys same.objects domain in
      record { stays = left.stays; new = λ member in_it. inl (left.back member in_it) });
}

-- two domains, where the one that an accepted command acts for has no power over the other
pub apart_when_ready : (admitted : Admitted) → IsReady admitted → (domain : List ℕ) → IsDomainNamed admitted.at.registry domain
    → (HasPowerOver admitted.at.registry (acting admitted) domain → ⊥) → AreApart admitted domain
apart_when_ready admitted ready domain named powerless = record {
  of = sound_of_card ready.sound;
  named = named;
  powerless = powerless;
}

-- What a form of card content management makes of the registry spares the tree.
abbrev pub IsManagedSparing : ManagedForm → Type 0
IsManagedSparing form =
    (admitted : Admitted) (asked : form.judged.Asked) (changed : Registry) → IsPassedFor form.judged admitted asked → JudgesAs (command_form form) admitted None
    → form.becomes admitted asked changed → (domain : List ℕ) → AreApart admitted domain → SparesTree admitted changed domain

-- The command of a form that spares the tree spares it.
pub managed_sparing : (form : ManagedForm) → IsManagedLawful form → Contains changing form.judged.instruction → IsManagedSparing form → IsSparing (command_form form)
managed_sparing form lawful changes spares = record {
  spares = λ admitted done ready judges does domain named powerless.
      (let apart = apart_when_ready admitted ready domain named (powerless changes) in
      let passed = passed_for form lawful (manages form.judged.instruction changes) admitted done ready judges does in
      answered_spares admitted domain does.changed (spares admitted does.asked does.changed passed judges does.becomes domain apart)
      (form.judged.delegation.about admitted does.asked) done (form.judged.delegation.is_delegated admitted) (form.reply does.asked) does.answered);
}
