-- LOAD spares the trees in which the acting domain is not: the Executable Load File comes to be in it or below.
use Rattle.std.proofs.Common.{◌≡◌, ◌⊎◌, inl, inr, ℕ, ◌∷◌, List, ap, sym, subst}
use Rattle.std.specs.Prelude.{Contains}
use Rattle.std.proofs.lemmas.List.Sorted.{Contains-permutation}
use Rattle.card_types.proofs.Members.{contains_later}
use Rattle.card_types.proofs.NamedThings.{new_or_old}
use Rattle.policy_machine.specs.Prelude.{Admitted, Effect, EndsLoad, Holds, IsAtOrAbove, IsFileAdded, Key, LoadEffect, LoadFile, LoadGoesOn, LoadingFails, Object, Registry, about_load, acting, changing, delegated_management, file_of_load, loading, no_confirmation, with_block}
use Rattle.policy_machine.specs.declared.load.RuleLO.TheVariants.{LO7}
use Rattle.policy_machine.proofs.AnsweredSpares.{answered_spares}
use Rattle.policy_machine.proofs.LoadLaws.{no_rule}
use Rattle.policy_machine.proofs.SparingForms.{IsSparing, apart_when_ready}
use Rattle.policy_machine.proofs.TreeKept.{AreApart, KeepsTree, SparesTree, out_of_reach}
use Rattle.policy_machine.proofs.TreesOwned.{owned_spared, same_list}

module _ (admitted : Admitted) (domain : List ℕ) (apart : AreApart admitted domain) (file : LoadFile) (after : Registry)
    (added : IsFileAdded file admitted.at.registry after) (reach : (IsAtOrAbove admitted.at.registry (acting admitted) file.domain → ⊥) → ⊥) where
  abbrev before : Registry
  before = admitted.at.registry

  was : (f : LoadFile) → Contains after.files f → IsAtOrAbove before domain f.domain → Contains before.files f
  was f is at = elim (new_or_old (λ (x : LoadFile). x.aid) file before.files after.files apart.of.ascending.files added.files f is) [
    | inl same ↦
        absurd (reach (λ own. out_of_reach admitted domain apart f.domain at
        (subst (λ (x : LoadFile). IsAtOrAbove before (acting admitted) x.domain) same own)))
    | inr old ↦ old
  ]

  file_spared : SparesTree admitted after domain
  file_spared =
      owned_spared admitted domain apart after (ap (λ (r : Registry). r.entries) added.same)
      (λ f is. Contains-permutation (file ∷ before.files) after.files f added.files.same (contains_later file before.files f is)) was
      (same_list (λ (key : Key). key.owner) (acting admitted) before.keys after.keys (ap (λ (r : Registry). r.keys) added.same))
      (same_list (λ (object : Object). object.owner) (acting admitted) before.objects after.objects (ap (λ (r : Registry). r.objects) added.same))

-- the registry that stays
pub stays_sparing : (admitted : Admitted) (after : Registry) → after ≡ admitted.at.registry → (domain : List ℕ) → KeepsTree admitted after domain
stays_sparing admitted after same domain = subst (λ (r : Registry). KeepsTree admitted r domain) (sym same) (record {
  stays = record { members = λ member in_it. in_it; line = λ line is. is };
  new = λ member in_it. inl in_it;
})

pub load_sparing : Contains changing loading.instruction → IsSparing loading
load_sparing changes = record {
  spares = λ admitted done ready judges does domain named powerless.
      by admitted done does (apart_when_ready admitted ready domain named (powerless changes)) (no_rule admitted judges.1 LO7) does.taken;
}
  where
    by : (admitted : Admitted) (done : Effect) (does : LoadEffect admitted done) {domain : List ℕ} → AreApart admitted domain
        → (LoadingFails admitted LO7 → ⊥)
        → LoadGoesOn admitted (with_block does.load does.size does.bytes) done ⊎ EndsLoad admitted (with_block does.load does.size does.bytes) done
        → KeepsTree admitted done.state.registry domain
    by admitted done does {domain} apart passes (inl goes) = stays_sparing admitted done.state.registry goes.registry domain
    by admitted done does {domain} apart passes (inr ends) =
        (let next = with_block does.load does.size does.bytes in
        answered_spares admitted domain ends.changed
        (file_spared admitted domain apart (file_of_load next) ends.changed ends.added (λ away. passes (ends.last, (does.load, does.on, away))))
        (about_load next) done (Holds admitted delegated_management) no_confirmation ends.answered)
