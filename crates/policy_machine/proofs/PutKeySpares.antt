-- PUT KEY spares the trees in which the acting domain is not.
use Rattle.std.proofs.Common.{◌≡◌, inl, inr, ℕ, ◌+◌, List, [], ◌∷◌, ◌++◌, refl, ap, sym, subst, arith}
use Rattle.std.specs.Prelude.{Contains}
use Rattle.card_types.proofs.Members.{contains_cases}
use Rattle.policy_machine.specs.Prelude.{Key, Object, Registry, acting, is_key_numbered, keys_from, keys_left, managed_put_key, with_keys}
use Rattle.policy_machine.proofs.DeleteKeySpares.{not_numbered}
use Rattle.policy_machine.proofs.SparingForms.{IsManagedSparing}
use Rattle.policy_machine.proofs.TreeKept.{SparesTree}
use Rattle.policy_machine.proofs.TreesOwned.{owned_spared, same_arranged, same_list, same_replaced}

-- keys that are put are the acting domain's
owned_by : (owner : List ℕ) (version identifier : ℕ) (bytes : List (List ℕ)) (key : Key) → Contains (keys_from owner version identifier bytes) key → key.owner ≡ owner
owned_by owner version identifier [] key (k, within, is) = absurd (omega arith)
owned_by owner version identifier (one ∷ bytes) key is =
    elim (contains_cases (record { owner = owner; version = version; identifier = identifier; bytes = one }) (keys_from owner version (identifier + 1) bytes) key is) [
      | inl same ↦ ap (λ (k : Key). k.owner) (sym same)
      | inr later ↦ owned_by owner version (identifier + 1) bytes key later
    ]

pub put_key_sparing : IsManagedSparing managed_put_key
put_key_sparing admitted asked changed passed judges put domain apart =
    let before = admitted.at.registry in
    let self = acting admitted in
    let new = keys_from self asked.version 1 put.bytes in
    let others = same_arranged (λ (key : Key). key.owner) self before.keys (new ++ keys_left admitted) put.keys
    (same_replaced (λ (key : Key). key.owner) self (is_key_numbered self admitted.command.p1) new before.keys (not_numbered self admitted.command.p1)
    (owned_by self asked.version 1 put.bytes)) put.keys_put.same in
    subst (λ (r : Registry). SparesTree admitted r domain) (sym put.registry)
    (owned_spared admitted domain apart (with_keys before put.keys put.counters) refl (λ file is. is) (λ file is at. is) others
    (same_list (λ (object : Object). object.owner) self before.objects before.objects refl))
