-- DELETE of a key spares the trees in which the acting domain is not.
use Rattle.std.proofs.Common.{◌≡◌, ◌≢◌, ℕ, List, [], false, refl, ap, sym, subst, arith}
use Rattle.std.specs.Prelude.{◌&&◌, ◌==◌}
use Rattle.card_types.proofs.NamedThings.{aid_differs}
use Rattle.policy_machine.specs.Prelude.{Key, Object, Registry, acting, counters_but, is_key_numbered, keys_but, managed_delete_key, with_keys}
use Rattle.policy_machine.proofs.SparingForms.{IsManagedSparing}
use Rattle.policy_machine.proofs.TreeKept.{SparesTree}
use Rattle.policy_machine.proofs.TreesOwned.{owned_spared, same_list, same_replaced}

-- the keys of other domains are none of those with a key version number
pub not_numbered : (owner : List ℕ) (version : ℕ) (key : Key) → key.owner ≢ owner → is_key_numbered owner version key ≡ false
not_numbered owner version key other = ap (λ b. b && key.version == version) (aid_differs key.owner owner other)

pub delete_key_sparing : IsManagedSparing managed_delete_key
delete_key_sparing admitted chosen changed passed judges becomes domain apart =
    let before = admitted.at.registry in
    let self = acting admitted in
    let after = with_keys before (keys_but self chosen.version before.keys) (counters_but self chosen.version before.counters) in
    let others = same_replaced (λ (key : Key). key.owner) self (is_key_numbered self chosen.version) [] before.keys (not_numbered self chosen.version)
    (λ key is. absurd (omega (arith, is.1))) in
    subst (λ (r : Registry). SparesTree admitted r domain) (sym becomes)
    (owned_spared admitted domain apart after refl (λ file is. is) (λ file is at. is) others
    (same_list (λ (object : Object). object.owner) self before.objects before.objects refl))
