use Rattle.std.proofs.Common.{◌≡◌, inl, inr, ℕ, ◌<◌, ◌≤◌, Bool, List, Option, None, Some, refl, sym, subst, arith}
use Rattle.std.specs.Prelude.{IfNone, IfSome, IsTrue}
use Rattle.std.specs.Option.{is_some}
use Rattle.card_types.specs.KeySets.{HasKeys, IsSetOf, NoSetOf}
use Rattle.card_types.specs.declared.tables.KeyRec.{KeyRec}
use Rattle.card_check.proofs.keys.is_in_set.Goals as goal

-- a key set is found exactly where there are its three keys
in_set : (keys : List (Option KeyRec)) (owner version : ℕ) (found : Option (List ℕ)) (is : Bool) → is ≡ is_some found → 1 ≤ version → version ≤ 0x6F
    → IfSome found (IsSetOf keys owner version) → IfNone found (NoSetOf keys owner version)
    → (IsTrue is → version < 0x70 → (slots : List ℕ) × HasKeys keys owner version slots)
    × ((version < 0x70 → (slots : List ℕ) × HasKeys keys owner version slots) → IsTrue is)
in_set keys owner version None is same least most some none = (
  λ yes. cc,
  λ there.
      (let set = there (omega arith) in
      absurd (none version set.0 (record { asked = inr refl; least = least; most = most }) set.1)),
)
in_set keys owner version (Some slots) is same least most some none = (
  λ yes low.
      (let alike : some.version ≡ version = elim some.asked.asked [
        | inl any ↦ absurd (omega (arith, least, any))
        | inr this ↦ sym this
      ] in
      (slots, subst (λ (v : ℕ). HasKeys keys owner v slots) alike some.whole)),
  λ there. same,
)

pub returns-else-key-gt-LAST_VERSION : goal.returns-else-key-gt-LAST_VERSION
returns-else-key-gt-LAST_VERSION c =
    in_set c.args.keys.now c.args.key.now.owner c.args.key.now.version c.set_of.result c.is_some.result c.is_some.ensures c.requires.version
    (omega (arith, c.if-key-gt-LAST_VERSION.false)) c.set_of.ensures.some c.set_of.ensures.none
