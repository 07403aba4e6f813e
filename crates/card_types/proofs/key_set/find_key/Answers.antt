use Rattle.std.proofs.Common.{◌≡◌, ℕ, List, Option, None, Some, refl}
use Rattle.std.specs.Prelude.{IfNone, MatchOption}
use Rattle.std.proofs.lemmas.Bool.{eq-eqb}
use Rattle.card_types.specs.KeySets.{HasKey, IsKeyOf, is_key}
use Rattle.card_types.specs.Search.{NoneFits}
use Rattle.card_types.specs.Represents.{thing_in}
use Rattle.card_types.specs.declared.tables.KeyRec.{KeyRec}
use Rattle.card_types.proofs.key_set.find_key.Goals as goal

none_has : (keys : List (Option KeyRec)) (owner version identifier : ℕ) → NoneFits (is_key owner version identifier) keys
    → (slot : ℕ) → HasKey keys owner version identifier slot → ⊥
none_has keys owner version identifier none slot has = by (thing_in keys slot) refl has
  where
    by : (o : Option KeyRec) → thing_in keys slot ≡ o → MatchOption o ⊥ (IsKeyOf owner version identifier) → ⊥
    by None at is = is
    by (Some key) at is =
        none slot key at
        (rw (eq-eqb key.owner owner is.same_owner, eq-eqb key.version version is.same_version, eq-eqb key.identifier identifier is.same_identifier) refl)

if_none : {T P Q : Type 0} (o : Option T) → (P → Q) → IfNone o P → IfNone o Q
if_none None more p = more p
if_none (Some x) more p = tt

pub returns-clause-none : goal.returns-clause-none
returns-clause-none c =
    if_none c.first_that.result (none_has c.args.keys.now c.args.owner c.args.version c.args.identifier) c.first_that.ensures.none
