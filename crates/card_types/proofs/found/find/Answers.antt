use Rattle.std.proofs.Common.{◌≡◌, ℕ, List, Option, None, Some, refl}
use Rattle.std.specs.Option.{option_map}
use Rattle.card_types.specs.Aid.{same_aid}
use Rattle.card_types.specs.Search.{NoneFits}
use Rattle.card_types.specs.Represents.{thing_in}
use Rattle.card_types.specs.declared.found.Found.TheVariants.{Entry, File}
use Rattle.card_types.proofs.SameAid.{same_aid_decides}
use Rattle.card_types.proofs.found.find.Goals as goal

none_has : {T : Type 0} (named : T → List ℕ) (slots : List (Option T)) (aid : List ℕ) → NoneFits (λ thing. same_aid (named thing) aid) slots
    → (slot : ℕ) → option_map named (thing_in slots slot) ≡ Some aid → ⊥
none_has {T} named slots aid none slot has = by (thing_in slots slot) refl has
  where
    by : (o : Option T) → thing_in slots slot ≡ o → option_map named o ≡ Some aid → ⊥
    by None at is = cc
    by (Some thing) at is = none slot thing at ((same_aid_decides (named thing) aid).1 cc)

pub returns-in-None-clause-none : goal.returns-in-None-clause-none
returns-in-None-clause-none c (Entry slot) is =
    none_has (λ entry. entry.aid) c.args.tables.now.entries.items c.args.aid.now (rw c.deref.ensures.value at c.in_default.ensures.none) slot is
returns-in-None-clause-none c (File slot) is =
    none_has (λ file. file.aid) c.args.tables.now.files.items c.args.aid.now (rw c.deref-2.ensures.value at c.in-None.ensures.none) slot is
