use Rattle.std.proofs.Common.{◌≡◌, false, List, Option, refl, sym, subst, ◌∙◌}
use Rattle.std.specs.List.Sorted.{IsPermutation}
use Rattle.std.proofs.lemmas.List.Sorted.{IsPermutation-refl}
use Rattle.card_types.specs.Represents.{things_in}
use Rattle.card_types.specs.declared.tables.KeyRec.{KeyRec}
use Rattle.key_rules.specs.PutFails.{has_version}
use Rattle.key_rules.proofs.Stays.{none_goes}
use Rattle.key_sets.proofs.deletion.delete.Goals as goal

pub returns-then-not-has_version-clause-deletes : goal.returns-then-not-has_version-clause-deletes
returns-then-not-has_version-clause-deletes g c =
    let slots = g.R.RecordKeeper.slots c.args.keeper.now in
    let none : has_version c.args.owner c.args.version slots ≡ false =
    subst (λ (keys : List (Option KeyRec)). has_version c.args.owner c.args.version keys ≡ false) c.keys.ensures.key_slots (sym c.has_version.ensures ∙ c.if-not-has_version.true) in
    record {
      count = refl;
      keys = subst (λ (keys : List KeyRec). IsPermutation (things_in slots) keys) (sym (none_goes c.args.owner c.args.version (things_in slots) none)) (IsPermutation-refl (things_in slots));
    }
