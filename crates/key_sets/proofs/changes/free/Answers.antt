use Rattle.std.proofs.Common.{◌≡◌, ◌<◌, List, Option, length, refl, sym, subst, ◌∙◌, arith}
use Rattle.std.proofs.lemmas.List.{length-set}
use Rattle.card_types.specs.Represents.{thing_in}
use Rattle.card_types.specs.declared.limits.TheConstants.{KEYS}
use Rattle.card_types.specs.declared.tables.KeyRec.{KeyRec}
use Rattle.key_rules.specs.InSlots.{holds_one_of}
use Rattle.card_types.proofs.ChangedSlot.{gone_more, gone_set}
use Rattle.key_rules.proofs.Stays.{all_stay, stay_after}
use Rattle.key_sets.proofs.changes.free.Goals as goal
use Rattle.key_sets.proofs.changes.free.Goals.{then-goes, else-goes}

pub loop-slot-preserved : goal.loop-slot-preserved
loop-slot-preserved g c =
    let R = g.R.RecordKeeper in
    let owner = c.args.owner in
    let version = c.args.version in
    let slot = c.loop-slot.slot in
    let before = c.loop-slot.invariant in
    let slots = R.slots c.loop-slot.keeper in
    let here : c.goes.result ≡ holds_one_of owner version (thing_in slots slot) =
    subst (λ (keys : List (Option KeyRec)). c.goes.result ≡ holds_one_of owner version (thing_in keys slot)) c.keys.ensures.key_slots c.goes.ensures in
    let all : length slots ≡ KEYS = subst (λ (keys : List (Option KeyRec)). length keys ≡ KEYS) c.keys.ensures.key_slots c.keys.ensures.count in
    let within : slot < length slots = omega (arith, all, c.loop-slot-test.true) in
    elim c.if-goes.branch [
      | then-goes w ↦
          (let set = w.set_key.ensures in
          rw (w.keeper-is, set.key_slots) (record {
            roomy = set.roomy;
            same_else = g.met.R.RecordKeeper.same_on c.args.keeper.now c.loop-slot.keeper w.set_key.new.self before.same_else set.same_else;
            count = length-set slots slot _ ∙ before.count;
            all = λ _. length-set slots slot _ ∙ all;
            stay = stay_after owner version slots slot (sym here ∙ w.if-goes.true) ∙ before.stay;
            gone = gone_set (holds_one_of owner version) refl slots slot before.gone within;
          }))
      | else-goes w ↦
          rw w.keeper-is (record {
            roomy = before.roomy;
            same_else = before.same_else;
            count = before.count;
            all = λ _. all;
            stay = before.stay;
            gone = gone_more (holds_one_of owner version) refl slots slot before.gone (sym here ∙ w.if-goes.false);
          })
    ]

pub returns-clause-keys : goal.returns-clause-keys
returns-clause-keys g c =
    let R = g.R.RecordKeeper in
    let slots = R.slots c.loop-slot.keeper in
    let all : length slots ≡ KEYS = c.loop-slot.invariant.all (omega (arith, c.loop-slot-test.false)) in
    sym (all_stay c.args.owner c.args.version slots (λ slot within. c.loop-slot.invariant.gone slot (omega (arith, within, all, c.loop-slot-test.false)))) ∙ c.loop-slot.invariant.stay
