use Rattle.std.proofs.Common.{◌≡◌, ◌<◌, List, Option, None, length, refl, ap, sym, subst, ◌∙◌, arith}
use Rattle.std.specs.Prelude.{map}
use Rattle.std.proofs.lemmas.List.{length-set}
use Rattle.card_types.specs.Represents.{thing_in}
use Rattle.registry.specs.Removing.{is_owned, slot_without}
use Rattle.registry.proofs.Frames.{keeps_on, still_room}
use Rattle.card_types.proofs.ChangedSlot.{gone_more, gone_set}
use Rattle.registry.proofs.Freed.{freed_after, freed_differs, none_freed, rest_set}
use Rattle.registry.proofs.Staging.{changed_staged, passed_staged, set_staged}
use Rattle.registry.proofs.owned.free_owned.Goals as goal
use Rattle.registry.proofs.owned.free_owned.Goals.{then-is_of, else-is_of}

pub free-requires-clause-room : goal.free-requires-clause-room
free-requires-clause-room g c = still_room g.T.Owned.pages c.args.records.now.staged c.loop-slot.records.staged c.loop-slot.invariant.room c.requires.room

pub loop-slot-preserved : goal.loop-slot-preserved
loop-slot-preserved g c =
    let kind = g.T.Owned in
    let owner = c.args.owner in
    let slot = c.loop-slot.slot in
    let first = c.args.records.now in
    let loop = c.loop-slot.records in
    let before = c.loop-slot.invariant in
    let start = kind.slots first.tables in
    let slots = kind.slots loop.tables in
    let here : c.is_of.result ≡ is_owned kind.owner owner (thing_in slots slot) =
    subst (λ (s : List (Option g.row.T.Denot)). c.is_of.result ≡ is_owned kind.owner owner (thing_in s slot)) c.slots.ensures.slots c.is_of.ensures in
    let all : length slots ≡ kind.COUNT = ap (λ (s : List (Option g.row.T.Denot)). length s) (sym c.slots.ensures.slots) ∙ c.slots.ensures.count in
    let within : slot < length slots = omega (arith, all, c.loop-slot-test.true, c.COUNT-slot-end.ensures) in
    elim c.if-is_of.branch [
      | then-is_of w ↦
          (let set = w.free.ensures in
          let put = set.slots in
          let goes = sym here ∙ w.if-is_of.true in
          let differs = freed_differs kind.owner owner slots start slot goes (before.after slot (λ low. omega (arith, low))) within (kind.slots w.free.new.records.tables) put in
          rw w.records-is (record {
            rest = set.rest ∙ before.rest;
            same = (set.same.0 ∙ before.same.0, set.same.1 ∙ sym c.requires.live);
            staged = set_staged kind.page first.staged loop.staged start slots slot before.staged (kind.slots w.free.new.records.tables) None w.free.new.records.staged put set.staged differs;
            room = keeps_on kind.pages first.staged loop.staged w.free.new.records.staged before.room set.room;
            all = λ _. ap (λ (s : List (Option g.row.T.Denot)). length s) put ∙ length-set slots slot _ ∙ all;
            left = ap (λ (s : List (Option g.row.T.Denot)). map (slot_without kind.owner owner) s) put ∙ freed_after kind.owner owner slots slot goes ∙ before.left;
            after = λ k high. ap (λ (s : List (Option g.row.T.Denot)). thing_in s k) put ∙ rest_set slots start slot before.after k high;
            gone = rw put (gone_set (is_owned kind.owner owner) refl slots slot before.gone within);
          }))
      | else-is_of w ↦
          rw w.records-is (record {
            rest = before.rest;
            same = before.same;
            staged = passed_staged kind.page first.staged loop.staged start slots slot before.staged;
            room = before.room;
            all = λ _. all;
            left = before.left;
            after = λ k high. before.after k (λ low. high (omega (arith, low)));
            gone = gone_more (is_owned kind.owner owner) refl slots slot before.gone (sym here ∙ w.if-is_of.false);
          })
    ]

pub returns-clause-freed : goal.returns-clause-freed
returns-clause-freed g c =
    let kind = g.T.Owned in
    let slots = kind.slots c.loop-slot.records.tables in
    let all : length slots ≡ kind.COUNT = c.loop-slot.invariant.all (omega (arith, c.loop-slot-test.false, c.COUNT-slot-end.ensures, g.met.T.Owned.some)) in
    sym (none_freed kind.owner c.args.owner slots (λ slot within. c.loop-slot.invariant.gone slot (omega (arith, within, all, c.loop-slot-test.false, c.COUNT-slot-end.ensures)))) ∙ c.loop-slot.invariant.left

pub returns-clause-staged : goal.returns-clause-staged
returns-clause-staged g c =
    let kind = g.T.Owned in
    changed_staged kind.page c.args.records.now.staged c.loop-slot.records.staged (kind.slots c.args.records.now.tables) (kind.slots c.loop-slot.records.tables) c.loop-slot.slot
    c.loop-slot.invariant.staged
