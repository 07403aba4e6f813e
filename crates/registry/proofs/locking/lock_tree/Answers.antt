use Rattle.std.proofs.Common.{◌≡◌, inl, inr, ◌<◌, true, List, Option, length, ap, sym, subst, ◌∙◌, arith}
use Rattle.std.proofs.lemmas.List.{length-set}
use Rattle.card_types.specs.Represents.{thing_in}
use Rattle.card_types.specs.declared.limits.TheConstants.{ENTRIES}
use Rattle.card_types.specs.declared.tables.Entry.{Entry}
use Rattle.card_types.specs.declared.tables.Tables.{Tables}
use Rattle.domain_tree.specs.Slots.{IsFreeOfLoops}
use Rattle.rec_store.specs.Places.{entry_page}
use Rattle.rec_store.specs.Places.{entry_pages}
use Rattle.registry.specs.Tree.{IsSlotInTree, LocksTree}
use Rattle.registry.proofs.Frames.{keeps_on, still_room}
use Rattle.registry.proofs.Locked.{says_locked}
use Rattle.registry.proofs.Marking.{all_inside, all_outside, marked_staged, marked_too, passed}
use Rattle.registry.proofs.Replaced.{thing_of}
use Rattle.registry.proofs.Staging.{passed_staged}
use Rattle.registry.proofs.Tree.{free_still, in_tree_still}
use Rattle.registry.proofs.locking.lock_tree.Goals as goal
use Rattle.registry.proofs.locking.lock_tree.Goals.{then-is_in_tree, else-is_in_tree}

pub is_in_tree-requires-clause-no_loops : goal.is_in_tree-requires-clause-no_loops
is_in_tree-requires-clause-no_loops g c =
    let start = c.args.records.now.tables.entries.items in
    let slots = c.loop-slot.records.tables.entries.items in
    let given : c.deref.result.now ≡ slots = c.deref.ensures.value ∙ ap (λ (t : Tables). t.entries.items) c.tables.ensures.tables in
    subst IsFreeOfLoops (sym given) (free_still start slots c.loop-slot.invariant.marked.steps c.requires.no_loops)

pub lock_slot-requires-clause-room : goal.lock_slot-requires-clause-room
lock_slot-requires-clause-room g c = still_room entry_pages c.args.records.now.staged c.loop-slot.records.staged c.loop-slot.invariant.room c.requires.room

pub loop-slot-preserved : goal.loop-slot-preserved
loop-slot-preserved g c =
    let slot = c.loop-slot.slot in
    let domain = c.args.domain in
    let locked = c.args.locked in
    let first = c.args.records.now in
    let loop = c.loop-slot.records in
    let before = c.loop-slot.invariant in
    let start = first.tables.entries.items in
    let slots = loop.tables.entries.items in
    let up : loop.live ≡ true = before.same.live ∙ c.requires.live in
    let given : c.deref.result.now ≡ slots = c.deref.ensures.value ∙ ap (λ (t : Tables). t.entries.items) c.tables.ensures.tables in
    let all : length slots ≡ ENTRIES = c.tables.ensures.roomy.slots.entries in
    let within : slot < length slots = omega (arith, all, c.loop-slot-test.true) in
    elim c.if-is_in_tree.branch [
      | then-is_in_tree w ↦
          (let set = w.lock_slot.ensures in
          let there : IsSlotInTree slots domain slot = subst (λ (s : List (Option Entry)). IsSlotInTree s domain slot) given (c.is_in_tree.ensures.0 w.if-is_in_tree.true) in
          let of_tree : IsSlotInTree start domain slot = in_tree_still start slots before.marked.steps domain slot there in
          let after = w.lock_slot.new.records.tables.entries.items in
          rw w.records-is (record {
            same = record {
              flash = set.same.0 ∙ before.same.flash;
              live = set.same.1 ∙ sym up ∙ before.same.live;
              life = set.slots.life ∙ before.same.life;
              files = set.slots.files ∙ before.same.files;
              keys = set.slots.keys ∙ before.same.keys;
              objects = set.slots.objects ∙ before.same.objects;
            };
            marked = marked_too start slots domain locked slot before.marked after set.slots.entries within of_tree;
            all = λ _. ap (λ (s : List (Option Entry)). length s) set.slots.entries ∙ length-set slots slot _ ∙ all;
            staged = marked_staged start slots domain locked slot before.marked after set.slots.entries within first.staged loop.staged w.lock_slot.new.records.staged before.staged set.staged;
            room = keeps_on entry_pages first.staged loop.staged w.lock_slot.new.records.staged before.room set.room;
          }))
      | else-is_in_tree w ↦
          (let out : IsSlotInTree start domain slot → ⊥ = λ there.
          (let here : IsSlotInTree slots domain slot = in_tree_still slots start (λ k. sym (before.marked.steps k)) domain slot there in
          let is = c.is_in_tree.ensures.1 (subst (λ (s : List (Option Entry)). IsSlotInTree s domain slot) (sym given) here) in
          let is_not = w.if-is_in_tree.false in
          cc) in
          rw w.records-is (record {
            same = before.same;
            marked = passed start slots domain locked slot before.marked out;
            all = λ _. all;
            staged = passed_staged entry_page first.staged loop.staged start slots slot before.staged;
            room = before.room;
          }))
    ]

pub returns-clause-slots : goal.returns-clause-slots
returns-clause-slots g c =
    let domain = c.args.domain in
    let first = c.args.records.now.tables in
    let before = c.loop-slot.invariant in
    let start = first.entries.items in
    let slots = c.loop-slot.records.tables.entries.items in
    let top = thing_of (thing_in start domain) c.requires.slot in
    let all : length start ≡ c.loop-slot.slot = omega (arith, before.all (omega (arith, c.loop-slot-test.false)), before.marked.long, c.loop-slot-test.false) in
    record {
      life = before.same.life;
      slots = before.marked.long;
      inside = λ slot there. all_inside start slots domain c.args.locked c.loop-slot.slot before.marked all slot top.0 top.1 there;
      outside = all_outside start slots domain c.args.locked c.loop-slot.slot before.marked all;
      files = before.same.files;
      keys = before.same.keys;
      objects = before.same.objects;
    }

pub returns-clause-said : goal.returns-clause-said
returns-clause-said g c page said says well =
    let domain = c.args.domain in
    let first = c.args.records.now.tables in
    let last = c.loop-slot.records.tables in
    let top = thing_of (thing_in first.entries.items domain) c.requires.slot in
    let locks : LocksTree first last domain c.args.locked = returns-clause-slots g c in
    says_locked page first last said says well domain top.0 top.1 c.args.locked locks c.loop-slot.invariant.marked.long

pub returns-clause-staged : goal.returns-clause-staged
returns-clause-staged g c page there = elim (c.loop-slot.invariant.staged page there) [
  | inl old ↦ inl old
  | inr new ↦ inr (new.0, new.1, new.3)
]
