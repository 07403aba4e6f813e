use Rattle.std.proofs.Common.{◌≡◌, ◌<◌, ◌≤◌, List, Option, None, length, get_or, take, ap, sym, subst, ◌∙◌, arith}
use Rattle.std.specs.Prelude.{All}
use Rattle.std.proofs.lemmas.List.{get_or_read, take_all}
use Rattle.std.proofs.lemmas.List.Elements.{All-contains, All-push}
use Rattle.load_session.specs.Prelude.{HasPageNumbers, IsInLoadPages, things_in}
use Rattle.card_types.proofs.Shows.{used_from_held}
use Rattle.card_types.specs.declared.tables.LoadFile.{LoadFile}
use Rattle.load_session.proofs.PagesInUse.{pages_next, pages_pass, used_next, used_pass}
use Rattle.load_session.proofs.free_page.count_pages.Goals as goal
use Rattle.load_session.proofs.free_page.count_pages.Goals.{in-Some, in_default}

pub named-requires : goal.named-requires
named-requires c =
    let files = c.args.tables.now.files.items in
    let i = c.loop-slot.slot-index in
    let item = get_or_read c.deref-slot-items.result.now i c.slot-item.result (omega (arith, c.loop-slot-test.true)) c.slot-item.is None in
    let at = subst (λ (all : List (Option LoadFile)). c.slot-item.result ≡ get_or all i None) c.deref-slot-items.ensures.value item in
    (All-contains IsInLoadPages (things_in files) c.in-Some.file c.requires.files (used_from_held files i c.in-Some.file (sym at ∙ c.in-Some.is))).size

pub overflow_add-count : goal.overflow_add-count
overflow_add-count c =
    let slots : length c.deref-slot-items.result.now ≡ 16 = ap length c.deref-slot-items.ensures.value ∙ c.requires.slots.files in
    omega (arith, slots, c.loop-slot-test.true, c.loop-slot.invariant.1, c.named.ensures.few)

pub loop-slot-preserved : goal.loop-slot-preserved
loop-slot-preserved c =
    let files = c.args.tables.now.files.items in
    let i = c.loop-slot.slot-index in
    let slots = c.deref-slot-items.ensures.value in
    let within : i < length files = omega (arith, c.loop-slot-test.true, ap length slots) in
    let item = get_or_read c.deref-slot-items.result.now i c.slot-item.result (omega (arith, c.loop-slot-test.true)) c.slot-item.is None in
    let at = subst (λ (all : List (Option LoadFile)). c.slot-item.result ≡ get_or all i None) slots item in
    let before = c.loop-slot.invariant in
    elim c.match-slot.branch [
      | in-Some w ↦
          (let file = w.in-Some.file in
          let more = pages_next files i within file (sym at ∙ w.in-Some.is) in (
            omega (arith, w.named.ensures.count, more, before.0, w.count-is),
            omega (arith, w.named.ensures.few, before.1, w.count-is),
            subst (All HasPageNumbers) (sym (used_next files i within file (sym at ∙ w.in-Some.is))) (All-push HasPageNumbers (things_in (take i files)) file before.2 w.named.ensures.array),
          ))
      | in_default w ↦ (
        w.count-is ∙ before.0 ∙ sym (pages_pass files i within (sym at ∙ w.in_default.is)),
        omega (arith, before.1, w.count-is),
        subst (All HasPageNumbers) (sym (used_pass files i within (sym at ∙ w.in_default.is))) before.2,
      )
    ]

pub returns-clause-few : goal.returns-clause-few
returns-clause-few c =
    let slots : length c.deref-slot-items.result.now ≡ 16 = ap length c.deref-slot-items.ensures.value ∙ c.requires.slots.files in
    omega (arith, slots, c.loop-slot.auto.slot-index-end, c.loop-slot.invariant.1)

pub returns-clause-arrays : goal.returns-clause-arrays
returns-clause-arrays c =
    let files = c.args.tables.now.files.items in
    let past : length files ≤ c.loop-slot.slot-index = omega (arith, c.loop-slot-test.false, ap length c.deref-slot-items.ensures.value) in
    subst (λ (all : List (Option LoadFile)). All HasPageNumbers (things_in all)) (take_all c.loop-slot.slot-index files past) c.loop-slot.invariant.2
