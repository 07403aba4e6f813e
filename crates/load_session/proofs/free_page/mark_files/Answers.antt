use Rattle.std.proofs.Common.{◌≡◌, ◌<◌, ◌≤◌, List, Option, None, length, take, get_or, ap, sym, subst, ◌∙◌, arith}
use Rattle.std.proofs.lemmas.List.{get_or_read, take_all}
use Rattle.std.proofs.lemmas.List.Elements.{All-contains}
use Rattle.load_session.specs.Prelude.{HasMarks, IsInLoadPages, all_pages, things_in}
use Rattle.card_types.proofs.Shows.{used_from_held}
use Rattle.card_types.specs.declared.tables.LoadFile.{LoadFile}
use Rattle.load_session.proofs.PageMarks.{pages_of_next, pages_of_pass}
use Rattle.load_session.proofs.free_page.mark_files.Goals as goal
use Rattle.load_session.proofs.free_page.mark_files.Goals.{in-Some, in_default}

pub named-requires : goal.named-requires
named-requires c =
    let files = c.args.tables.now.files.items in
    let i = c.loop-slot.slot-index in
    let item = get_or_read c.deref-slot-items.result.now i c.slot-item.result (omega (arith, c.loop-slot-test.true)) c.slot-item.is None in
    let at = subst (λ (all : List (Option LoadFile)). c.slot-item.result ≡ get_or all i None) c.deref-slot-items.ensures.value item in
    (All-contains IsInLoadPages (things_in files) c.in-Some.file c.requires.roomy.files (used_from_held files i c.in-Some.file (sym at ∙ c.in-Some.is))).size

pub loop-slot-preserved : goal.loop-slot-preserved
loop-slot-preserved c =
    let files = c.args.tables.now.files.items in
    let i = c.loop-slot.slot-index in
    let within : i < length files = omega (arith, c.loop-slot-test.true, ap length c.deref-slot-items.ensures.value) in
    let item = get_or_read c.deref-slot-items.result.now i c.slot-item.result (omega (arith, c.loop-slot-test.true)) c.slot-item.is None in
    let at = subst (λ (all : List (Option LoadFile)). c.slot-item.result ≡ get_or all i None) c.deref-slot-items.ensures.value item in
    let before = c.loop-slot.invariant in
    elim c.match-slot.branch [
      | in-Some w ↦
          rw (w.marks-is, pages_of_next files i within w.in-Some.file (sym at ∙ w.in-Some.is)) (rw w.named.ensures.value at w.mark.ensures (all_pages (take i files)) before)
      | in_default w ↦ rw (w.marks-is, pages_of_pass files i within (sym at ∙ w.in_default.is)) before
    ]

pub returns : goal.returns
returns c =
    let files = c.args.tables.now.files.items in
    let past : length files ≤ c.loop-slot.slot-index = omega (arith, c.loop-slot-test.false, ap length c.deref-slot-items.ensures.value) in
    subst (λ (all : List (Option LoadFile)). HasMarks c.loop-slot.marks (all_pages all)) (take_all c.loop-slot.slot-index files past) c.loop-slot.invariant
