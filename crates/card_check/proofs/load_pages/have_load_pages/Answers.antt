use Rattle.std.proofs.Common.{◌+◌, ◌<◌, Bool, List, length, None, take, refl, sym, subst, ◌∙◌, arith}
use Rattle.std.proofs.lemmas.List.{get_or_read}
use Rattle.card_check.specs.LoadPages.{all_pages}
use Rattle.card_check.proofs.LoadFilesNamed.{HaveMarks, file_has, files_end, files_go_on, files_pass, have_none}
use Rattle.card_check.proofs.load_pages.have_load_pages.Goals as goal
use Rattle.card_check.proofs.load_pages.have_load_pages.Goals.{in-Some+else-not-mark_file, in_default}

pub loop-slot-init : goal.loop-slot-init
loop-slot-init c = have_none

pub loop-slot-preserved : goal.loop-slot-preserved
loop-slot-preserved c =
    let files = c.args.files.now in
    let i = c.loop-slot.slot-index in
    let within : i < length files = omega (arith, c.loop-slot-test.true) in
    let have = c.loop-slot.invariant in
    let at = get_or_read files i c.slot-item.result within c.slot-item.is None in
    elim c.match-slot.branch [
      | in-Some+else-not-mark_file w ↦
          (let file = w.in-Some.file in
          let before = all_pages (take i files) in
          let short = w.mark_file.ensures.length w.if-not-mark_file.false in
          subst (λ (marks : List Bool). HaveMarks marks (take (i + 1) files)) (sym w.marks-is)
          (files_go_on files w.mark_file.new.marks c.loop-slot.marks i file within (sym at ∙ w.in-Some.is) have w.mark_file.ensures.array short
          ((w.mark_file.ensures.apart before have.marked.marked have.marked.are short).0 w.if-not-mark_file.false)
          (w.mark_file.ensures.yes before have.marked.marked have.marked.are w.if-not-mark_file.false)))
      | in_default w ↦
          subst (λ (marks : List Bool). HaveMarks marks (take (i + 1) files)) (sym w.marks-is)
          (files_pass files c.loop-slot.marks i within (sym at ∙ w.in_default.is) have)
    ]

pub returns-then-not-mark_file-clause-is : goal.returns-then-not-mark_file-clause-is
returns-then-not-mark_file-clause-is c = (
  λ none. cc,
  λ whole.
      (let files = c.args.files.now in
      let i = c.loop-slot.slot-index in
      let within : i < length files = omega (arith, c.loop-slot-test.true) in
      let have = c.loop-slot.invariant in
      let at = get_or_read files i c.slot-item.result within c.slot-item.is None in
      let has = file_has files i c.in-Some.file within (sym at ∙ c.in-Some.is) whole in
      cc ((c.mark_file.ensures.apart (all_pages (take i files)) have.marked.marked have.marked.are has.0).1 has.1, c.if-not-mark_file.true)),
)

pub returns-clause-is : goal.returns-clause-is
returns-clause-is c =
    let all = files_end c.args.files.now c.loop-slot.marks c.loop-slot.slot-index (omega (arith, c.loop-slot-test.false)) c.loop-slot.invariant in
    (λ done. record { lengths = all.lengths; pages = all.marked.are }, λ have. refl)

pub returns-clause-arrays : goal.returns-clause-arrays
returns-clause-arrays c done = (files_end c.args.files.now c.loop-slot.marks c.loop-slot.slot-index (omega (arith, c.loop-slot-test.false)) c.loop-slot.invariant).arrays
