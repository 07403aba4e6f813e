use Rattle.std.proofs.Common.{rules, ◌≡◌, inl, inr, Some, sym, ◌∙◌}
use Rattle.std.specs.List.{list_any}
use Rattle.content_rules.specs.Prelude.{is_file_of, is_other_of, thing_in}
use Rattle.content_rules.proofs.DeleteObjectSlots.{entries_searched, files_searched, others_found}
use Rattle.content_rules.proofs.in_use.has_others.Goals as goal
use Rattle.content_rules.proofs.in_use.has_others.Goals.{After-unwrap-entry}

-- the entry in its slot
entry_held : (c : After-unwrap-entry) → thing_in c.args.tables.now.entries.items c.args.slot ≡ Some c.unwrap-entry.result.now
entry_held c = (let there : thing_in c.deref.result.now c.args.slot ≡ Some c.unwrap-entry.result.now = search rules in rw c.deref.ensures.value at there)

pub returns-then-has_other_entry : goal.returns-then-has_other_entry
returns-then-has_other_entry c =
    let tables = c.args.tables.now in
    let entry = c.unwrap-entry.result.now in
    let at = entry_held (goal.at.returns-then-has_other_entry c).After-unwrap-entry in
    let told : c.has_other_entry.result ≡ list_any (is_other_of c.args.slot entry.aid) tables.entries.items = rw c.deref-2.ensures.value at c.has_other_entry.ensures in (
      λ so. entries_searched tables c.requires.in_order c.args.slot entry at (sym told ∙ so),
      λ others. c.if-has_other_entry.true,
    )

pub returns-else-has_other_entry : goal.returns-else-has_other_entry
returns-else-has_other_entry c =
    let tables = c.args.tables.now in
    let entry = c.unwrap-entry.result.now in
    let at = entry_held (goal.at.returns-else-has_other_entry c).After-unwrap-entry in
    let told : c.has_other_entry.result ≡ list_any (is_other_of c.args.slot entry.aid) tables.entries.items = rw c.deref-2.ensures.value at c.has_other_entry.ensures in
    let files : c.has_file.result ≡ list_any (is_file_of c.args.slot) tables.files.items = rw c.deref-else-has_other_entry.ensures.value at c.has_file.ensures in (
      λ so. files_searched tables c.requires.in_order c.args.slot entry at (sym files ∙ so),
      λ others. elim (others_found tables c.requires.in_order c.args.slot entry at others) [
        | inl some ↦ (let clash = sym some ∙ sym told ∙ c.if-has_other_entry.false in cc)
        | inr some ↦ files ∙ some
      ],
    )
