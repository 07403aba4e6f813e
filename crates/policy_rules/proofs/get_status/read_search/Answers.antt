use Rattle.std.proofs.Common.{inl, inr, length, sym, subst, ◌∙◌}
use Rattle.std.proofs.lemmas.Bool.{eqb-false, eqb-true}
use Rattle.bertlv.specs.Spelling.{BeginsWith}
use Rattle.policy_rules.proofs.GetStatusSearch.{no_search, other_rest, other_search, search_with, unread_rest}
use Rattle.policy_rules.proofs.get_status.read_search.Goals.{then-partial-ne79-via-then-partial-ne79, then-partial-ne79-via-else-partial-ne79+then-partial-gt16, then-tags-ne92-via-then-tags-ne92, then-tags-ne92-via-else-tags-ne92+then-not-is_empty}
use Rattle.policy_rules.proofs.get_status.read_search.Goals as goal

pub returns-in_default-clause-none : goal.returns-in_default-clause-none
returns-in_default-clause-none c = no_search c.args.body.now c.in_default.ensures.only

pub returns-then-partial-ne79-clause-none : goal.returns-then-partial-ne79-clause-none
returns-then-partial-ne79-clause-none c = elim c.then-partial-ne79.branch [
  | then-partial-ne79-via-then-partial-ne79 w ↦
      other_search c.args.body.now c.in-Ok.partial.tag c.in-Ok.partial.value.now c.in-Ok.rest.now c.in-Ok.ensures.found (inl w.if-partial-ne79.true)
  | then-partial-ne79-via-else-partial-ne79+then-partial-gt16 w ↦
      other_search c.args.body.now c.in-Ok.partial.tag c.in-Ok.partial.value.now c.in-Ok.rest.now c.in-Ok.ensures.found (inr w.if-partial-gt16.true)
]

pub returns-in_default-read-clause-none : goal.returns-in_default-read-clause-none
returns-in_default-read-clause-none c =
    unread_rest c.args.body.now c.in-Ok.partial.tag c.in-Ok.partial.value.now c.in-Ok.rest.now c.in-Ok.ensures.found
    (eqb-false (length c.in-Ok.rest.now) 0 (sym c.is_empty.ensures ∙ c.if-is_empty.false)) c.in_default-read.ensures.only

pub returns-then-tags-ne92-clause-none : goal.returns-then-tags-ne92-clause-none
returns-then-tags-ne92-clause-none c = elim c.then-tags-ne92.branch [
  | then-tags-ne92-via-then-tags-ne92 w ↦
      other_rest c.args.body.now c.in-Ok.partial.tag c.in-Ok.partial.value.now c.in-Ok.rest.now c.in-Ok.ensures.found
      (eqb-false (length c.in-Ok.rest.now) 0 (sym c.is_empty.ensures ∙ c.if-is_empty.false)) c.in-Ok-read.tags.tag c.in-Ok-read.tags.value.now c.in-Ok-read.end.now
      c.in-Ok-read.ensures.found (inl w.if-tags-ne92.true)
  | then-tags-ne92-via-else-tags-ne92+then-not-is_empty w ↦
      other_rest c.args.body.now c.in-Ok.partial.tag c.in-Ok.partial.value.now c.in-Ok.rest.now c.in-Ok.ensures.found
      (eqb-false (length c.in-Ok.rest.now) 0 (sym c.is_empty.ensures ∙ c.if-is_empty.false)) c.in-Ok-read.tags.tag c.in-Ok-read.tags.value.now c.in-Ok-read.end.now
      c.in-Ok-read.ensures.found (inr (eqb-false (length c.in-Ok-read.end.now) 0 (sym w.is_empty-else-tags-ne92.ensures ∙ w.if-not-is_empty.true)))
]

pub returns-clause-some : goal.returns-clause-some
returns-clause-some c =
    search_with c.args.body.now c.in-Ok.partial.value.now c.in-Ok.rest.now c.in-Ok-read.tags.value.now c.in-Ok-read.end.now
    (subst (λ t. BeginsWith t c.in-Ok.partial.value.now c.in-Ok.rest.now c.args.body.now) c.if-partial-ne79.false c.in-Ok.ensures.found)
    (subst (λ t. BeginsWith t c.in-Ok-read.tags.value.now c.in-Ok-read.end.now c.in-Ok.rest.now) c.if-tags-ne92.false c.in-Ok-read.ensures.found)
    c.if-partial-gt16.false (eqb-true (length c.in-Ok-read.end.now) 0 (sym c.is_empty-else-tags-ne92.ensures ∙ c.if-not-is_empty.false))
