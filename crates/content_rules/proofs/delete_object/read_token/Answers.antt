use Rattle.std.proofs.Common.{inl, inr, length, sym, ◌∙◌}
use Rattle.std.proofs.lemmas.Bool.{eqb-false}
use Rattle.policy_machine.proofs.DeleteObjectAsking.{other_token, unread_token}
use Rattle.content_rules.proofs.delete_object.read_token.Goals.{then-token-ne158-via-then-token-ne158, then-token-ne158-via-else-token-ne158+then-not-is_empty}
use Rattle.content_rules.proofs.delete_object.read_token.Goals as goal

pub returns-in_default-clause-none : goal.returns-in_default-clause-none
returns-in_default-clause-none c =
    unread_token c.args.field.now (eqb-false (length c.args.field.now) 0 (sym c.is_empty.ensures ∙ c.if-is_empty.false)) c.in_default.ensures.only

pub returns-then-token-ne158-clause-none : goal.returns-then-token-ne158-clause-none
returns-then-token-ne158-clause-none c = elim c.then-token-ne158.branch [
  | then-token-ne158-via-then-token-ne158 w ↦
      other_token c.args.field.now c.in-Ok.token.tag c.in-Ok.token.value.now c.in-Ok.end.now c.in-Ok.ensures.found (inl w.if-token-ne158.true)
  | then-token-ne158-via-else-token-ne158+then-not-is_empty w ↦
      other_token c.args.field.now c.in-Ok.token.tag c.in-Ok.token.value.now c.in-Ok.end.now c.in-Ok.ensures.found
      (inr (eqb-false (length c.in-Ok.end.now) 0 (sym w.is_empty-else-token-ne158.ensures ∙ w.if-not-is_empty.true)))
]
