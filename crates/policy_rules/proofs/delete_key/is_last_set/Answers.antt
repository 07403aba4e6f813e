use Rattle.std.proofs.Common.{◌≡◌, List, Option, Some, ap, sym, subst, ◌∙◌}
use Rattle.std.specs.List.{list_any}
use Rattle.std.proofs.lemmas.Bool.{false_from_ne_true, not-true, not_from_false}
use Rattle.policy_rules.specs.Prelude.{domain_slot, holds_counter_but}
use Rattle.card_types.specs.declared.tables.Entry.{Entry}
use Rattle.policy_rules.proofs.DeleteKeyLastSet.{last_set, root_slot, set_left}
use Rattle.policy_rules.proofs.delete_key.is_last_set.Goals as goal

pub returns-then-is_root : goal.returns-then-is_root
returns-then-is_root c page admitted acts =
    let root = subst (λ (entries : List (Option Entry)). domain_slot entries c.args.domain ≡ Some c.args.domain) c.deref.ensures.value (c.is_root.ensures.0 c.if-is_root.true) in
    let has : c.has_set_but.result ≡ list_any (holds_counter_but c.args.domain c.args.version) c.args.tables.now.keys.items =
    c.has_set_but.ensures ∙ ap (list_any (holds_counter_but c.args.domain c.args.version)) c.deref-then-is_root.ensures.value in (
      λ none. last_set page c.args.tables.now c.args.domain admitted acts c.args.version root (sym has ∙ not-true c.has_set_but.result none),
      λ last. not_from_false c.has_set_but.result (false_from_ne_true c.has_set_but.result (λ some.
          set_left page c.args.tables.now c.args.domain admitted acts c.args.version (sym has ∙ some) last)),
    )

pub returns-else-is_root : goal.returns-else-is_root
returns-else-is_root c page admitted acts = (
  λ yes. (let clash = sym c.if-is_root.false ∙ yes in cc),
  λ last. c.is_root.ensures.1 (subst (λ (entries : List (Option Entry)). domain_slot entries c.args.domain ≡ Some c.args.domain) (sym c.deref.ensures.value)
      (root_slot page c.args.tables.now c.args.domain admitted acts c.args.version last.0)),
)
