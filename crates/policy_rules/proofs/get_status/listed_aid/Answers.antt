use Rattle.std.proofs.Common.{ap, sym, ◌∙◌}
use Rattle.std.specs.Prelude.{nat_eq, option_copied}
use Rattle.std.specs.List.{starts_with}
use Rattle.policy_rules.proofs.GetStatusListed.{listed_begins, listed_from}
use Rattle.policy_rules.proofs.get_status.listed_aid.Goals.{then-not-starts_with-via-then-not-starts_with, then-not-starts_with-via-else-not-starts_with+then-not-sees}
use Rattle.policy_rules.proofs.get_status.listed_aid.Goals as goal

pub returns-then-not-starts_with-clause-none : goal.returns-then-not-starts_with-clause-none
returns-then-not-starts_with-clause-none c page admitted aid acts is =
    let tables = c.args.tables.now in
    elim c.then-not-starts_with.branch [
      | then-not-starts_with-via-then-not-starts_with w ↦
          (let begins = listed_begins page tables c.args.domain admitted acts c.args.p1 c.args.partial.now (option_copied c.args.after) c.args.thing c.in-Some.aid aid
          (sym c.aid_at.ensures ∙ c.in-Some.is) is in
          let bytes = ap (λ a. starts_with nat_eq a c.args.partial.now) c.as_bytes.ensures.bytes in
          let clash = sym begins ∙ sym bytes ∙ sym c.starts_with.ensures.value ∙ w.if-not-starts_with.true in cc)
      | then-not-starts_with-via-else-not-starts_with+then-not-sees w ↦
          (let seen = (w.sees.ensures page admitted is.thing acts is.at).1 is.listed.seen in
          let clash = sym seen ∙ w.if-not-sees.true in cc)
    ]

pub returns-clause-some : goal.returns-clause-some
returns-clause-some c page admitted acts =
    listed_from page c.args.tables.now c.args.domain admitted acts c.args.p1 c.args.partial.now (option_copied c.args.after) c.args.thing c.in-Some.aid
    (sym c.aid_at.ensures ∙ c.in-Some.is) (c.is_kind.ensures.0 c.if-not-is_kind.false) (c.is_past.ensures.0 c.if-not-is_past.false)
    (ap (λ a. starts_with nat_eq a c.args.partial.now) (sym c.as_bytes.ensures.bytes) ∙ sym c.starts_with.ensures.value ∙ c.if-not-starts_with.false)
    (λ named at_thing. (c.sees.ensures page admitted named acts at_thing).0 c.if-not-sees.false)
