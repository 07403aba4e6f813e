use Rattle.std.proofs.Common.{◌≡◌, [], length, sym, ap, subst, ◌∙◌, arith}
use Rattle.std.proofs.lemmas.Bool.{eq-eqb, eqb-true}
use Rattle.std.proofs.lemmas.List.{nil_from_length}
use Rattle.content_rules.specs.Prelude.{InstallData, IsAid, given_of}
use Rattle.policy_machine.proofs.LengthFields.{one_data}
use Rattle.content_rules.proofs.extradition.ExtraditionRequestParsedRequest.read.Goals as goal
use Rattle.content_rules.proofs.extradition.ExtraditionRequestParsedRequest.read.Goals.{then-not-is_empty-via-then-not-is_empty, then-not-is_empty-via-else-not-is_empty+then-not-is_empty-2}

pub returns-then-not-is_empty-clause-none : goal.returns-then-not-is_empty-clause-none
returns-then-not-is_empty-clause-none c given asks =
    let same = one_data given (given_of c.in_ok-fields.fields) c.args.body.now asks.fields c.in_ok-fields.ensures.some in
    elim c.then-not-is_empty.branch [
      | then-not-is_empty-via-then-not-is_empty w ↦
          (let none = ap length (subst (λ (other : InstallData). other.second ≡ []) same asks.no_module) in
          let clash = sym (eq-eqb (length c.in_ok-fields.fields.second.now) 0 none) ∙ sym c.is_empty.ensures ∙ w.if-not-is_empty.true in
          cc)
      | then-not-is_empty-via-else-not-is_empty+then-not-is_empty-2 w ↦
          (let none = ap length (subst (λ (other : InstallData). other.privileges ≡ []) same asks.no_privileges) in
          let clash = sym (eq-eqb (length c.in_ok-fields.fields.privileges.now) 0 none) ∙ sym w.is_empty-else-not-is_empty.ensures ∙ w.if-not-is_empty-2.true in
          cc)
    ]

pub returns-in_err-aid-clause-none : goal.returns-in_err-aid-clause-none
returns-in_err-aid-clause-none c =
    rw c.from_residual-in_err-aid.ensures
    (λ given asks. c.in_err-aid.ensures.none
    (subst (λ (other : InstallData). IsAid other.third) (one_data given (given_of c.in_ok-fields.fields) c.args.body.now asks.fields c.in_ok-fields.ensures.some) asks.aid))

pub returns-clause-some : goal.returns-clause-some
returns-clause-some c =
    let fields = c.in_ok-fields.fields in
    let before = c.in_ok-fields.ensures.before in
    record {
      given = given_of fields;
      asks = record {
        fields = c.in_ok-fields.ensures.some;
        domain = c.in_ok-to.ensures.length;
        no_module = nil_from_length fields.second.now (eqb-true (length fields.second.now) 0 (sym c.is_empty.ensures ∙ c.if-not-is_empty.false));
        aid = c.in_ok-aid.ensures.length;
        no_privileges = nil_from_length fields.privileges.now (eqb-true (length fields.privileges.now) 0 (sym c.is_empty-else-not-is_empty.ensures ∙ c.if-not-is_empty-2.false));
      };
      to = c.in_ok-to.ensures.some;
      aid = c.in_ok-aid.ensures.some;
      parameters = c.over.ensures.parameters;
      approval = c.over.ensures.approval ∙ (λ i. record { before = before i; token = fields.token.now });
      short = omega (arith, c.over.ensures.short, c.in_ok-fields.ensures.short);
    }
