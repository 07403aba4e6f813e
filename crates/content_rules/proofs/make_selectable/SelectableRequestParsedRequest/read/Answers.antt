use Rattle.std.proofs.Common.{length, sym, subst, ◌∙◌, arith}
use Rattle.std.proofs.lemmas.Bool.{eqb-true}
use Rattle.std.proofs.lemmas.List.{nil_from_length}
use Rattle.content_rules.specs.Prelude.{InstallData, given_of}
use Rattle.policy_machine.proofs.LengthFields.{one_data}
use Rattle.content_rules.proofs.PrivilegesGiven.{GivesPrivileges, gives_privileges, unreadable}
use Rattle.content_rules.proofs.make_selectable.SelectableRequestParsedRequest.read.Goals as goal

pub returns-in_err-privileges-clause-none : goal.returns-in_err-privileges-clause-none
returns-in_err-privileges-clause-none c =
    rw c.from_residual-in_err-privileges.ensures
    (λ given asks. unreadable _ c.in_err-privileges.ensures.none
    (subst (λ (other : InstallData). GivesPrivileges other.privileges)
    (one_data given (given_of c.in_ok-fields.fields) c.args.body.now asks.fields c.in_ok-fields.ensures.some) asks.privileges))

pub returns-clause-some : goal.returns-clause-some
returns-clause-some c =
    let fields = c.in_ok-fields.fields in
    let before = c.in_ok-fields.ensures.before in
    record {
      given = given_of fields;
      asks = record {
        fields = c.in_ok-fields.ensures.some;
        no_file = nil_from_length fields.first.now (eqb-true (length fields.first.now) 0 (sym c.is_empty.ensures ∙ c.if-not-is_empty.false));
        no_module = nil_from_length fields.second.now (eqb-true (length fields.second.now) 0 (sym c.is_empty-else-not-is_empty.ensures ∙ c.if-not-is_empty-2.false));
        aid = c.in_ok-aid.ensures.length;
        privileges = gives_privileges _ fields.privileges.now c.in_ok-privileges.ensures.some;
      };
      aid = c.in_ok-aid.ensures.some;
      privileges = c.in_ok-privileges.ensures.some;
      parameters = c.over.ensures.parameters;
      approval = c.over.ensures.approval ∙ (λ i. record { before = before i; token = fields.token.now });
      short = omega (arith, c.over.ensures.short, c.in_ok-fields.ensures.short);
    }
