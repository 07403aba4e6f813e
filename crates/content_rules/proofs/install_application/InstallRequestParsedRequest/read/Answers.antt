use Rattle.std.proofs.Common.{refl, subst, arith, ◌∙◌}
use Rattle.std.proofs.lemmas.Bool.{iff_false}
use Rattle.content_rules.specs.Prelude.{AreInstallParameters, ArePrivilegeBytes, InstallData, IsAid, given_of}
use Rattle.policy_machine.proofs.InstallApplicationAsking.{same_given}
use Rattle.content_rules.proofs.install_application.InstallRequestParsedRequest.read.Goals as goal

pub returns-in_err-module-clause-none : goal.returns-in_err-module-clause-none
returns-in_err-module-clause-none c =
    rw c.from_residual-in_err-module.ensures
    (λ asked asks. c.in_err-module.ensures.none
    (subst (λ (given : InstallData). IsAid given.second) (same_given (given_of c.in_ok-fields.fields) asked c.args.body.now c.in_ok-fields.ensures.some asks) asks.module_))

pub returns-in_err-aid-clause-none : goal.returns-in_err-aid-clause-none
returns-in_err-aid-clause-none c =
    rw c.from_residual-in_err-aid.ensures
    (λ asked asks. c.in_err-aid.ensures.none
    (subst (λ (given : InstallData). IsAid given.third) (same_given (given_of c.in_ok-fields.fields) asked c.args.body.now c.in_ok-fields.ensures.some asks) asks.aid))

pub returns-in_err-privileges-clause-none : goal.returns-in_err-privileges-clause-none
returns-in_err-privileges-clause-none c =
    rw c.from_residual-in_err-privileges.ensures
    (λ asked asks. c.in_err-privileges.ensures.none asked.privileges
    (subst (λ (given : InstallData). ArePrivilegeBytes asked.privileges given.privileges)
    (same_given (given_of c.in_ok-fields.fields) asked c.args.body.now c.in_ok-fields.ensures.some asks) asks.privileges))

pub returns-then-not-are_parameters-clause-none : goal.returns-then-not-are_parameters-clause-none
returns-then-not-are_parameters-clause-none c asked asks =
    iff_false c.are_parameters.ensures c.if-not-are_parameters.true
    (subst (λ (given : InstallData). AreInstallParameters given.parameters)
    (same_given (given_of c.in_ok-fields.fields) asked c.args.body.now c.in_ok-fields.ensures.some asks) asks.parameters)

pub returns-clause-some : goal.returns-clause-some
returns-clause-some c =
    let fields = c.in_ok-fields.fields in
    let before = c.in_ok-fields.ensures.before in
    record {
      asked = record { given = given_of fields; privileges = c.in_ok-privileges.privileges };
      asks = record {
        fields = c.in_ok-fields.ensures.some;
        file = c.in_ok-file.ensures.length;
        module_ = c.in_ok-module.ensures.length;
        aid = c.in_ok-aid.ensures.length;
        privileges = c.in_ok-privileges.ensures.some;
        parameters = c.are_parameters.ensures.0 c.if-not-are_parameters.false;
      };
      selectable = refl;
      file = c.in_ok-file.ensures.some;
      module_ = c.in_ok-module.ensures.some;
      aid = c.in_ok-aid.ensures.some;
      privileges = refl;
      parameters = c.over.ensures.parameters;
      approval = c.over.ensures.approval ∙ (λ i. record { before = before i; token = fields.token.now });
      short = omega (arith, c.over.ensures.short, c.in_ok-fields.ensures.short);
    }
