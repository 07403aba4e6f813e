use Rattle.std.proofs.Common.{◌≡◌, ◌⊎◌, [], refl, subst, arith, ◌∙◌}
use Rattle.content_rules.specs.Prelude.{IsAid, LoadData, load_data_of}
use Rattle.policy_machine.proofs.LengthFields.{no_load_data, one_load_data}
use Rattle.content_rules.proofs.InstallLoadJudging.{names_some}
use Rattle.content_rules.proofs.install_load.LoadInstallRequestParsedRequest.read.Goals as goal

pub returns-in_err-fields-clause-none : goal.returns-in_err-fields-clause-none
returns-in_err-fields-clause-none c =
    rw c.from_residual.ensures (λ given asks. no_load_data c.args.body.now c.in_err-fields.ensures.none given asks.fields)

pub returns-in_err-file-clause-none : goal.returns-in_err-file-clause-none
returns-in_err-file-clause-none c =
    rw c.from_residual-in_err-file.ensures
    (λ given asks. c.in_err-file.ensures.none
    (subst (λ (other : LoadData). IsAid other.file) (one_load_data given (load_data_of c.in_ok-fields.fields) c.args.body.now asks.fields c.in_ok-fields.ensures.some) asks.file))

pub returns-in_err-domain-clause-none : goal.returns-in_err-domain-clause-none
returns-in_err-domain-clause-none c =
    rw c.from_residual-in_err-domain.ensures
    (λ given asks. c.in_err-domain.ensures.none
    (subst (λ (other : LoadData). (other.domain ≡ []) ⊎ IsAid other.domain)
    (one_load_data given (load_data_of c.in_ok-fields.fields) c.args.body.now asks.fields c.in_ok-fields.ensures.some) asks.domain))

pub returns-clause-some : goal.returns-clause-some
returns-clause-some c =
    let fields = c.in_ok-fields.fields in
    let before = c.front.ensures.before _ c.in_ok-fields.ensures.before in
    record {
      given = load_data_of fields;
      asks = record {
        fields = c.in_ok-fields.ensures.some;
        file = c.in_ok-file.ensures.length;
        domain = names_some c.in_ok-domain.domain fields.second.now c.in_ok-domain.ensures.some;
      };
      file = c.in_ok-file.ensures.some;
      domain = c.in_ok-domain.ensures.some;
      hash = refl;
      parameters = c.over.ensures.parameters;
      approval = c.over.ensures.approval ∙ (λ i. record { before = before i; token = fields.token.now });
      short = omega (arith, c.over.ensures.short, c.front.ensures.short);
    }
