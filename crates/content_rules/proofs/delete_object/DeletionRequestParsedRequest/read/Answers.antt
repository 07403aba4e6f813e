use Rattle.std.proofs.Common.{◌-◌, length, refl, arith}
use Rattle.std.specs.Prelude.{take}
use Rattle.std.proofs.lemmas.List.{length-take-le}
use Rattle.policy_machine.proofs.DeleteObjectAsking.{before_token, deletion_read, no_token, unread_deletion}
use Rattle.content_rules.proofs.delete_object.DeletionRequestParsedRequest.read.Goals as goal

pub returns-in_default-clause-none : goal.returns-in_default-clause-none
returns-in_default-clause-none c = unread_deletion c.args.body.now c.in_default.ensures.only

pub returns-in_err-token-clause-none : goal.returns-in_err-token-clause-none
returns-in_err-token-clause-none c =
    rw c.from_residual-in_err-token.ensures
    (no_token c.args.body.now c.in-Ok.named.tag c.in-Ok.named.value.now c.in-Ok.rest.now c.in-Ok.ensures.found c.in_err-token.ensures.none)

pub returns-clause-some : goal.returns-clause-some
returns-clause-some c =
    let body = c.args.body.now in
    let named = c.in-Ok.named in
    let rest = c.in-Ok.rest.now in
    let token = c.in_ok-token.token.now in
    let size = length body - length rest in
    let front = before_token body named.tag named.value.now rest c.in-Ok.ensures.found (take size body) refl in
    record {
      asked = record { aid = named.value.now; approval = record { before = take size body; token = token } };
      asks = deletion_read body named.tag named.value.now rest c.in-Ok.ensures.found (take size body) token front c.if-named-ne79.false
          c.in_ok-aid.ensures.length c.in_ok-token.ensures.some;
      form = c.requires;
      aid = c.in_ok-aid.ensures.some;
      related = refl;
      parameters = c.over.ensures.parameters;
      approval = c.over.ensures.approval;
      short = omega (arith, c.over.ensures.short, length-take-le size body (omega arith));
    }
