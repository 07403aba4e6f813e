use Rattle.std.proofs.Common.{◌≡◌, ◌+◌, List, ℕ, get_or, refl, ap, subst, sym, ◌∙◌, arith}
use Rattle.std.proofs.lemmas.List.{take_rest}
use Rattle.policy_machine.proofs.KeyFields.{HasMarks, field_from_marks, key_between}
use Rattle.policy_machine.specs.KeyFields.{BeginsWithKey}
use Rattle.policy_rules.proofs.put_key.read_field.Goals as goal

pub returns-clause-some : goal.returns-clause-some
returns-clause-some c =
    let bytes = c.args.bytes.now in
    let len = get_or bytes 2 0 in
    let mark = 3 + c.in_ok-size.size in
    let end = mark + 1 + 3 in
    let sealed = c.in_ok-size.ensures.some in
    let marks : HasMarks len bytes = record {
      is_length = sealed.0;
      long = omega arith;
      kind = c.if-bytes.false;
      key_data = sealed.2 ∙ ap (λ (n : ℕ). n + 1) sealed.1;
      key_size = refl;
      check_size = subst (λ (n : ℕ). get_or bytes n 0 ≡ 0x03) (omega arith) c.if-bytes-mark-ne3.false;
    } in
    subst (λ (rest : List ℕ). BeginsWithKey (key_between len mark end bytes) bytes rest) (sym (take_rest bytes end))
    (field_from_marks len mark end bytes (omega arith) (omega arith) marks)
