use Rattle.std.proofs.Common.{◌≡◌, [], ◌∷◌, sym, ◌∙◌}
use Rattle.std.proofs.lemmas.Bool.{eqb-false, eqb-true}
use Rattle.std.proofs.lemmas.List.Elements.{All-cons, All-nil}
use Rattle.policy_machine.proofs.KeyFields.{has_size, last_field, more_fields, none_after, none_here, none_later, none_unlike}
use Rattle.policy_rules.specs.Requests.{sent_key}
use Rattle.policy_rules.proofs.put_key.read_three.Goals as goal

pub returns-in_err-enc-clause-none : goal.returns-in_err-enc-clause-none
returns-in_err-enc-clause-none c = rw c.from_residual.ensures (none_here 2 c.args.bytes.now c.in_err-enc.ensures.none)

pub returns-in_err-mac-clause-none : goal.returns-in_err-mac-clause-none
returns-in_err-mac-clause-none c =
    rw c.from_residual-in_err-mac.ensures
    (none_later _ c.args.bytes.now _ 2 c.in_ok-enc.ensures.some (none_here 1 _ c.in_err-mac.ensures.none))

pub returns-in_err-dek-clause-none : goal.returns-in_err-dek-clause-none
returns-in_err-dek-clause-none c =
    rw c.from_residual-in_err-dek.ensures
    (none_later _ c.args.bytes.now _ 2 c.in_ok-enc.ensures.some (none_later _ _ _ 1 c.in_ok-mac.ensures.some (none_here 0 _ c.in_err-dek.ensures.none)))

pub returns-then-not-is_empty-clause-none : goal.returns-then-not-is_empty-clause-none
returns-then-not-is_empty-clause-none c =
    none_later _ c.args.bytes.now _ 2 c.in_ok-enc.ensures.some
    (none_later _ _ _ 1 c.in_ok-mac.ensures.some
    (none_later _ _ _ 0 c.in_ok-dek.ensures.some (none_after _ (eqb-false _ 0 (sym c.if-not-is_empty.ensures)))))

pub returns-then-not-have_one_length-clause-none : goal.returns-then-not-have_one_length-clause-none
returns-then-not-have_one_length-clause-none c =
    none_unlike _ _ _ c.args.bytes.now _ _ _ c.in_ok-enc.ensures.some c.in_ok-mac.ensures.some c.in_ok-dek.ensures.some
    (λ mac dek. (let same = c.have_one_length.ensures.1 (mac, dek) in cc))

pub returns-clause-some : goal.returns-clause-some
returns-clause-some c =
    let enc = sent_key c.in_ok-enc.enc in
    let mac = sent_key c.in_ok-mac.mac in
    let dek = sent_key c.in_ok-dek.dek in
    let size = enc.size in
    let same = c.have_one_length.ensures.0 c.if-not-have_one_length.false in
    let one : dek.size ≡ mac.size = same.1 ∙ sym same.0 in
    more_fields enc _ _ 2 _ c.in_ok-enc.ensures.some
    (All-cons (has_size size) mac (dek ∷ []) same.0 (All-cons (has_size size) dek [] same.1 (All-nil (has_size size))))
    (more_fields mac _ _ 1 _ c.in_ok-mac.ensures.some (All-cons (has_size mac.size) dek [] one (All-nil (has_size mac.size)))
    (last_field dek _ _ c.in_ok-dek.ensures.some (eqb-true _ 0 (sym c.if-not-is_empty.ensures))))
