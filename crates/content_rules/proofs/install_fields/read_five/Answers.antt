use Rattle.std.proofs.Common.{[], ◌∷◌, refl, sym}
use Rattle.std.proofs.lemmas.Bool.{eqb-false, eqb-true}
use Rattle.policy_machine.proofs.LengthFields.{before_more, more_fields, no_more_fields, none_after, none_here, none_later}
use Rattle.content_rules.proofs.install_fields.read_five.Goals as goal

pub returns-in_err-first-clause-none : goal.returns-in_err-first-clause-none
returns-in_err-first-clause-none c = rw c.from_residual.ensures (none_here 4 _ c.in_err-first.ensures.none)

pub returns-in_err-second-clause-none : goal.returns-in_err-second-clause-none
returns-in_err-second-clause-none c =
    rw c.from_residual-in_err-second.ensures (none_later _ _ _ 4 c.in_ok-first.ensures.some (none_here 3 _ c.in_err-second.ensures.none))

pub returns-in_err-third-clause-none : goal.returns-in_err-third-clause-none
returns-in_err-third-clause-none c =
    rw c.from_residual-in_err-third.ensures
    (none_later _ _ _ 4 c.in_ok-first.ensures.some (none_later _ _ _ 3 c.in_ok-second.ensures.some (none_here 2 _ c.in_err-third.ensures.none)))

pub returns-in_err-fourth-clause-none : goal.returns-in_err-fourth-clause-none
returns-in_err-fourth-clause-none c =
    rw c.from_residual-in_err-fourth.ensures
    (none_later _ _ _ 4 c.in_ok-first.ensures.some
    (none_later _ _ _ 3 c.in_ok-second.ensures.some (none_later _ _ _ 2 c.in_ok-third.ensures.some (none_here 1 _ c.in_err-fourth.ensures.none))))

pub returns-in_err-token-clause-none : goal.returns-in_err-token-clause-none
returns-in_err-token-clause-none c =
    rw c.from_residual-in_err-token.ensures
    (none_later _ _ _ 4 c.in_ok-first.ensures.some
    (none_later _ _ _ 3 c.in_ok-second.ensures.some
    (none_later _ _ _ 2 c.in_ok-third.ensures.some (none_later _ _ _ 1 c.in_ok-fourth.ensures.some (none_here 0 _ c.in_err-token.ensures.none)))))

pub returns-then-not-is_empty-clause-none : goal.returns-then-not-is_empty-clause-none
returns-then-not-is_empty-clause-none c =
    none_later _ _ _ 4 c.in_ok-first.ensures.some
    (none_later _ _ _ 3 c.in_ok-second.ensures.some
    (none_later _ _ _ 2 c.in_ok-third.ensures.some
    (none_later _ _ _ 1 c.in_ok-fourth.ensures.some
    (none_later _ _ _ 0 c.in_ok-token.ensures.some (none_after _ (eqb-false _ 0 (sym c.if-not-is_empty.ensures)))))))

pub returns-clause-some : goal.returns-clause-some
returns-clause-some c =
    more_fields _ _ _ _ c.in_ok-first.ensures.some
    (more_fields _ _ _ _ c.in_ok-second.ensures.some
    (more_fields _ _ _ _ c.in_ok-third.ensures.some
    (more_fields _ _ _ _ c.in_ok-fourth.ensures.some
    (more_fields _ _ _ _ c.in_ok-token.ensures.some (no_more_fields _ (eqb-true _ 0 (sym c.if-not-is_empty.ensures)))))))

pub returns-clause-before : goal.returns-clause-before
returns-clause-before c =
    let end = c.in_ok-fourth.end.now in
    let fourth = c.in_ok-fourth.fourth.now ∷ [] in
    let third = c.in_ok-third.third.now ∷ fourth in
    let second = c.in_ok-second.second.now ∷ third in
    before_more _ second _ _ end c.in_ok-first.ensures.some
    (before_more _ third _ _ end c.in_ok-second.ensures.some
    (before_more _ fourth _ _ end c.in_ok-third.ensures.some (before_more _ [] _ _ end c.in_ok-fourth.ensures.some refl)))
