use Rattle.std.proofs.Common.{◌≡◌, ◌∙◌, ◌++◌, List, ℕ, ap, sym, refl, length, Ok, arith}
use Rattle.std.proofs.lemmas.Bool.{eqb-false, true≢false}
use Rattle.scp03_card.specs.Protected.{r_mac}
use Rattle.scp03_host.proofs.ReplyLemmas as reply
use Rattle.scp03_host.proofs.host_session.HostSession.unwrap.Goals as goal

pub returns-then-not-has_r_mac-clause-padding : goal.returns-then-not-has_r_mac-clause-padding
returns-then-not-has_r_mac-clause-padding g c = λ session stands.
    let bytes = reply.body_bytes session c.args.reply.now (c.in-Ok.field-0.body.now) (c.in-Ok.field-0.status.0) c.in-Ok.ensures.ok.spelling (record { at = λ j. omega (arith, c.type_inv.reply j) }) in
    let mine = reply.plain_unwraps session c.args.reply.now (c.in-Ok.field-0.body.now) (c.in-Ok.field-0.status.0) c.in-Ok.ensures.ok.spelling (sym (c.has_r_mac.ensures session stands) ∙ c.if-not-has_r_mac.true) bytes (reply.word session c.args.reply.now (c.in-Ok.field-0.body.now) (c.in-Ok.field-0.status.0) c.in-Ok.ensures.ok.spelling (record { at = λ j. omega (arith, c.type_inv.reply j) })) in
    (λ e. cc, λ r. absurd (r.2 _ _ mine))

pub returns-then-not-has_r_mac-clause-back : goal.returns-then-not-has_r_mac-clause-back
returns-then-not-has_r_mac-clause-back g c = λ session body status stands u.
    let both = reply.plain_parts session c.args.reply.now (c.in-Ok.field-0.body.now) (c.in-Ok.field-0.status.0) c.in-Ok.ensures.ok.spelling (sym (c.has_r_mac.ensures session stands) ∙ c.if-not-has_r_mac.true) body status u in
    ((λ i. Ok (record { 0 = both.1 i })), c.append.ensures ∙ ap (λ (x : List ℕ). x ++ c.in-Ok.field-0.body.now) c.clear.ensures ∙ both.0)

pub returns-else-is_empty-clause-padding : goal.returns-else-is_empty-clause-padding
returns-else-is_empty-clause-padding g c = λ session stands.
    let m = (sym (c.has_r_mac.ensures session stands) ∙ c.if-not-has_r_mac.false) in
    let s = (sym c.is_success_or_warning.ensures ∙ c.if-not-is_success_or_warning.true) in (
      λ e. (
        reply.error_long session c.args.reply.now (c.in-Ok.field-0.body.now) (c.in-Ok.field-0.status.0) c.in-Ok.ensures.ok.spelling m s,
        reply.error_right session c.args.reply.now (c.in-Ok.field-0.body.now) (c.in-Ok.field-0.status.0) c.in-Ok.ensures.ok.spelling m s,
        λ other another u. eqb-false (length (c.in-Ok.field-0.body.now)) 0 (sym c.is_empty.ensures ∙ c.if-is_empty.false) (ap length (reply.error_alone session c.args.reply.now (c.in-Ok.field-0.body.now) (c.in-Ok.field-0.status.0) c.in-Ok.ensures.ok.spelling m s other another u).1),
      ),
      λ r. refl,
    )

pub returns-else-is_empty-clause-back : goal.returns-else-is_empty-clause-back
returns-else-is_empty-clause-back g c = λ session body status stands u.
    let alone = reply.error_alone session c.args.reply.now (c.in-Ok.field-0.body.now) (c.in-Ok.field-0.status.0) c.in-Ok.ensures.ok.spelling (sym (c.has_r_mac.ensures session stands) ∙ c.if-not-has_r_mac.false) (sym c.is_success_or_warning.ensures ∙ c.if-not-is_success_or_warning.true) body status u in
    absurd (eqb-false (length (c.in-Ok.field-0.body.now)) 0 (sym c.is_empty.ensures ∙ c.if-is_empty.false) (ap length alone.1))

pub returns-then-body-lt8-clause-padding : goal.returns-then-body-lt8-clause-padding
returns-then-body-lt8-clause-padding g c = λ session stands.
    let short = reply.whole_short session c.args.reply.now (c.in-Ok.field-0.body.now) (c.in-Ok.field-0.status.0) c.in-Ok.ensures.ok.spelling (sym (c.has_r_mac.ensures session stands) ∙ c.if-not-has_r_mac.false) (sym c.is_success_or_warning.ensures ∙ c.if-not-is_success_or_warning.false) c.if-body-lt8.true in
    (λ e. cc, λ r. absurd (r.0 short))

pub returns-then-body-lt8-clause-back : goal.returns-then-body-lt8-clause-back
returns-then-body-lt8-clause-back g c = λ session body status stands u.
    absurd (omega (arith, c.if-body-lt8.true, reply.whole_not_short session c.args.reply.now (c.in-Ok.field-0.body.now) (c.in-Ok.field-0.status.0) c.in-Ok.ensures.ok.spelling (sym (c.has_r_mac.ensures session stands) ∙ c.if-not-has_r_mac.false) (sym c.is_success_or_warning.ensures ∙ c.if-not-is_success_or_warning.false) body status u))

pub returns-then-not-is_right_mac-clause-mac : goal.returns-then-not-is_right_mac-clause-mac
returns-then-not-is_right_mac-clause-mac g c = λ session stands.
    let cut = reply.cut_at session c.args.reply.now (c.in-Ok.field-0.body.now) (c.in-Ok.field-0.status.0) c.split_at.result.0.now c.split_at.result.1.now c.in-Ok.ensures.ok.spelling
    (sym (c.has_r_mac.ensures session stands) ∙ c.if-not-has_r_mac.false) (sym c.is_success_or_warning.ensures ∙ c.if-not-is_success_or_warning.false) (omega (arith, c.if-body-lt8.false)) c.split_at.ensures.front c.split_at.ensures.back in
    let wrong : c.split_at.result.1.now ≡ r_mac session c.split_at.result.0.now (c.in-Ok.field-0.status.0) → ⊥ =
    λ right. true≢false (sym ((c.is_right_mac.ensures session stands).1 right) ∙ c.if-not-is_right_mac.true) in
    (λ e. (reply.cut_long session c.args.reply.now (c.in-Ok.field-0.body.now) (c.in-Ok.field-0.status.0) c.split_at.result.0.now c.split_at.result.1.now cut, reply.cut_wrong session c.args.reply.now (c.in-Ok.field-0.body.now) (c.in-Ok.field-0.status.0) c.split_at.result.0.now c.split_at.result.1.now cut wrong), λ r. refl)

pub returns-then-not-is_right_mac-clause-padding : goal.returns-then-not-is_right_mac-clause-padding
returns-then-not-is_right_mac-clause-padding g c = λ session stands.
    let cut = reply.cut_at session c.args.reply.now (c.in-Ok.field-0.body.now) (c.in-Ok.field-0.status.0) c.split_at.result.0.now c.split_at.result.1.now c.in-Ok.ensures.ok.spelling
    (sym (c.has_r_mac.ensures session stands) ∙ c.if-not-has_r_mac.false) (sym c.is_success_or_warning.ensures ∙ c.if-not-is_success_or_warning.false) (omega (arith, c.if-body-lt8.false)) c.split_at.ensures.front c.split_at.ensures.back in
    let wrong : c.split_at.result.1.now ≡ r_mac session c.split_at.result.0.now (c.in-Ok.field-0.status.0) → ⊥ =
    λ right. true≢false (sym ((c.is_right_mac.ensures session stands).1 right) ∙ c.if-not-is_right_mac.true) in
    (λ e. cc, λ r. absurd (reply.cut_wrong session c.args.reply.now (c.in-Ok.field-0.body.now) (c.in-Ok.field-0.status.0) c.split_at.result.0.now c.split_at.result.1.now cut wrong r.1))

pub returns-then-not-is_right_mac-clause-back : goal.returns-then-not-is_right_mac-clause-back
returns-then-not-is_right_mac-clause-back g c = λ session body status stands u.
    let cut = reply.cut_at session c.args.reply.now (c.in-Ok.field-0.body.now) (c.in-Ok.field-0.status.0) c.split_at.result.0.now c.split_at.result.1.now c.in-Ok.ensures.ok.spelling
    (sym (c.has_r_mac.ensures session stands) ∙ c.if-not-has_r_mac.false) (sym c.is_success_or_warning.ensures ∙ c.if-not-is_success_or_warning.false) (omega (arith, c.if-body-lt8.false)) c.split_at.ensures.front c.split_at.ensures.back in
    let wrong : c.split_at.result.1.now ≡ r_mac session c.split_at.result.0.now (c.in-Ok.field-0.status.0) → ⊥ =
    λ right. true≢false (sym ((c.is_right_mac.ensures session stands).1 right) ∙ c.if-not-is_right_mac.true) in
    absurd (wrong (reply.cut_parts session c.args.reply.now (c.in-Ok.field-0.body.now) (c.in-Ok.field-0.status.0) c.split_at.result.0.now c.split_at.result.1.now cut body status u).1)

pub returns-in_default-plain_field-clause-mac : goal.returns-in_default-plain_field-clause-mac
returns-in_default-plain_field-clause-mac g c = λ session stands.
    let cut = reply.cut_at session c.args.reply.now (c.in-Ok.field-0.body.now) (c.in-Ok.field-0.status.0) c.split_at.result.0.now c.split_at.result.1.now c.in-Ok.ensures.ok.spelling
    (sym (c.has_r_mac.ensures session stands) ∙ c.if-not-has_r_mac.false) (sym c.is_success_or_warning.ensures ∙ c.if-not-is_success_or_warning.false) (omega (arith, c.if-body-lt8.false)) c.split_at.ensures.front c.split_at.ensures.back in
    let right : c.split_at.result.1.now ≡ r_mac session c.split_at.result.0.now (c.in-Ok.field-0.status.0) = (c.is_right_mac.ensures session stands).0 c.if-not-is_right_mac.false in
    (λ e. cc, λ r. absurd (r.1 (reply.cut_right session c.args.reply.now (c.in-Ok.field-0.body.now) (c.in-Ok.field-0.status.0) c.split_at.result.0.now c.split_at.result.1.now cut right)))

pub returns-in_default-plain_field-clause-padding : goal.returns-in_default-plain_field-clause-padding
returns-in_default-plain_field-clause-padding g c = λ session stands.
    let cut = reply.cut_at session c.args.reply.now (c.in-Ok.field-0.body.now) (c.in-Ok.field-0.status.0) c.split_at.result.0.now c.split_at.result.1.now c.in-Ok.ensures.ok.spelling
    (sym (c.has_r_mac.ensures session stands) ∙ c.if-not-has_r_mac.false) (sym c.is_success_or_warning.ensures ∙ c.if-not-is_success_or_warning.false) (omega (arith, c.if-body-lt8.false)) c.split_at.ensures.front c.split_at.ensures.back in
    let right : c.split_at.result.1.now ≡ r_mac session c.split_at.result.0.now (c.in-Ok.field-0.status.0) = (c.is_right_mac.ensures session stands).0 c.if-not-is_right_mac.false in
    let none = c.in_default-plain_field.ensures.none session stands in (
      λ e. (
        reply.cut_long session c.args.reply.now (c.in-Ok.field-0.body.now) (c.in-Ok.field-0.status.0) c.split_at.result.0.now c.split_at.result.1.now cut,
        reply.cut_right session c.args.reply.now (c.in-Ok.field-0.body.now) (c.in-Ok.field-0.status.0) c.split_at.result.0.now c.split_at.result.1.now cut right,
        λ other another u. none other u.bytes ((reply.cut_parts session c.args.reply.now (c.in-Ok.field-0.body.now) (c.in-Ok.field-0.status.0) c.split_at.result.0.now c.split_at.result.1.now cut other another u).0),
      ),
      λ r. refl,
    )

pub returns-in_default-plain_field-clause-back : goal.returns-in_default-plain_field-clause-back
returns-in_default-plain_field-clause-back g c = λ session body status stands u.
    let cut = reply.cut_at session c.args.reply.now (c.in-Ok.field-0.body.now) (c.in-Ok.field-0.status.0) c.split_at.result.0.now c.split_at.result.1.now c.in-Ok.ensures.ok.spelling
    (sym (c.has_r_mac.ensures session stands) ∙ c.if-not-has_r_mac.false) (sym c.is_success_or_warning.ensures ∙ c.if-not-is_success_or_warning.false) (omega (arith, c.if-body-lt8.false)) c.split_at.ensures.front c.split_at.ensures.back in
    let none = c.in_default-plain_field.ensures.none session stands in
    absurd (none body u.bytes ((reply.cut_parts session c.args.reply.now (c.in-Ok.field-0.body.now) (c.in-Ok.field-0.status.0) c.split_at.result.0.now c.split_at.result.1.now cut body status u).0))

pub returns-clause-mac : goal.returns-clause-mac
returns-clause-mac g c = λ session stands.
    let cut = reply.cut_at session c.args.reply.now (c.in-Ok.field-0.body.now) (c.in-Ok.field-0.status.0) c.split_at.result.0.now c.split_at.result.1.now c.in-Ok.ensures.ok.spelling
    (sym (c.has_r_mac.ensures session stands) ∙ c.if-not-has_r_mac.false) (sym c.is_success_or_warning.ensures ∙ c.if-not-is_success_or_warning.false) (omega (arith, c.if-body-lt8.false)) c.split_at.ensures.front c.split_at.ensures.back in
    let right : c.split_at.result.1.now ≡ r_mac session c.split_at.result.0.now (c.in-Ok.field-0.status.0) = (c.is_right_mac.ensures session stands).0 c.if-not-is_right_mac.false in
    (λ e. cc, λ r. absurd (r.1 (reply.cut_right session c.args.reply.now (c.in-Ok.field-0.body.now) (c.in-Ok.field-0.status.0) c.split_at.result.0.now c.split_at.result.1.now cut right)))

pub returns-clause-padding : goal.returns-clause-padding
returns-clause-padding g c = λ session stands.
    let cut = reply.cut_at session c.args.reply.now (c.in-Ok.field-0.body.now) (c.in-Ok.field-0.status.0) c.split_at.result.0.now c.split_at.result.1.now c.in-Ok.ensures.ok.spelling
    (sym (c.has_r_mac.ensures session stands) ∙ c.if-not-has_r_mac.false) (sym c.is_success_or_warning.ensures ∙ c.if-not-is_success_or_warning.false) (omega (arith, c.if-body-lt8.false)) c.split_at.ensures.front c.split_at.ensures.back in
    let right : c.split_at.result.1.now ≡ r_mac session c.split_at.result.0.now (c.in-Ok.field-0.status.0) = (c.is_right_mac.ensures session stands).0 c.if-not-is_right_mac.false in
    let some = c.in-Some.ensures.some session stands in
    (λ e. cc, λ r. absurd (r.2 _ _ (reply.cut_unwraps session c.args.reply.now (c.in-Ok.field-0.body.now) (c.in-Ok.field-0.status.0) c.split_at.result.0.now c.split_at.result.1.now cut right _ some.1 some.0 (record { at = λ j. omega (arith, c.type_inv.reply j) }))))

pub returns-clause-back : goal.returns-clause-back
returns-clause-back g c = λ session body status stands u.
    let cut = reply.cut_at session c.args.reply.now (c.in-Ok.field-0.body.now) (c.in-Ok.field-0.status.0) c.split_at.result.0.now c.split_at.result.1.now c.in-Ok.ensures.ok.spelling
    (sym (c.has_r_mac.ensures session stands) ∙ c.if-not-has_r_mac.false) (sym c.is_success_or_warning.ensures ∙ c.if-not-is_success_or_warning.false) (omega (arith, c.if-body-lt8.false)) c.split_at.ensures.front c.split_at.ensures.back in
    let some = c.in-Some.ensures.some session stands in
    let theirs = reply.cut_parts session c.args.reply.now (c.in-Ok.field-0.body.now) (c.in-Ok.field-0.status.0) c.split_at.result.0.now c.split_at.result.1.now cut body status u in (
      (λ i. Ok (record { 0 = sym theirs.2 i })),
      reply.one_reply_field session c.plain_field.new.out.items body some.1 u.bytes (some.0 ∙ sym theirs.0),
    )
