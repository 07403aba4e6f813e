use Rattle.std.proofs.Common.{◌≡◌, inl, inr, Some, refl, sym, subst, ◌∙◌}
use Rattle.std.proofs.lemmas.Bool.{eq-eqb, eqb-true, false≢true, iff_false}
use Rattle.content_rules.specs.Prelude.{IsInCharge, acting, aid_of}
use Rattle.card_types.specs.declared.found.Found.{Found}
use Rattle.content_rules.proofs.DeleteObjectJudging.{entry_outside, strangers_alike}
use Rattle.content_rules.proofs.delete_object.is_out_of_charge.Goals as goal

pub returns-then-not-has_charge : goal.returns-then-not-has_charge
returns-then-not-has_charge c page admitted named acts at related = (
  λ so. (named, inl refl, iff_false (c.has_charge.ensures page admitted named acts at) c.if-not-has_charge.true),
  λ outside. refl,
)

pub returns-in-Entry : goal.returns-in-Entry
returns-in-Entry c page admitted named acts at related =
    let tables = c.args.tables.now in
    let charge = (c.has_charge.ensures page admitted named acts at).0 c.if-not-has_charge.false in
    let there = subst (λ (f : Found). aid_of tables f ≡ Some named) c.in-Entry.is at in (
      λ so. absurd (false≢true so),
      λ (aid, goes, outside). absurd (outside (entry_outside page tables c.args.domain admitted acts _ named there charge aid goes)),
    )

pub returns-then-related : goal.returns-then-related
returns-then-related c page admitted named acts at related =
    let tables = c.args.tables.now in
    let charge = (c.has_charge.ensures page admitted named acts at).0 c.if-not-has_charge.false in
    let there = subst (λ (f : Found). aid_of tables f ≡ Some named) c.in-File.is at in
    let alike = strangers_alike page tables c.args.domain admitted acts c.in-File.slot named there in
    let with_these = eqb-true admitted.command.p2 0x80 (sym related ∙ c.if-related.true) in (
      λ so. (let stranger = alike.0 (c.has_stranger.ensures.0 so) in (stranger.0, inr (with_these, stranger.1), stranger.2)),
      λ (aid, goes, outside). elim goes [
        | inl same ↦ absurd (outside (subst (IsInCharge admitted.at.registry (acting admitted)) (sym same) charge))
        | inr comes ↦ c.has_stranger.ensures.1 (alike.1 (aid, comes.1, outside))
      ],
    )

pub returns-else-related : goal.returns-else-related
returns-else-related c page admitted named acts at related =
    let charge = (c.has_charge.ensures page admitted named acts at).0 c.if-not-has_charge.false in (
      λ so. (let clash = sym so ∙ c.if-related.false in cc),
      λ (aid, goes, outside). elim goes [
        | inl same ↦ absurd (outside (subst (IsInCharge admitted.at.registry (acting admitted)) (sym same) charge))
        | inr comes ↦ related ∙ eq-eqb admitted.command.p2 0x80 comes.0
      ],
    )
