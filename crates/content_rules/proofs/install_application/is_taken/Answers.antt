use Rattle.std.proofs.Common.{inl, inr, sym, ◌∙◌}
use Rattle.content_rules.proofs.InstallApplicationJudging.{loaded, none_found, not_there, there}
use Rattle.content_rules.proofs.install_application.is_taken.Goals as goal

pub returns-then-is_some-clause-taken : goal.returns-then-is_some-clause-taken
returns-then-is_some-clause-taken c page admitted says load = (
  λ is.
      (elim (there page c.args.tables.now admitted.at.registry says c.args.aid.now c.find.result c.find.ensures.some (sym c.is_some.ensures ∙ c.if-is_some.true)) [
        | inl entry ↦ inl entry
        | inr file ↦ inr (inl file)
      ]),
  λ taken. c.if-is_some.true,
)

pub returns-else-is_some-clause-taken : goal.returns-else-is_some-clause-taken
returns-else-is_some-clause-taken c page admitted says load =
    let none = not_there page c.args.tables.now admitted.at.registry says c.args.aid.now
    (none_found _ _ c.find.result (sym c.is_some.ensures ∙ c.if-is_some.false) c.find.ensures.none) in
    let loading = loaded c.args.tables.now.entries.items c.args.aid.now c.args.live.now.load admitted.at.volatile.load load in (
      λ is. inr (inr (loading.0 (sym c.is_loading.ensures ∙ is))),
      λ taken. elim taken [
        | inl entry ↦ absurd (none (inl entry))
        | inr (inl file) ↦ absurd (none (inr file))
        | inr (inr named) ↦ c.is_loading.ensures ∙ loading.1 named
      ],
    )
