use Rattle.std.proofs.Common.{◌≡◌, ◌≢◌, ℕ, Bool, List, [], ◌∷◌, None, true, refl, sym, take, ◌∙◌, inl, inr}
use Rattle.std.proofs.Math.Bool.{or-false, or-true}
use Rattle.std.proofs.lemmas.List.{append-nil}
use Rattle.gp_tool.specs.Effects.{nothing}
use Rattle.gp_tool.specs.Compare.{IsMet}
use Rattle.gp_tool.specs.Replay.{LastReply, Meets, difference}
use Rattle.gp_tool.proofs.Kept.{kept_is, not_true, wrote_line}
use Rattle.gp_tool.proofs.replay.compare_line.Goals as goal

pub returns-in_default-clause-compared : goal.returns-in_default-clause-compared
returns-in_default-clause-compared g c = (λ want got meets. c.in_default.ensures.wanted want meets.0, refl, refl, λ told. refl)

pub returns-then-is_same-clause-compared : goal.returns-then-is_same-clause-compared
returns-then-is_same-clause-compared g c = (
  record {
    want = take c.in-Some.count c.read_wanted.new.bytes;
    got = c.args.space.now.reply.items;
    effect = nothing;
    meets = (c.in-Some.ensures.wanted, kept_is _ c.args.space.now.reply.items c.if-not-space.false);
    compares = inl (c.is_same.ensures.0 c.if-is_same.true ∙ c.deref.ensures.0, refl);
    kept_no_more = refl;
    tells = sym (or-false c.args.differs.now);
  },
  λ told. sym (append-nil _),
)

-- a reply that is not the one wanted
met_otherwise : (number : ℕ) (line : List ℕ) (kept kept' : LastReply) (differs : Bool) (want got : List ℕ) → Meets line kept want got → want ≢ got → kept' ≡ None
    → IsMet number line kept kept' differs true
met_otherwise number line kept kept' differs want got meets other none = record {
  want = want;
  got = got;
  effect = record { outcomes = []; texts = difference number want got ∷ []; differs = true };
  meets = meets;
  compares = inr (other, refl);
  kept_no_more = none;
  tells = sym (or-true differs);
}

pub returns-in-Ok-clause-compared : goal.returns-in-Ok-clause-compared
unfolding met_otherwise
returns-in-Ok-clause-compared g c =
    let want = take c.in-Some.count c.read_wanted.new.bytes in
    let got = c.args.space.now.reply.items in (
      met_otherwise c.args.number c.args.line.now _ _ c.args.differs.now want got (c.in-Some.ensures.wanted, kept_is _ got c.if-not-space.false)
          (λ is. not_true _ c.if-is_same.false (c.is_same.ensures.1 (is ∙ sym c.deref.ensures.0))) refl,
      λ told. wrote_line (g.K.Sink.state c.args.sink.now).written _ (difference c.args.number want got) (rw (← c.deref-2.ensures.0) (c.in-Ok.ensures.ok told)),
    )

pub returns-in-Err-clause-compared : goal.returns-in-Err-clause-compared
unfolding met_otherwise
returns-in-Err-clause-compared g c =
    let want = take c.in-Some.count c.read_wanted.new.bytes in
    let got = c.args.space.now.reply.items in (
      met_otherwise c.args.number c.args.line.now _ _ c.args.differs.now want got (c.in-Some.ensures.wanted, kept_is _ got c.if-not-space.false)
          (λ is. not_true _ c.if-is_same.false (c.is_same.ensures.1 (is ∙ sym c.deref.ensures.0))) refl,
      difference c.args.number want got,
      refl,
      λ told. (let part = c.in-Err.ensures.err told in (part.0, rw (← c.deref-2.ensures.0) part.1)),
    )
