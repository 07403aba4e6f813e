use Rattle.std.proofs.Common.{◌≡◌, ◌⊎◌, length, refl, ap, sym, subst, arith}
use Rattle.load_session.proofs.PagesKept.{none_own, none_in}
use Rattle.load_session.proofs.session.LoadSession.begin.Goals as goal

pub returns-clause-stands : goal.returns-clause-stands
returns-clause-stands c page tables channel = record {
  of = record { aid = refl; domain = refl; hash = refl; announced = refl; blocks = refl };
  ready = record { own = none_own tables c.new.result c.new.ensures.pages; part = omega (arith, ap length c.new.ensures.rest) };
  bytes = none_in page c.new.result c.new.ensures.pages c.new.ensures.rest;
  fed = c.of_length-hasher.ensures c.args.hash.items (sym c.len.ensures.value) (subst (λ n. (n ≡ 0) ⊎ (n ≡ 20) ⊎ (n ≡ 32)) (sym c.len.ensures.value) c.requires);
}
