use Rattle.std.proofs.Common.{◌≡◌, ◌++◌, ◌+◌, ◌-◌, drop, take, true, ℕ, List, Some, refl, ap, sym, subst, ◌∙◌}
use Rattle.std.specs.Prelude.{length, map}
use Rattle.std.specs.List.{concat}
use Rattle.load_session.specs.Prelude.{RepresentsAfter, RepresentsWhole, pages_after, pages_of, size_of, with_block}
use Rattle.load_session.proofs.Judged.{up_to_end}
use Rattle.load_session.proofs.Loading.{pages_stay_whole}
use Rattle.load_session.specs.declared.session.LoadSession.{LoadSession}
use Rattle.load_session.proofs.session.LoadSession.take_block.Goals as goal

pub returns-then-last-clause-stands : goal.returns-then-last-clause-stands
returns-then-last-clause-stands c page load has stands =
    let block = c.args.block.now in
    let start = c.args.taken.start in
    let bytes = take (length block - start) (drop start block) in
    let sent : bytes ≡ drop start block = up_to_end block start in
    let after = pages_after page c.close.new.writes.items in
    let kept : LoadSession = record c.args.self.now { announced = Some c.args.taken.size; paged = c.close.new.self; blocks = c.args.self.now.blocks + 1 } in
    let last : c.args.last ≡ true = cc (c.if-last.true) in
    let size : size_of c.add.new.self ≡ c.args.taken.size = c.add.ensures.size ∙ ap (λ (b : List ℕ). size_of c.args.self.now.paged + length b) sent ∙ c.requires.taken.all last in
    let whole : RepresentsWhole after c.args.tables.now kept (with_block load c.args.taken.size (drop start block)) = record {
      of = record {
        aid = stands.of.aid;
        domain = stands.of.domain;
        hash = stands.of.hash;
        announced = refl;
        blocks = ap (λ n. n + 1) stands.of.blocks;
      };
      whole = record {
        own = c.close.ensures.own;
        pages = c.close.ensures.whole ∙ ap pages_of size;
        limit = c.requires.taken.limit;
      };
      bytes =
          ap (λ n. take n (concat (map after c.close.new.self.pages.items))) (sym size)
          ∙ c.close.ensures.bytes page (pages_stay_whole page c.add.new.writes.items c.add.ensures.taken.new.whole has)
          ∙ c.add.ensures.bytes page
          ∙ ap (λ (front : List ℕ). front ++ bytes) stands.bytes
          ∙ ap (λ (b : List ℕ). load.bytes ++ b) sent;
    } in
    subst (λ end. RepresentsAfter end after c.args.tables.now kept (with_block load c.args.taken.size (drop start block))) (sym last) whole
