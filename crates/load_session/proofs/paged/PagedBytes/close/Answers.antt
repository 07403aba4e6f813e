use Rattle.std.proofs.Common.{length, sym, ◌∙◌}
use Rattle.std.proofs.lemmas.Bool.Decides.{Decides-eqb}
use Rattle.std.proofs.lemmas.List.{nil_from_length}
use Rattle.load_session.proofs.PagesKept.{all_written, none_waits}
use Rattle.load_session.specs.Loaded.{pages_after}
use Rattle.load_session.proofs.paged.PagedBytes.close.Goals as goal

pub returns-then-is_empty-clause-bytes : goal.returns-then-is_empty-clause-bytes
returns-then-is_empty-clause-bytes c page whole =
    let rest = c.args.self.now.rest.items in
    let none = (Decides-eqb (length rest) 0).0 (sym c.is_empty.ensures ∙ c.if-is_empty.true) in
    none_waits (pages_after page c.args.writes.now.items) whole c.args.self.now (nil_from_length rest none)

pub returns-clause-bytes : goal.returns-clause-bytes
returns-clause-bytes c page whole = all_written (pages_after page c.args.writes.now.items) whole c.args.self.now _ (c.write_rest.ensures.bytes page)
