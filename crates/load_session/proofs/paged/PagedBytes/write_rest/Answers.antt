use Rattle.std.proofs.Common.{◌≡◌, ℕ, List, ap, subst, ◌∙◌, rules}
use Rattle.std.specs.Prelude.{Contains}
use Rattle.load_session.proofs.Loading.{loaded_more, taken_next, written_apart, written_here}
use Rattle.load_session.proofs.PagesKept.{bytes_next, own_next}
use Rattle.load_session.specs.Prelude.{IsWholePage, padded_page, pages_after}
use Rattle.load_session.specs.declared.load_write.LoadWrite.{LoadWrite}
use Rattle.load_session.proofs.paged.PagedBytes.write_rest.Goals as goal

-- what is to be written
abbrev the_write : goal.After-clear → LoadWrite
the_write c = record { number = c.free_page-number.result; page = c.page_of.result }

-- its page was not taken
not_taken : (c : goal.After-clear) → Contains c.args.self.now.pages.items c.free_page-number.result → ⊥
not_taken c = subst (λ (s : List ℕ). Contains s c.free_page-number.result → ⊥) c.deref.ensures.0 c.free_page-number.ensures.apart

pub returns-clause-own : goal.returns-clause-own
returns-clause-own c =
    own_next c.args.tables.now c.args.self.now.pages.items c.push-2.new.self.items c.free_page-number.result c.push-2.ensures.items c.requires.own
    c.free_page-number.ensures.range c.free_page-number.ensures.free (not_taken c)

pub returns-clause-bytes : goal.returns-clause-bytes
returns-clause-bytes c page =
    let write : LoadWrite = the_write c in
    let before = pages_after page c.args.writes.now.items in
    let after = pages_after page c.push.new.self.items in
    let now : after ≡ _ = ap (pages_after page) c.push.ensures.items ∙ loaded_more page c.args.writes.now.items write in
    bytes_next before after c.args.self.now.pages.items c.push-2.new.self.items write.number c.push-2.ensures.items (not_taken c)
    (λ other apart. ap (λ (pages : ℕ → List ℕ). pages other) now ∙ written_apart before write other apart)
    (padded_page c.args.self.now.rest.items)
    (ap (λ (pages : ℕ → List ℕ). pages write.number) now ∙ written_here before write ∙ c.page_of.ensures ∙ ap padded_page c.deref-2.ensures.0)

pub returns-clause-taken : goal.returns-clause-taken
returns-clause-taken c taken =
    let whole : IsWholePage (the_write c) = search rules in
    taken_next c.args.tables.now taken c.args.self.now.pages.items c.push-2.new.self.items c.args.writes.now.items c.push.new.self.items (the_write c) c.push-2.ensures.items c.push.ensures.items
    whole c.free_page-number.ensures.range c.free_page-number.ensures.free (not_taken c)
