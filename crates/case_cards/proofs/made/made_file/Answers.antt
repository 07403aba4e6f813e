use Rattle.std.proofs.Common.{◌≡◌, All, IfSome, Some, subst, arith}
use Rattle.std.proofs.lemmas.List.Elements.{All-take}
use Rattle.card_types.specs.Well.{pages_of}
use Rattle.page_journal.specs.Pages.{IsLoadPage}
use Rattle.case_cards.proofs.made.made_file.Goals as goal

pub returns : goal.returns
returns c =
    let len = c.in_ok-aid.field-0.len in
    let pages = c.in_ok-pages.pages in
    let said : c.load_pages.result ≡ Some pages = c.in_ok-pages.ensures.ok_part in
    record {
      size = omega (arith, c.from.ensures, c.if-from-gt-FILE_LIMIT.false);
      pages = All-take IsLoadPage (pages_of len) pages (subst (λ answer. IfSome answer (All IsLoadPage)) said c.load_pages.ensures);
    }
