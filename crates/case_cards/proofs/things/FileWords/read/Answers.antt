use Rattle.std.proofs.Common.{◌≡◌, ◌∷◌, ap, refl, subst, sym, ◌∙◌}
use Rattle.std.specs.Prelude.{codes}
use Rattle.case_cards.specs.Things.{SaysFile}
use Rattle.case_cards.specs.declared.things.FileWords.{FileWords}
use Rattle.script_lines.specs.Words.{remaining_words}
use Rattle.case_cards.proofs.things.FileWords.read.Goals as goal

pub returns-clause-said : goal.returns-clause-said
returns-clause-said c =
    let aid = c.in_ok-take.field-0.now in
    let domain = c.in_ok-after.field-0.now in
    let digits = c.in_ok-after-2.field-0.now in
    let rest = remaining_words c.after-2.new.words in
    let file : FileWords = record { aid = c.in_ok-aid.aid; domain = c.in_ok-domain.domain; len = c.in_ok-len.len } in
    let words : remaining_words c.args.words.now ≡ aid ∷ codes "in" ∷ domain ∷ codes "bytes" ∷ digits ∷ rest =
    c.in_ok-take.ensures ∙ ap (λ l. aid ∷ l) (c.in_ok-after.ensures ∙ ap (λ l. codes "in" ∷ domain ∷ l) c.in_ok-after-2.ensures) in
    subst (λ w. SaysFile w file rest) (sym words)
    (refl, refl, rw c.in_ok-len.was at c.short_number.ensures.number, refl, c.in_ok-aid.ensures, c.in_ok-domain.ensures)
