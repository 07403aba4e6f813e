use Rattle.std.proofs.Common.{rules, ◌≡◌, ◌≤◌, ℕ, List, [], ◌∷◌, Option, Some, length, sym, ap, subst, ◌∙◌}
use Rattle.card_core.specs.Prelude.{AnswersFor, HasPageNumbers, thing_in}
use Rattle.card_types.proofs.Domains.{domain_aid_is}
use Rattle.card_types.specs.declared.tables.Entry.{Entry}
use Rattle.card_types.specs.declared.tables.Tables.{Tables}
use Rattle.card_core.proofs.Cards.{in_order}
use Rattle.card_core.proofs.EntryCards.{receipts_kept}
use Rattle.card_core.proofs.FileCards.{joined_cards, joining_keeps}
use Rattle.card_core.proofs.loaded_file.add_loaded.Goals as goal

pub confirm-requires-clause-cards : goal.confirm-requires-clause-cards
confirm-requires-clause-cards g c =
    let long : HasPageNumbers c.args.file = search rules in
    let low : 5 ≤ length c.args.file.aid = search rules in
    let high : length c.args.file.aid ≤ 16 = search rules in
    joined_cards c.args.records.now.tables c.place_file.new.records.tables c.place_file.result c.args.file c.place_file.ensures.slots (low, high) long
    c.requires.pages c.requires.some c.requires.few c.requires.fresh c.requires.domain c.requires.cards c.requires.own c.place_file.ensures.said

pub returns-clause-added : goal.returns-clause-added
returns-clause-added g c page admitted domain acts finds =
    let before = c.args.records.now.tables in
    let after = c.place_file.new.records.tables in
    let into = c.unwrap.result.now in
    let there : thing_in c.deref.result.now c.args.file.domain ≡ Some into = search rules in
    let slots : c.deref.result.now ≡ before.entries.items = c.deref.ensures.value ∙ ap (λ (t : Tables). t.entries.items) c.tables.ensures.tables in
    let at : thing_in before.entries.items c.args.file.domain ≡ Some into = ap (λ (s : List (Option Entry)). thing_in s c.args.file.domain) (sym slots) ∙ there in
    let aid = domain_aid_is before.entries.items c.args.file.domain into at in
    let added = c.place_file.ensures.said page admitted.at.registry acts.says acts.well in
    let answers = (rw c.new-about.ensures at c.confirm.ensures.answered) page admitted before domain added.0 (record {
      acts = acts;
      issuer = (in_order before c.requires.cards).layout.issuer;
      finds = finds;
      keeps = receipts_kept before after (joining_keeps before after c.place_file.result c.args.file c.place_file.ensures.slots) c.args.receipter;
      says = added.2;
    }) in
    let Told : List ℕ → Type 0 = (λ (a : List ℕ). AnswersFor page c.confirm.new.records.tables c.args.receipter admitted (c.args.file.aid ∷ a ∷ []) added.0 c.confirm.new.reply.items) in
    (added.0, added.1, subst Told (sym aid) answers)
