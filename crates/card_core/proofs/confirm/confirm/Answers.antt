use Rattle.std.proofs.Common.{rules, ◌≡◌, ◌≢◌, ◌+◌, ◌≤◌, List, Option, Some, refl, ap, sym, subst, ◌∙◌, arith}
use Rattle.std.specs.Option.{option_map}
use Rattle.std.proofs.lemmas.Option.{MatchOption-at_some}
use Rattle.card_types.proofs.Domains.{well_entry}
use Rattle.card_types.proofs.LifeChanges.{receipts_keep}
use Rattle.card_core.specs.Prelude.{IsInOrder, IsReceiptIn, MayReceipt, aid_list, domain_aid, thing_in, with_receipts}
use Rattle.card_types.specs.declared.limits.TheConstants.{RECEIPT_LIMIT}
use Rattle.card_types.specs.declared.tables.Entry.{Entry}
use Rattle.card_types.specs.declared.tables.Tables.{Tables}
use Rattle.card_core.proofs.Cards.{in_order}
use Rattle.card_core.proofs.Confirming.{confirmed}
use Rattle.card_core.proofs.EntryCards.{changing_aids, entry_cards}
use Rattle.card_core.proofs.confirm.confirm.Goals as goal

pub write_receipt-requires-clause-in_order : goal.write_receipt-requires-clause-in_order
write_receipt-requires-clause-in_order g c = subst IsInOrder (sym c.tables-2.ensures.tables) (in_order c.args.records.now.tables c.requires.cards)

pub returns-clause-answered : goal.returns-clause-answered
returns-clause-answered g c page admitted before domain changed has =
    let tables = c.args.records.now.tables in
    let slot = c.in-Some.slot in
    let entry = c.unwrap.result.now in
    let there : thing_in c.deref.result.now slot ≡ Some entry = search rules in
    let slots : c.deref.result.now ≡ tables.entries.items = c.deref.ensures.value ∙ ap (λ (t : Tables). t.entries.items) c.tables.ensures.tables in
    let at : thing_in tables.entries.items slot ≡ Some entry = ap (λ (s : List (Option Entry)). thing_in s slot) (sym slots) ∙ there in
    let aids = aid_list c.args.about.now in
    let is : IsReceiptIn tables slot (entry.receipts + 1) aids c.write_receipt.new.reply.items =
    subst (λ (t : Tables). IsReceiptIn t slot (entry.receipts + 1) aids c.write_receipt.new.reply.items) c.tables-2.ensures.tables c.write_receipt.ensures.receipt in
    confirmed page before tables domain c.args.receipter admitted changed has slot c.in-Some.is entry at
    c.set_receipts.new.records.tables (c.set_receipts.ensures.said page changed has.says) aids c.write_receipt.new.reply.items is

pub returns-clause-aids : goal.returns-clause-aids
returns-clause-aids g c =
    let number = c.unwrap.result.now.receipts + 1 in
    changing_aids c.args.records.now.tables c.set_receipts.new.records.tables c.in-Some.slot (λ entry. record entry { receipts = number }) c.set_receipts.ensures.slots (λ e. refl)

pub returns-clause-cards : goal.returns-clause-cards
returns-clause-cards g c =
    let tables = c.args.records.now.tables in
    let after = c.set_receipts.new.records.tables in
    let slot = c.in-Some.slot in
    let entry = c.unwrap.result.now in
    let number = entry.receipts + 1 in
    let there : thing_in c.deref.result.now slot ≡ Some entry = search rules in
    let slots : c.deref.result.now ≡ tables.entries.items = c.deref.ensures.value ∙ ap (λ (t : Tables). t.entries.items) c.tables.ensures.tables in
    let at : thing_in tables.entries.items slot ≡ Some entry = ap (λ (s : List (Option Entry)). thing_in s slot) (sym slots) ∙ there in
    let may : MayReceipt tables slot = rw c.in-Some.is at c.requires.able in
    let below : entry.receipts ≢ RECEIPT_LIMIT = MatchOption-at_some ⊥ (λ (e : Entry). e.receipts ≢ RECEIPT_LIMIT) _ at may.below in
    let aid = domain_aid tables.entries.items slot in
    entry_cards tables after slot (option_map (λ (e : Entry). record e { receipts = number }) (thing_in tables.entries.items slot)) c.set_receipts.ensures.slots
    (changing_aids tables after slot (λ e. record e { receipts = number }) c.set_receipts.ensures.slots (λ e. refl))
    (λ page said says well.
    (let before : entry.receipts ≤ RECEIPT_LIMIT = (well_entry page tables said says well slot entry at).proper.receipts in (
      with_receipts said aid number,
      c.set_receipts.ensures.said page said says,
      (receipts_keep said aid number (record { well = well; ascending = says.ascending }) (omega (arith, before, below))).well,
    )))
    c.requires.cards
