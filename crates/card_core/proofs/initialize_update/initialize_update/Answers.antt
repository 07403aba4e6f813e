use Rattle.std.proofs.Common.{None, Some, refl, sym, subst, ◌∙◌}
use Rattle.card_types.proofs.Domains.{key_owner_is_used}
use Rattle.card_core.specs.Prelude.{ActsIn, HasNextCounter, IsInOrder, IsMade, acting, counter_of, domain_aid, key_of, new_offer}
use Rattle.card_core.proofs.Cards.{in_order}
use Rattle.card_core.proofs.CounterRaised.{raised_are_cards, raised_well, says_raised}
use Rattle.card_core.proofs.OfferMade.{offer_stands, refusal_handed, set_asked}
use Rattle.card_core.specs.declared.channel_session.ChannelSession.TheVariants.{Offered}
use Rattle.policy_machine.proofs.InitializeUpdateLaws.{offer_judged}
use Rattle.card_core.proofs.initialize_update.initialize_update.Goals as goal

pub judge_initialize_update-requires : goal.judge_initialize_update-requires
judge_initialize_update-requires g c = record { in_order = subst IsInOrder (sym c.tables-tables.ensures.tables) (in_order c.args.records.now.tables c.requires.cards) }

pub write_offer-requires-clause-in_order : goal.write_offer-requires-clause-in_order
write_offer-requires-clause-in_order g c = subst IsInOrder (sym c.tables-tables.ensures.tables) (in_order c.args.records.now.tables c.requires.cards)

pub returns-in_err-found-clause-done : goal.returns-in_err-found-clause-done
returns-in_err-found-clause-done g c page admitted acts request =
    let means = request.means in
    let first = c.in_err-found.ensures.refused page admitted (subst (λ t. ActsIn page t c.args.domain admitted) (sym c.tables-tables.ensures.tables) acts) means.0 in
    refusal_handed admitted page c.args.records.now.tables c.args.held.now c.args.reply.now.items c.from_residual.result c.in_err-found.field-0.0
    c.from_residual.ensures.1 (offer_judged admitted (Some c.in_err-found.field-0.0) request.form first) c.requires.empty

pub raise_counter-requires-clause-counts : goal.raise_counter-requires-clause-counts
raise_counter-requires-clause-counts g c = subst (λ t. HasNextCounter t.keys.items c.in_ok-found.found.slot) c.tables-tables.ensures.tables c.in_ok-found.ensures.next

pub returns-clause-cards : goal.returns-clause-cards
returns-clause-cards g c =
    raised_are_cards c.args.records.now c.raise_counter.new.keeper c.raise_counter.ensures.same_else c.tables-tables.result.now c.tables-tables.ensures.tables
    c.in_ok-found.found.slot c.in_ok-found.found.keys.enc.now c.in_ok-found.ensures.at c.in_ok-found.ensures.next c.raise_counter.ensures.raises c.requires.cards

pub returns-clause-done : goal.returns-clause-done
returns-clause-done g c page admitted acts request =
    let means = request.means in
    let tables = c.tables-tables.result.now in
    let same = c.tables-tables.ensures.tables in
    let on = subst (λ t. ActsIn page t c.args.domain admitted) (sym same) acts in
    let says = on.says in
    let well = on.well in
    let found = c.in_ok-found.found in
    let key = found.keys.enc.now in
    let given = c.in_ok-found.ensures in
    let owner = key_owner_is_used page tables admitted.at.registry says well found.slot key given.at in
    let first = given.passed page admitted on means.0 in
    let uses = given.found page admitted.at.registry on.entry says well on.at in
    let keys = given.keys page admitted.at.registry says in
    let stands = offer_stands _ _ _ _ _ found.aid.now (acting admitted) c.copy_from_slice.new.self admitted.command.body c.of_set-offer.ensures.made
    (given.selected ∙ sym on.on) (c.copy_from_slice.ensures.after ∙ means.1) in
    let offer = new_offer key.bytes.items found.keys.mac.now.bytes.items found.keys.dek.now.bytes.items key.counter (acting admitted) admitted.command.body in
    let else_ = c.raise_counter.ensures.same_else in
    let raises = c.raise_counter.ensures.raises in
    let made : IsMade admitted page c.raise_counter.new.keeper.tables (Offered c.of_set-offer.result) c.write_offer.new.reply.items = record {
      owner = domain_aid tables.entries.items key.owner;
      counter = counter_of tables.entries.items key;
      offer = offer;
      asked = set_asked admitted _ c.args.version _ _ on.on means.0 uses;
      is_offer = record {
        enc = key_of tables.entries.items key;
        mac = key_of tables.entries.items found.keys.mac.now;
        dek = key_of tables.entries.items found.keys.dek.now;
        key_enc = keys.enc;
        key_mac = keys.mac;
        key_dek = keys.dek;
        is = refl;
      };
      says = says_raised c.args.records.now c.raise_counter.new.keeper else_ tables same found.slot key given.at given.next raises page admitted.at.registry acts.says;
      well = raised_well c.args.records.now c.raise_counter.new.keeper else_ tables same found.slot key given.at given.next raises page admitted.at.registry acts.says acts.well;
      holds = stands;
      is = c.write_offer.ensures.written page admitted.at.registry owner.0 says well owner.1 offer stands;
    } in
    (offer_judged admitted None request.form first, made, refl)
