use Rattle.std.proofs.Common.{◌≡◌, true, false, sym, ◌∙◌}
use Rattle.card_types.specs.Represents.{domain_aid}
use Rattle.card_types.specs.declared.card_life.CardLife.TheVariants.{Terminated}
use Rattle.access_matrix.specs.Deeds.{deed_of}
use Rattle.access_matrix.specs.May.{May}
use Rattle.access_matrix.proofs.BytesUnread.{may_unread}
use Rattle.access_matrix.proofs.permission.may.Goals.{then-not-is_selectable-via-then-not-is_selectable, then-not-is_selectable-via-else-not-is_selectable+then-not-offers_session}
use Rattle.access_matrix.proofs.permission.may.Goals as goal

pub returns-then-not-is_selectable : goal.returns-then-not-is_selectable
returns-then-not-is_selectable c page said says =
    let order = c.requires.in_order in
    let tables = c.args.tables.now in
    let domain = domain_aid tables.entries.items c.args.domain in
    let deed = deed_of tables c.args.act.now in (
      λ so. cc,
      λ may.
          (let here = may_unread tables page order.page said order.said says order.says domain deed may in
          elim c.then-not-is_selectable.branch [
            | then-not-is_selectable-via-then-not-is_selectable w ↦
                (let clash : true ≡ false = sym ((c.is_selectable.ensures order.page order.said order.says).1 here.selectable) ∙ w.if-not-is_selectable.true in cc)
            | then-not-is_selectable-via-else-not-is_selectable+then-not-offers_session w ↦
                (let clash : true ≡ false = sym ((w.offers_session.ensures order.page order.said order.says order.well).1 here.offers) ∙ w.if-not-offers_session.true in cc)
          ]),
    )

pub returns : goal.returns
returns c page said says =
    let order = c.requires.in_order in
    let tables = c.args.tables.now in
    let domain = domain_aid tables.entries.items c.args.domain in
    let deed = deed_of tables c.args.act.now in
    let accepts = c.accepts.ensures order.page order.said order.says order.well in (
      λ so.
          (let accepted = accepts.0 so in
          let here : May order.said domain deed = record {
            living = λ dead.
                (let is : tables.life ≡ Terminated = order.says.life ∙ dead in
                let alive = sym c.eq.ensures ∙ c.if-eq.false in
                let clash = rw is at alive in cc);
            selectable = (c.is_selectable.ensures order.page order.said order.says).0 c.if-not-is_selectable.false;
            offers = (c.offers_session.ensures order.page order.said order.says order.well).0 c.if-not-offers_session.false;
            command = accepted.0;
            is_command = accepted.1;
            accepted = accepted.2;
          } in
          may_unread tables order.page page order.said said order.says says domain deed here),
      λ may.
          (let here = may_unread tables page order.page said order.said says order.says domain deed may in
          accepts.1 (here.command, here.is_command, here.accepted)),
    )
