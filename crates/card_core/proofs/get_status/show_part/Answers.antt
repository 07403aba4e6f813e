use Rattle.card_core.proofs.StatusShown.{first_shown, full_part, next_shown, whole_part}
use Rattle.card_core.proofs.get_status.show_part.Goals as goal

pub loop-next-init : goal.loop-next-init
loop-next-init c = record {
  room = c.show.ensures.room;
  shown = λ page admitted acts of first.
      (let template = rw c.unwrap-last.ensures at (c.show.ensures.shown page admitted.at.registry first.next.thing acts.says.life first.next.at) in
      let named = rw c.unwrap-last.ensures at c.show.ensures.named in
      first_shown page c.args.tables.now c.args.domain admitted acts c.args.request.now of c.args.first first c.unwrap-last.result c.args.reply.now.items template.0
      c.show.new.reply.items named c.requires.empty template.1 template.2);
}

pub loop-next-preserved : goal.loop-next-preserved
loop-next-preserved c = record {
  room = c.show-in-Some.ensures.room;
  shown = λ page admitted acts of first.
      (let has = c.loop-next.invariant.shown page admitted acts of first in
      let next = c.in-Some.ensures.some page admitted acts in
      let template = c.in-Some-show.ensures.shown page admitted.at.registry next.thing acts.says.life next.at in
      next_shown page c.args.tables.now c.args.domain admitted acts c.args.request.now of c.loop-next.last c.loop-next.reply.items has c.in-Some.next next c.in-Some-show.aid template.0
      c.show-in-Some.new.reply.items c.in-Some-show.ensures.named template.1 template.2);
}

pub returns-in-None-clause-part : goal.returns-in-None-clause-part
returns-in-None-clause-part c page admitted acts of first =
    let has = c.loop-next.invariant.shown page admitted acts of first in
    let next = c.in-Some.ensures.some page admitted acts in
    let template = c.in-None.ensures.full page admitted.at.registry next.thing acts.says.life next.at in
    rw c.in-None.ensures.unchanged
    (full_part page c.args.tables.now c.args.domain admitted acts c.args.request.now of c.loop-next.last c.loop-next.reply.items has c.in-Some.next next template.0 template.1 template.2)

pub returns-clause-part : goal.returns-clause-part
returns-clause-part c page admitted acts of first =
    whole_part page c.args.tables.now c.args.domain admitted acts c.args.request.now of c.loop-next.last c.loop-next.reply.items
    (c.loop-next.invariant.shown page admitted acts of first) (c.in_default.ensures.none page admitted acts)
