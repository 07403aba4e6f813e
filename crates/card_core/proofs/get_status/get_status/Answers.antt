use Rattle.std.proofs.Common.{◌≡◌, ℕ, List, ◌++◌, refl, ap, ◌∙◌}
use Rattle.card_core.proofs.StatusDone.{listing_refused, placed_done, whole_done}
use Rattle.card_core.proofs.get_status.get_status.Goals as goal

pub returns-in-Err-clause-done : goal.returns-in-Err-clause-done
returns-in-Err-clause-done c page admitted acts says asked = (
  listing_refused admitted c.args.request.now asked.asks c.in-Err.rule (c.in-Err.ensures.refused page admitted acts (asked.goes_on refl) asked.asks.means),
  refl,
  c.requires.empty,
)

pub returns-in_default-clause-done : goal.returns-in_default-clause-done
returns-in_default-clause-done c page admitted acts says asked =
    let of = asked.asks in
    let placed = asked.goes_on refl in
    let first = c.in-Ok.ensures.found page admitted acts placed of.means in
    whole_done admitted c.args.request.now of (c.in-Ok.ensures.passed page admitted acts placed of.means) page c.args.tables.now c.show_part.new.reply.items c.show_part.ensures.room
    (record { 0 = 0x9000 }) c.args.live.now says (c.in_default.ensures.part page admitted acts of.means first) refl

pub returns-clause-done : goal.returns-clause-done
returns-clause-done c page admitted acts says asked =
    let of = asked.asks in
    let placed = asked.goes_on refl in
    let first = c.in-Ok.ensures.found page admitted acts placed of.means in
    let body : c.try_extend_from_slice.new.self.items ≡ c.args.request.now.body.now
    = rw c.unwrap.ensures at c.try_extend_from_slice.ensures.ok ∙ ap (λ (front : List ℕ). front ++ c.args.request.now.body.now) c.new-body.ensures in
    placed_done admitted c.args.request.now of (c.in-Ok.ensures.passed page admitted acts placed of.means) page c.args.tables.now c.show_part.new.reply.items c.show_part.ensures.room
    (record { 0 = 0x6310 }) c.args.domain acts c.args.live.now c.set_place.new.self c.args.channel
    (record { kind = c.args.request.now.kind; body = c.try_extend_from_slice.new.self; last = c.in-Some.last }) c.in-Some.last says c.requires.channel c.set_place.ensures.four asked.on c.set_place.ensures.set refl
    body refl (c.in-Some.ensures.part page admitted acts of.means first) refl
