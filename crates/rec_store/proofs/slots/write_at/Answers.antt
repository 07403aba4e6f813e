use Rattle.std.proofs.Common.{◌≡◌, ℕ, ◌+◌, ◌-◌, ◌*◌, ◌/◌, ◌≤◌, length, ap, sym, subst, arith}
use Rattle.std.proofs.lemmas.Grind.{common_steps}
use Rattle.rec_store.specs.Places.{slot_at}
use Rattle.rec_store.proofs.Places.{before, slot_apart, with_part}
use Rattle.rec_store.proofs.slots.write_at.Goals as goal

pub returns-clause-others : goal.returns-clause-others
returns-clause-others g c other within apart =
    let size = g.T.Slot.SIZE in
    let place = c.args.place in
    let page = c.args.bytes.now in
    let part = c.write.new.slot in
    let at : place * c.SIZE.result ≡ place * size = ap (λ n. place * n) c.SIZE.ensures in
    let count : place * c.SIZE.result + c.SIZE-2.result - place * c.SIZE.result ≡ size = omega (arith, c.SIZE-2.ensures) in
    let room : place * size + size ≤ length page = omega (arith, before place (256 / size) size c.requires.place, g.met.T.Slot.sizes.1, c.told-bytes) in
    let same : length part ≡ size = grind (arith, common_steps, c.write.auto.slot) in
    let apart_at : (a n : ℕ) → a ≡ place * size → n ≡ size → slot_at (with_part a n page part) size other ≡ slot_at page size other =
    λ a n is_a is_n. subst (λ (a : ℕ). slot_at (with_part a n page part) size other ≡ slot_at page size other) (sym is_a)
    (subst (λ (n : ℕ). slot_at (with_part (place * size) n page part) size other ≡ slot_at page size other) (sym is_n) (slot_apart page part size place other room same apart)) in
    apart_at _ _ at count
