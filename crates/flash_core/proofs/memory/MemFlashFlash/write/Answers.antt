use Rattle.std.proofs.Common.{◌≡◌, length, refl, ◌∙◌, ap, Some, slice_get, subst, sym, arith}
use Rattle.flash_core.specs.declared.memory.Call.TheVariants.{Write}
use Rattle.flash_core.specs.Device.{SameBut, AnyBytesIn, Elapses}
use Rattle.flash_core.specs.Replay.{Medium, MayLeave}
use Rattle.flash_core.specs.Memory.{MemoryFlash, medium, LeftSince}
use Rattle.flash_core.proofs.PageLists.{get_set_same}
use Rattle.flash_core.proofs.Steps.{medium_with, written_torn, written_loss, either, on_taken, elapses, stands}
use Rattle.flash_core.proofs.memory.MemFlashFlash.write.Goals as goal

pub returns-clause-written : goal.returns-clause-written
returns-clause-written c _ =
    let m = c.args.self.now in
    let p = c.args.page in
    let x = c.args.from.now in
    on_taken c.take.result (Write p x) m c.take.new.self (λ (n : MemoryFlash). slice_get (medium n).seen p ≡ Some x) c.take.ensures.ok
    (ap (λ (n : Medium). slice_get n.seen p) (medium_with m (Write p x)) ∙ get_set_same (medium m).seen p x (omega (arith, c.take.ensures.pages, c.requires)))

pub returns-clause-torn : goal.returns-clause-torn
returns-clause-torn c _ =
    let m = c.args.self.now in
    let p = c.args.page in
    let x = c.args.from.now in
    either c.take.result (Write p x) m c.take.new.self (λ (n : MemoryFlash). SameBut p (medium m).seen (medium n).seen) c.take.ensures.ok c.take.ensures.err
    (subst (λ (n : Medium). SameBut p (medium m).seen n.seen) (sym (medium_with m (Write p x))) (written_torn (medium m) p x)) (record { count = refl; others = λ other ne. refl })

pub returns-clause-loss : goal.returns-clause-loss
returns-clause-loss c _ =
    let m = c.args.self.now in
    let p = c.args.page in
    let x = c.args.from.now in
    either c.take.result (Write p x) m c.take.new.self (λ (n : MemoryFlash). AnyBytesIn p (MayLeave (medium m)) (MayLeave (medium n))) c.take.ensures.ok c.take.ensures.err
    (subst (λ (n : Medium). AnyBytesIn p (MayLeave (medium m)) (MayLeave n)) (sym (medium_with m (Write p x))) (written_loss (medium m) p x (omega (arith, c.take.ensures.pages, c.requires))))
    (λ outcome left. (outcome, left, record { count = refl; others = λ other ne. refl }))

pub returns-clause-time : goal.returns-clause-time
returns-clause-time c _ =
    let m = c.args.self.now in
    either c.take.result (Write c.args.page c.args.from.now) m c.take.new.self (λ (n : MemoryFlash). Elapses (length m.calls) (length n.calls) (LeftSince m) (LeftSince n) (MayLeave (medium n))) c.take.ensures.ok c.take.ensures.err
    (elapses m (Write c.args.page c.args.from.now)) (stands m)
