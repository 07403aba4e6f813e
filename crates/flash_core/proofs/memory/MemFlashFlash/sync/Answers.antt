use Rattle.std.proofs.Common.{◌≡◌, length, refl, ap, subst, sym}
use Rattle.flash_core.specs.declared.memory.Call.TheVariants.{Sync}
use Rattle.flash_core.specs.Device.{NoneNew, Only, Elapses}
use Rattle.flash_core.specs.Replay.{Medium, MayLeave}
use Rattle.flash_core.specs.Memory.{MemoryFlash, medium, LeftSince}
use Rattle.flash_core.proofs.Steps.{medium_with, synced_only, synced_loss, either, on_taken, elapses, stands}
use Rattle.flash_core.proofs.memory.MemFlashFlash.sync.Goals as goal

pub returns-clause-written : goal.returns-clause-written
returns-clause-written c _ =
    let m = c.args.self.now in
    on_taken c.take.result Sync m c.take.new.self (λ (n : MemoryFlash). Only (medium m).seen (MayLeave (medium n))) c.take.ensures.ok
    (subst (λ (n : Medium). Only (medium m).seen (MayLeave n)) (sym (medium_with m Sync)) (synced_only (medium m)))

pub returns-clause-torn : goal.returns-clause-torn
returns-clause-torn c _ =
    let m = c.args.self.now in
    either c.take.result Sync m c.take.new.self (λ (n : MemoryFlash). (medium n).seen ≡ (medium m).seen) c.take.ensures.ok c.take.ensures.err
    (ap (λ (n : Medium). n.seen) (medium_with m Sync)) refl

pub returns-clause-loss : goal.returns-clause-loss
returns-clause-loss c _ =
    let m = c.args.self.now in
    either c.take.result Sync m c.take.new.self (λ (n : MemoryFlash). NoneNew (MayLeave (medium m)) (MayLeave (medium n))) c.take.ensures.ok c.take.ensures.err
    (subst (λ (n : Medium). NoneNew (MayLeave (medium m)) (MayLeave n)) (sym (medium_with m Sync)) (synced_loss (medium m))) (λ outcome left. left)

pub returns-clause-time : goal.returns-clause-time
returns-clause-time c _ =
    let m = c.args.self.now in
    either c.take.result Sync m c.take.new.self (λ (n : MemoryFlash). Elapses (length m.calls) (length n.calls) (LeftSince m) (LeftSince n) (MayLeave (medium n))) c.take.ensures.ok c.take.ensures.err
    (elapses m Sync) (stands m)
