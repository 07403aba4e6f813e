-- For the code inside. A device in memory meets the laws of a device.
use Rattle.std.specs.Prelude.{◌≡◌, ℕ, ◌≤◌, List, length, refl}
use Rattle.std.proofs.Common.{sym, ap, subst, arith}
use Rattle.std.proofs.lemmas.List.{take_all}
use Rattle.flash_core.specs.declared.page.Page.{Page}
use Rattle.flash_core.specs.Replay.{Medium, settled_medium, after_calls, MayLeave}
use Rattle.flash_core.specs.Memory.{MemoryFlash, medium, medium_at, LeftSince}

-- after all the calls it is as it is now
pub at_the_end : (m : MemoryFlash) (moment : ℕ) → length m.calls ≤ moment → medium_at m moment ≡ medium m
at_the_end m moment all = ap (after_calls (settled_medium m.first)) (take_all moment m.calls all)

pub left_as_read : (m : MemoryFlash) → MayLeave (medium m) (medium m).seen
left_as_read m = record { count = refl; others = λ page written. refl }

pub left_now : (m : MemoryFlash) (t : ℕ) (outcome : List Page) → t ≤ length m.calls → MayLeave (medium m) outcome → LeftSince m t outcome
left_now m t outcome le now = record {
  moment = length m.calls;
  later = le;
  past = omega arith;
  left = subst (λ (n : Medium). MayLeave n outcome) (sym (at_the_end m (length m.calls) (omega arith))) now;
}

pub left_only_now : (m : MemoryFlash) (outcome : List Page) → LeftSince m (length m.calls) outcome → MayLeave (medium m) outcome
left_only_now m outcome since = subst (λ (n : Medium). MayLeave n outcome) (at_the_end m since.moment since.later) since.left
