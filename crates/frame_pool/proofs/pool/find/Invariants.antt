use Rattle.std.proofs.Common.{◌≡◌, take}
use Rattle.frame_pool.specs.Entries.{entries}
use Rattle.frame_pool.proofs.Places.{NoneBefore}
use Rattle.frame_pool.proofs.pool.find.Given as goal

-- the links lead from place to place, and no frame so far has the number
abbrev pub invariant-loop-place : goal.invariant-loop-place
invariant-loop-place l = record {
  at : l.at ≡ l.place;
  none : NoneBefore (entries (take l.len l.frames.items)) l.place l.page;
}
