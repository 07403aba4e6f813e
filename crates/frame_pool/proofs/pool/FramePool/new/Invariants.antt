use Rattle.std.proofs.Common.{◌≡◌, ◌+◌, ◌<◌, ℕ, true, false, Some, get_or, slice_get}
use Rattle.frame_pool.specs.declared.pool.Frame.{Frame}
use Rattle.frame_pool.proofs.pool.FramePool.new.Given as goal
use Rattle.frame_pool.specs.declared.pool.TheConstants.{FRAMES}

-- the frames so far are there, each linked to the next one
abbrev pub invariant-loop-at : goal.invariant-loop-at
invariant-loop-at l = record {
  count : l.frames.len ≡ FRAMES;
  block : l.frames.ptr ≡ l.lease.ptr;
  filled : (k : ℕ) → k < l.at → get_or l.frames.filled k false ≡ true;
  linked : (i : ℕ) (frame : Frame) → i < l.at → slice_get l.frames.items i ≡ Some frame → frame.next ≡ i + 1;
}
