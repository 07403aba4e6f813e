use Rattle.std.proofs.Common.{ℕ, ◌-◌, ◌≤◌, List, length}
use Rattle.card_core.specs.Prelude.{ActsIn, Admitted, IsFirstShown, IsListOf}
use Rattle.card_core.proofs.StatusShown.{HasShown}
use Rattle.card_core.proofs.get_status.show_part.Given as goal

abbrev pub invariant-loop-next : goal.invariant-loop-next
invariant-loop-next l = record {
  room : length l.reply.items ≤ 239;
  shown : (page : ℕ → List ℕ) (admitted : Admitted) (acts : ActsIn page l.tables l.domain admitted) → IsListOf l.request admitted.command
      → IsFirstShown page l.tables admitted l.request l.fn.first → HasShown page l.tables l.domain admitted acts l.request l.last l.reply.items;
}

abbrev pub decreases-loop-next : goal.decreases-loop-next
decreases-loop-next l = 239 - length l.reply.items
