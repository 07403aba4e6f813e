use Rattle.std.proofs.Common.{ℕ, List}
use Rattle.std.specs.Prelude.{option_copied, option_map}
use Rattle.card_types.specs.Registry.{Registry}
use Rattle.card_types.specs.Represents.{Represents}
use Rattle.access_matrix.specs.Rights.{right_key}
use Rattle.access_matrix.proofs.Awaited.{Awaits, Stands}
use Rattle.access_matrix.proofs.Counted.{turns_left}
use Rattle.access_matrix.proofs.next.next_right.Given as goal

abbrev pub invariant-loop-next : goal.invariant-loop-next
invariant-loop-next l = record {
  stands : Stands l.tables (option_map right_key (option_copied l.fn.last)) l.next;
  awaits : (page : ℕ → List ℕ) (said : Registry) → Represents page l.tables said
      → Awaits l.tables (option_map right_key (option_copied l.fn.last)) said l.next;
}

abbrev pub decreases-loop-next : goal.decreases-loop-next
decreases-loop-next l = turns_left l.tables l.next
