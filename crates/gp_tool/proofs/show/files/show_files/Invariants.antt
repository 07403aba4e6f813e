use Rattle.std.proofs.Common.{◌≡◌, ◌≤◌, true}
use Rattle.std.specs.Option.{option_map}
use Rattle.card_core.specs.Card.{CardRepresents}
use Rattle.card_types.specs.Represents.{file_of}
use Rattle.page_journal.specs.Moments.{LeavesOnly}
use Rattle.policy_machine.specs.State.{State}
use Rattle.rec_store.specs.Reopens.{Reopens, load_page}
use Rattle.gp_tool.proofs.FilesInOrder.{file_order}
use Rattle.gp_tool.proofs.Written.{IsWritten}
use Rattle.gp_tool.specs.Show.{file_line}
use Rattle.gp_tool.proofs.show.files.show_files.Given as goal

abbrev pub invariant-loop : goal.invariant-loop
invariant-loop g l =
    let F = g.F.Flash in
    let first = l.initial.card in record {
      live : l.card.live ≡ true;
      tables : l.card.tables ≡ first.tables;
      stands : (state : State) → CardRepresents F first state → CardRepresents F l.card state;
      moments : F.tells → (state : State) → CardRepresents F first state
          → LeavesOnly F first.flash l.card.flash (λ outcome. Reopens outcome state.registry);
      pages : F.tells → F.pages l.card.flash ≡ F.pages first.flash;
      written : F.tells → (state : State) → CardRepresents F first state
          → IsWritten file_order file_line g.K.Sink.tells state.registry.files l.counter (option_map (file_of (load_page (F.pages first.flash)) first.tables.entries.items) l.last)
          (g.K.Sink.state l.initial.sink).written (g.K.Sink.state l.sink).written;
      flushes : (g.K.Sink.state l.sink).flushes ≡ (g.K.Sink.state l.initial.sink).flushes;
      later : F.faults first.flash ≤ F.faults l.card.flash;
      faults : (g.K.Sink.state l.sink).faults ≡ (g.K.Sink.state l.initial.sink).faults;
    }
