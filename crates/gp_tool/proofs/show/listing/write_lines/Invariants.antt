use Rattle.std.proofs.Common.{◌≡◌, ℕ, List}
use Rattle.std.specs.Prelude.{filter, map, option_copied, option_map}
use Rattle.std.specs.List.Sorted.{IsPermutation, IsStrictlySortedBy}
use Rattle.card_types.specs.Represents.{things_in}
use Rattle.gp_tool.proofs.Written.{IsWritten}
use Rattle.gp_tool.proofs.show.listing.write_lines.Given as goal

abbrev pub invariant-loop : goal.invariant-loop
invariant-loop g l = record {
  written : (xs : List g.L.Listing.Named) (line_of : g.L.Listing.Named → List ℕ)
      → ((thing : _) → g.L.TextListing.text l.listing thing ≡ line_of (g.L.Listing.named l.listing thing))
      → IsPermutation (map (g.L.Listing.named l.listing) (filter (g.L.Listing.listed l.listing) (things_in l.slots))) xs
      → IsStrictlySortedBy g.L.Listing.order xs
      → IsWritten g.L.Listing.order line_of g.K.Sink.tells xs l.counter (option_map (g.L.Listing.named l.listing) (option_copied l.last))
      (g.K.Sink.state l.initial.sink).written (g.K.Sink.state l.sink).written;
  flushes : (g.K.Sink.state l.sink).flushes ≡ (g.K.Sink.state l.initial.sink).flushes;
  faults : (g.K.Sink.state l.sink).faults ≡ (g.K.Sink.state l.initial.sink).faults;
}
