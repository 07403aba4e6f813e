use Rattle.std.proofs.Common.{◌++◌, take, refl, ap, ◌∙◌, arith}
use Rattle.std.proofs.lemmas.Result.{MatchResult-from_err}
use Rattle.gp_tool.proofs.ListedSlots.{listed_few, next_listed, none_listed}
use Rattle.gp_tool.proofs.Written.{all_written, enough_written, next_written, none_written, part_of_lines}
use Rattle.gp_tool.proofs.show.listing.write_lines.Goals as goal

pub loop-init : goal.loop-init
loop-init g c = record { written = λ xs line_of spelled same sorted. none_written sorted; flushes = refl; faults = refl }

pub loop-preserved : goal.loop-preserved
loop-preserved g c =
    let L = g.L.Listing in
    let named = L.named c.args.listing.now in
    let total = g.met.L.Listing.total in
    let thing = c.in-Some.found.thing.now in record {
      written = λ xs line_of spelled same sorted.
          (let found = next_listed named (L.listed c.args.listing.now) c.args.slots.now xs same L.order total sorted _ c.in-Some.found.slot thing c.in-Some.ensures.some in
          next_written total (c.loop.invariant.written xs line_of spelled same sorted) (named thing) found (λ told.
          c.in_ok-write_all-in-Some.ensures.ok told ∙ ap (λ text. (g.K.Sink.state c.loop.sink).written ++ text) (c.deref.ensures.0 ∙ c.spell.ensures ∙ spelled thing)));
      flushes = c.write_all.ensures.flushes ∙ c.loop.invariant.flushes;
      faults = c.in_ok-write_all-in-Some.ensures.cause.ok ∙ c.loop.invariant.faults;
    }

pub returns-in_err-write_all-in-Some-clause-written : goal.returns-in_err-write_all-in-Some-clause-written
returns-in_err-write_all-in-Some-clause-written g c xs line_of spelled same sorted =
    let L = g.L.Listing in
    let named = L.named c.args.listing.now in
    let total = g.met.L.Listing.total in
    let thing = c.in-Some.found.thing.now in
    let found = next_listed named (L.listed c.args.listing.now) c.args.slots.now xs same L.order total sorted _ c.in-Some.found.slot thing c.in-Some.ensures.some in
    MatchResult-from_err c.from_residual.result _ _ c.from_residual.ensures.0 (λ _ told.
    (let part = c.in_err-write_all-in-Some.ensures.err told in
    let text = c.deref.ensures.0 ∙ c.spell.ensures ∙ spelled thing in
    part_of_lines total (c.loop.invariant.written xs line_of spelled same sorted) (named thing) found told
    (part.0, part.1 ∙ ap (λ t. (g.K.Sink.state c.loop.sink).written ++ take part.0 t) text)))

pub returns-in-None-clause-written : goal.returns-in-None-clause-written
returns-in-None-clause-written g c xs line_of spelled same sorted =
    let L = g.L.Listing in
    all_written (c.loop.invariant.written xs line_of spelled same sorted)
    (none_listed (L.named c.args.listing.now) (L.listed c.args.listing.now) c.args.slots.now xs same L.order _ c.in-None.ensures.none)

pub returns-clause-written : goal.returns-clause-written
returns-clause-written g c xs line_of spelled same sorted =
    let few = listed_few (g.L.Listing.named c.args.listing.now) (g.L.Listing.listed c.args.listing.now) c.args.slots.now xs same in
    let past = c.loop-test.false in
    enough_written (c.loop.invariant.written xs line_of spelled same sorted) (omega arith)
