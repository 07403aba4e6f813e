use Rattle.std.proofs.Common.{◌≡◌, Some, take, slice_get, ap, ◌∙◌, sym, arith}
use Rattle.std.proofs.lemmas.List.{length-take}
use Rattle.std.proofs.lemmas.Option.{slice_get_read, slice_get_within}
use Rattle.frame_pool.specs.Entries.{entries}
use Rattle.frame_pool.proofs.Places.{get_take, entry_of, more_of, length_entries}
use Rattle.frame_pool.proofs.pool.find.Goals as goal

pub returns-then-frame-page-clause-some : goal.returns-then-frame-page-clause-some
returns-then-frame-page-clause-some c =
    let items = c.args.frames.now.items in
    let f = c.get-frame.result.now in
    let here : slice_get items c.loop-place.at ≡ Some f = slice_get_read items c.args.frames.now.len c.loop-place.at f c.args.frames.now.ok.0 (omega (arith, c.loop-place.invariant.at, c.loop-place-test.true, c.requires.full.1, c.requires.full.2)) c.get-frame.ensures in
    (f.page, entry_of (take c.args.len items) c.loop-place.at f (get_take c.args.len c.loop-place.at items (omega (arith, c.loop-place.invariant.at, c.loop-place-test.true)) ∙ here) ∙ ap (λ n. Some (n, f.page)) c.if-frame-page.true)

pub loop-place-preserved : goal.loop-place-preserved
loop-place-preserved c =
    let items = c.args.frames.now.items in
    let f = c.get-frame.result.now in
    let at = c.loop-place.invariant.at in
    let here : slice_get items c.loop-place.at ≡ Some f = slice_get_read items c.args.frames.now.len c.loop-place.at f c.args.frames.now.ok.0 (omega (arith, at, c.loop-place-test.true, c.requires.full.1, c.requires.full.2)) c.get-frame.ensures in
    let there : slice_get items c.loop-place.place ≡ Some f = ap (slice_get items) (sym at) ∙ here in
    record {
      at = c.requires.linked c.loop-place.place f there;
      none = more_of (entries (take c.args.len items)) c.loop-place.place c.args.page (f.number, f.page) (entry_of (take c.args.len items) c.loop-place.place f (get_take c.args.len c.loop-place.place items c.loop-place-test.true ∙ there)) c.loop-place.invariant.none c.if-frame-page.false;
    }

pub returns-clause-none : goal.returns-clause-none
returns-clause-none c =
    let items = c.args.frames.now.items in
    λ k s is. c.loop-place.invariant.none k s (omega (arith, slice_get_within (entries (take c.args.len items)) k s is, length_entries (take c.args.len items), length-take c.args.len items, c.loop-place-test.false)) is
