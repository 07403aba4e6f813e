use Rattle.std.proofs.Common.{◌≡◌, ℕ, List, Some, slice_get, take, ap, ◌∙◌, sym, subst, arith}
use Rattle.std.proofs.lemmas.List.{length-take}
use Rattle.std.proofs.lemmas.Option.{slice_get_read, slice_get_within}
use Rattle.flash_core.specs.declared.page.Page.{Page}
use Rattle.frame_pool.specs.Staged.{staged_at}
use Rattle.frame_pool.specs.Entries.{entries}
use Rattle.frame_pool.proofs.Places.{NoneHas, found_staged, none_staged, length_entries, get_take, entry_of}
use Rattle.frame_pool.proofs.pool.FramePool.get.Goals as goal

pub returns-in-None : goal.returns-in-None
returns-in-None c = sym (none_staged c.args.self.now c.args.page (subst (λ l. NoneHas l c.args.page) c.self.view_is c.in-None.ensures.none))

pub returns-in-Some : goal.returns-in-Some
returns-in-Some c =
    let at = c.in-Some.at in
    let slots = c.self.inside.frames in
    let len = c.self.inside.len in
    let f = c.get.result.now in
    let x = c.in-Some.ensures.some.0 in
    let is = c.in-Some.ensures.some.1 in
    let within = slice_get_within (entries (take len slots.items)) at (c.args.page, x) is in
    let here : slice_get slots.items at ≡ Some f = slice_get_read slots.items slots.len at f slots.ok.0 (omega (arith, within, length_entries (take len slots.items), length-take len slots.items, slots.ok.0)) c.get.ensures in
    let got : Some (f.number, f.page) ≡ Some (c.args.page, x) = sym (entry_of (take len slots.items) at f (get_take len at slots.items (omega (arith, within, length_entries (take len slots.items), length-take len slots.items)) ∙ here)) ∙ is in
    let pair : (f.number, f.page) ≡ (c.args.page, x) = cc got in
    ap (λ (o : ℕ × Page). Some o.1) pair ∙ sym (found_staged (entries (take len slots.items)) at c.args.page x is c.in-Some.ensures.first) ∙ ap (λ (l : List (ℕ × Page)). staged_at l c.args.page) c.self.view_is
