use Rattle.std.proofs.Common.{◌≡◌, ◌<◌, ℕ, List, Some, length, slice_get, take, refl, ap, ◌∙◌, sym, subst, arith}
use Rattle.std.proofs.lemmas.List.{length-take}
use Rattle.std.proofs.lemmas.Option.{slice_get_read}
use Rattle.flash_core.specs.declared.page.Page.{Page}
use Rattle.frame_pool.specs.Staged.{with_bytes_at, AreDistinct}
use Rattle.frame_pool.specs.Entries.{entries}
use Rattle.frame_pool.proofs.Places.{set_bytes, distinct_with, length_entries, get_take, take_set, entry_of, linked_set}
use Rattle.frame_pool.proofs.pool.FramePool.lend.Goals as goal

pub invariant_of-self-lent : goal.invariant_of-self-lent
invariant_of-self-lent c =
    let slots = c.self.inside.frames in
    let len = c.self.inside.len in
    let at = c.args.at in
    let f = c.get_mut-frame.result.now in
    let i = c.self.invariant in
    let within : at < len = omega (arith, length_entries (take len slots.items), length-take len slots.items, ap length c.self.view_is, c.requires) in
    let here : slice_get slots.items at ≡ Some f = slice_get_read slots.items slots.len at f slots.ok.0 (omega (arith, within, i.0, i.2)) c.get_mut-frame.ensures.value in
    λ w.
    let same = ap entries (take_set len at slots.items (record { number = f.number; next = f.next; page = w }) within) ∙ set_bytes (take len slots.items) at f w (get_take len at slots.items within ∙ here) in
    (i.0, i.1, i.2, linked_set slots.items at f w here i.3, subst AreDistinct (sym same) (distinct_with (entries (take len slots.items)) at w i.4), i.5, i.6, i.7)

pub returns : goal.returns
returns c =
    let slots = c.self.inside.frames in
    let len = c.self.inside.len in
    let at = c.args.at in
    let f = c.get_mut-frame.result.now in
    let i = c.self.invariant in
    let within : at < len = omega (arith, length_entries (take len slots.items), length-take len slots.items, ap length c.self.view_is, c.requires) in
    let here : slice_get slots.items at ≡ Some f = slice_get_read slots.items slots.len at f slots.ok.0 (omega (arith, within, i.0, i.2)) c.get_mut-frame.ensures.value in
    let first = get_take len at slots.items within ∙ here in
    let got = sym (ap (λ (l : List (ℕ × Page)). slice_get l at) c.self.view_is) ∙ entry_of (take len slots.items) at f first in (
      (refl, λ w. ap entries (take_set len at slots.items (record { number = f.number; next = f.next; page = w }) within) ∙ set_bytes (take len slots.items) at f w first ∙ ap (λ (l : List (ℕ × Page)). with_bytes_at l at w) c.self.view_is),
      record { writes_back = tt; value = rw got refl },
    )
