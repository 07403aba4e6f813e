use Rattle.std.proofs.Common.{◌≡◌, List, length, ap, ◌∙◌, sym, subst, arith}
use Rattle.std.proofs.lemmas.List.{take_at}
use Rattle.flash_core.specs.declared.page.Page.{Page}
use Rattle.flash_core.specs.Replay.{Medium, MayLeave, settled_medium, after_calls}
use Rattle.flash_core.specs.Memory.{medium, CutBy}
use Rattle.flash_core.proofs.Steps.{cut_outcome}
use Rattle.flash_core.proofs.memory.MemFlash.power_cut.Goals as goal

pub returns-clause-outcome : goal.returns-clause-outcome
returns-clause-outcome c =
    let i = c.self.invariant in
    let m : Medium = record { seen = c.self.inside.seen.items; kept = c.self.inside.kept.items; written = c.self.inside.written.items } in
    let same : m ≡ medium c.args.self.now = sym i.4 ∙ ap medium c.self.view_is in
    let cut : Medium = record { seen = c.deref_mut.result.now; kept = c.deref.result.now; written = c.deref-2.result.now } in
    let parts : cut ≡ m = λ i. record { seen = c.deref_mut.ensures.value i; kept = c.deref.ensures.value i; written = c.deref-2.ensures.value i } in
    let was : MayLeave m c.cut_pages.new.seen =
    cut_outcome c.args.seed m c.cut_pages.new.seen (omega (arith, i.1, i.2)) (omega (arith, i.1, i.3)) (subst (λ (n : Medium). CutBy c.args.seed n c.cut_pages.new.seen) parts c.cut_pages.ensures) in
    let fin = ap (λ calls. (after_calls (settled_medium c.copy_from_slice-2.new.self.items) calls).seen) c.clear.ensures.items ∙ (c.copy_from_slice-2.ensures.items ∙ c.deref-4.ensures.value)
    ∙ take_at c.cut_pages.new.seen _ c.self.inside.seen.len (omega (arith, c.cut_pages.ensures.count, ap length c.deref_mut.ensures.value, c.self.inside.seen.ok.0)) in
    subst (λ (pages : List Page). MayLeave (medium c.args.self.now) pages) (sym fin) (subst (λ (n : Medium). MayLeave n c.cut_pages.new.seen) same was)
