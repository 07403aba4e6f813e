use Rattle.std.proofs.Common.{◌≡◌, ℕ, List, replicate, sym, subst}
use Rattle.std.specs.Prelude.{IfOk}
use Rattle.std.proofs.lemmas.List.{length-replicate}
use Rattle.card_check.specs.IsCard.{HasPages, IsCard}
use Rattle.card_types.specs.Represents.{IsInOrder, Represents}
use Rattle.card_types.specs.Registry.{Registry}
use Rattle.flash_core.specs.declared.page.Page.{Page}
use Rattle.page_journal.specs.Moments.{Always, LeavesOnly}
use Rattle.rec_store.specs.Contents.{CardFails, IsUnwritten, OpenFails}
use Rattle.rec_store.specs.Reopens.{IsInLayout, KeepsRegistry, Reopens, ReopensAsOne, load_page}
use Rattle.rec_store.specs.declared.store_layout.Layout.TheVariants.{Third}
use Rattle.rec_store.proofs.Causes.{each_error, each_ok, opens_later}
use Rattle.rec_store.proofs.Leaving.{joined, unwritten_on, weaker}
use Rattle.rec_store.proofs.Readings.{now_left}
use Rattle.rec_store.proofs.records.Records.mount.Given as given
use Rattle.rec_store.proofs.records.Records.mount.Goals as goal
use Rattle.rec_store.proofs.records.Records.mount.Goals.{In-Ok-mount}

pub returns-in-Ok-mount-clause-in_order : goal.returns-in-Ok-mount-clause-in_order
returns-in-Ok-mount-clause-in_order g c =
    each_ok c.open.result (λ r. (page : ℕ → List ℕ) → HasPages page → IsCard page r.tables) (λ r. IsInOrder r.tables)
    (λ r card.
    let page : ℕ → List ℕ = λ n. replicate 256 0 in
    let is = card page (λ n. length-replicate {A = ℕ} 256 0) in
    record { layout = is.of.layout; page = page; said = is.said; says = is.of.says; well = is.of.well })
    c.open.ensures.card

pub returns-in-Ok-mount-clause-says : goal.returns-in-Ok-mount-clause-says
returns-in-Ok-mount-clause-says g c told =
    let F = g.F.Flash in
    subst (λ (pages : List Page). IfOk c.open.result (λ r. (registry : Registry) × Reopens pages registry × Represents (load_page (F.pages r.flash)) r.tables registry × KeepsRegistry F r.flash registry))
    (c.in-Ok-mount.ensures.pages told) (c.open.ensures.says told)

pub returns-in-Ok-mount-clause-load : goal.returns-in-Ok-mount-clause-load
returns-in-Ok-mount-clause-load g c told =
    let F = g.F.Flash in
    subst (λ (pages : List Page). IfOk c.open.result (λ r. load_page (F.pages r.flash) ≡ load_page pages)) (c.in-Ok-mount.ensures.pages told) (c.open.ensures.load told)

as_one : (g : given.Over) (c : In-Ok-mount g) (told : g.F.Flash.tells) (registries : List Registry) (always : Always (g.F.Flash.may_leave c.args.flash) (ReopensAsOne registries)) (new : g.row.F.Denot)
    → LeavesOnly g.F.Flash c.in-Ok-mount.store.flash new (λ outcome. Reopens outcome (always (g.F.Flash.pages c.args.flash) (g.met.F.Flash.as_read c.args.flash told)).0) → LeavesOnly g.F.Flash c.args.flash new (ReopensAsOne registries)
as_one g c told registries always new second =
    let F = g.F.Flash in
    let flash = c.args.flash in
    let mid = c.in-Ok-mount.store.flash in
    let was = always (F.pages flash) (g.met.F.Flash.as_read flash told) in
    joined F flash mid new (ReopensAsOne registries) (λ outcome. Reopens outcome was.0) (weaker F flash mid (F.may_leave flash) (ReopensAsOne registries) (c.in-Ok-mount.ensures.moments told) always) second (λ outcome reopens. (was.0, was.1, reopens))

unwritten : (g : given.Over) (c : In-Ok-mount g) (told : g.F.Flash.tells) (new : g.row.F.Denot) → IsUnwritten g.F.Flash c.in-Ok-mount.store.flash new → IsUnwritten g.F.Flash c.args.flash new
unwritten g c told new second =
    let F = g.F.Flash in
    let flash = c.args.flash in
    let mid = c.in-Ok-mount.store.flash in
    let e = c.in-Ok-mount.ensures in
    unwritten_on F flash mid new (record { pages = e.pages told; moments = e.moments told }) (now_left F flash mid (F.may_leave flash) (e.moments told) told g.met.F.Flash.counts_now) second

pub returns-in-Ok-mount-clause-moments : goal.returns-in-Ok-mount-clause-moments
returns-in-Ok-mount-clause-moments g c told registries always =
    let F = g.F.Flash in
    let was = always (F.pages c.args.flash) (g.met.F.Flash.as_read c.args.flash told) in
    each_ok c.open.result (λ r. LeavesOnly F c.in-Ok-mount.store.flash r.flash (λ outcome. Reopens outcome was.0)) (λ r. LeavesOnly F c.args.flash r.flash (ReopensAsOne registries))
    (λ r. as_one g (goal.at.returns-in-Ok-mount-clause-moments g c).In-Ok-mount told registries always r.flash) (c.open.ensures.moments told was.0 (subst (λ pages. Reopens pages was.0) (sym (c.in-Ok-mount.ensures.pages told)) was.2))

pub returns-in-Ok-mount-clause-err_moments : goal.returns-in-Ok-mount-clause-err_moments
returns-in-Ok-mount-clause-err_moments g c told registries always =
    let F = g.F.Flash in
    let was = always (F.pages c.args.flash) (g.met.F.Flash.as_read c.args.flash told) in
    each_error c.open.result (λ e. LeavesOnly F c.in-Ok-mount.store.flash e.flash (λ outcome. Reopens outcome was.0)) (λ e. LeavesOnly F c.args.flash e.flash (ReopensAsOne registries))
    (λ e. as_one g (goal.at.returns-in-Ok-mount-clause-err_moments g c).In-Ok-mount told registries always e.flash) (c.open.ensures.err_moments told was.0 (subst (λ pages. Reopens pages was.0) (sym (c.in-Ok-mount.ensures.pages told)) was.2))

pub returns-in-Ok-mount-clause-idle : goal.returns-in-Ok-mount-clause-idle
returns-in-Ok-mount-clause-idle g c told rest =
    let ok = c.in-Ok-mount.ensures in
    each_ok c.open.result (λ r. IsUnwritten g.F.Flash c.in-Ok-mount.store.flash r.flash) (λ r. IsUnwritten g.F.Flash c.args.flash r.flash) (λ r. unwritten g (goal.at.returns-in-Ok-mount-clause-idle g c).In-Ok-mount told r.flash)
    (c.open.ensures.idle told ((ok.settled told).1 rest.closed) (subst (IsInLayout Third) (sym (ok.pages told)) rest.layout))

pub returns-in-Ok-mount-clause-err_idle : goal.returns-in-Ok-mount-clause-err_idle
returns-in-Ok-mount-clause-err_idle g c told rest =
    let ok = c.in-Ok-mount.ensures in
    each_error c.open.result (λ e. IsUnwritten g.F.Flash c.in-Ok-mount.store.flash e.flash) (λ e. IsUnwritten g.F.Flash c.args.flash e.flash) (λ e. unwritten g (goal.at.returns-in-Ok-mount-clause-err_idle g c).In-Ok-mount told e.flash)
    (c.open.ensures.err_idle told ((ok.settled told).1 rest.closed) (subst (IsInLayout Third) (sym (ok.pages told)) rest.layout))

pub returns-in-Ok-mount-clause-err : goal.returns-in-Ok-mount-clause-err
returns-in-Ok-mount-clause-err g c =
    let F = g.F.Flash in
    let flash = c.args.flash in
    let store = c.in-Ok-mount.store in
    let e = c.in-Ok-mount.ensures in
    each_error c.open.result (λ e. CardFails F store.flash e.cause e.flash) (λ e. OpenFails F flash e.cause e.flash)
    (λ refused why. opens_later F flash store.flash refused.flash e.later
    (λ told. (record { pages = e.pages told; moments = e.moments told }, now_left F flash store.flash (F.may_leave flash) (e.moments told) told g.met.F.Flash.counts_now)) refused.cause why)
    c.open.ensures.err
