-- A run on a card that was powered on, from the device before.
use Rattle.std.proofs.Common.{◌≡◌, ◌≢◌, ◌≤◌, ℕ, List, [], ◌∷◌, ◌++◌, refl, inl, inr, arith}
use Rattle.card_core.specs.Card.{CardOver, CardRepresents}
use Rattle.card_core.specs.PowerOn.{PowerFails}
use Rattle.card_core.specs.declared.power.PowerCause.{PowerCause}
use Rattle.card_core.specs.declared.power.PowerCause.TheVariants.{Memory, FlashFailed, NotACard}
use Rattle.card_types.proofs.Members.{contains_first}
use Rattle.card_types.specs.Registry.{Registry}
use Rattle.faults.specs.Faults.{Rose}
use Rattle.flash_core.specs.declared.flash.Flash.{Ghosts as Flash}
use Rattle.page_journal.specs.Moments.{Always, LeavesOnly}
use Rattle.policy_machine.specs.State.{State}
use Rattle.policy_machine.specs.Step.{Outcome}
use Rattle.rec_store.specs.Reopens.{Reopens, ReopensAsOne}
use Rattle.rec_store.proofs.Leaving.{joined}
use Rattle.gp_tool.proofs.LinesAreRuns.{lines_keep_trees}
use Rattle.gp_tool.specs.Device.{HasFailed, HasRun, IsNotPowered, refusal_status, registries}
use Rattle.io_edge.specs.declared.sink.Sink.{Ghosts as Sink}
use Rattle.io_edge.specs.declared.source.Source.{Ghosts as Source}
use Rattle.gp_tool.proofs.SaidElse.{said_else}
use Rattle.gp_tool.specs.Around.{Around, around}
use Rattle.gp_tool.specs.Ends.{EndCause}
use Rattle.gp_tool.specs.RunsLines.{start}
use Rattle.gp_tool.specs.Verbs.{ServesCard}
use Rattle.gp_tool.specs.declared.verb.Verb.{Verb}
use Rattle.line_runs.specs.declared.exit.Ending.{Ending}
use Rattle.line_runs.specs.declared.exit.Ending.TheVariants.{Failed}

-- the device's count was no greater before
pub cause_since : (ending : Ending) (source sink before device : ℕ) (new : Around ℕ ℕ ℕ) → before ≤ device
    → EndCause ending (around source sink device) new → EndCause ending (around source sink before) new
cause_since Failed source sink before device new less cause = (cause.0, cause.1, (let rose = cause.2 in omega (arith, rose, less)))
cause_since _ source sink before device new less cause = cause

module _ {F : Type 0} (device : Flash F) (old : F) (card : CardOver F) (first : State) (stands : CardRepresents device card first)
    (powered : device.tells → (all : List Registry) → Always (device.may_leave old) (ReopensAsOne all) → LeavesOnly device old card.flash (ReopensAsOne all)) where
  since : (new : F) (outcomes : List Outcome)
      → (device.tells → Always (device.may_leave card.flash) (λ outcome. Reopens outcome first.registry) → LeavesOnly device card.flash new (ReopensAsOne (registries first outcomes)))
      → device.tells → Always (device.may_leave old) (λ outcome. Reopens outcome first.registry) → LeavesOnly device old new (ReopensAsOne (registries first outcomes))
  since new outcomes moments told before =
      let keeps = stands.keeps told in
      joined device old card.flash new (ReopensAsOne (registries first outcomes)) (ReopensAsOne (registries first outcomes))
      (powered told (registries first outcomes) (λ c left. (first.registry, contains_first first.registry _, before c left)))
      (moments told keeps.reopens) (λ c reopens. reopens)

  pub run_since : (new : F) (count : ℕ) (outcomes : List Outcome) (last : State)
      → HasRun device card.flash new first count outcomes last → HasRun device old new first count outcomes last
  run_since new count outcomes last run = record { done = run.done; keeps = run.keeps; moments = since new outcomes run.moments }

  pub failed_since : (new : F) (count : ℕ) (outcomes : List Outcome) (last : State) (next : Outcome)
      → HasFailed device card.flash new first count outcomes last next → HasFailed device old new first count outcomes last next
  failed_since new count outcomes last next failed = record { done = failed.done; left = failed.left; moments = since new (outcomes ++ next ∷ []) failed.moments }

-- a count that rose has risen since a moment before
pub rose_since : (before old new : ℕ) → before ≤ old → Rose old new → Rose before new
rose_since before old new less rose = omega (arith, less, rose)

module _ {S K F : Type 0} (verb : Verb) (source : Source S) (sink : Sink K) (device : Flash F) (old : F) (card : CardOver F) (first : State) (stands : CardRepresents device card first)
    (powered : device.tells → (all : List Registry) → Always (device.may_leave old) (ReopensAsOne all) → LeavesOnly device old card.flash (ReopensAsOne all))
    (later : device.faults old ≤ device.faults card.flash) where
  pub serves_since : (Stands : State → Type 0) (status count : ℕ) (s s' : S) (k k' : K) (new : F)
      → ServesCard verb source sink device Stands first status count (around s k card.flash) (around s' k' new)
      → ServesCard verb source sink device (λ last. Unit {0}) first status count (around s k old) (around s' k' new)
  serves_since Stands status count s s' k k' new serves =
      let ends = said_else verb source.tells sink.tells
      (λ outcomes last. HasRun device card.flash new first count outcomes last × Stands last)
      (λ outcomes last. HasRun device old new first count outcomes last × Unit {0})
      (HasFailed device card.flash new first count)
      (HasFailed device old new first count)
      (λ outcomes last run. (run_since device old card first stands powered new count outcomes last run.0, tt))
      (failed_since device old card first stands powered new count)
      first _ _ serves.ending serves.ends in
      let course = ends.course in
      record {
        ending = serves.ending;
        ended = (let ended = serves.ended in record { status_is = ended.status_is; cause = cause_since serves.ending _ _ _ _ _ later ended.cause; flushes = ended.flushes });
        ends = ends;
        apart = lines_keep_trees verb 1 course.given (start verb first) course.last course.effect stands.sound course.plays;
      }

-- where the device holds a card and doesn't fail, want of memory alone is left
pub no_other_cause : {F : Type 0} (device : Flash F) (old new : F) (cause : PowerCause) (status : ℕ)
    → PowerFails device old cause new → status ≡ refusal_status cause → device.tells → (registry : Registry) → Reopens (device.pages old) registry
    → (Rose (device.faults old) (device.faults new) → ⊥) → status ≡ 7
no_other_cause device old new (Memory refused) status fails is told registry reopens no_flash = is
no_other_cause device old new FlashFailed status fails is told registry reopens no_flash = absurd (no_flash fails)
no_other_cause device old new NotACard status fails is told registry reopens no_flash = absurd ((fails told).none registry reopens)

-- the card was not powered on, but for want of memory
pub not_powered : {F : Type 0} (device : Flash F) (old new : F) (cause : PowerCause) (status : ℕ) → PowerFails device old cause new
    → (device.tells → (all : List Registry) → Always (device.may_leave old) (ReopensAsOne all) → LeavesOnly device old new (ReopensAsOne all))
    → status ≡ refusal_status cause → status ≢ 7 → IsNotPowered device status 0 old new
not_powered device old new (Memory refused) status fails moments is other = absurd (other is)
not_powered device old new FlashFailed status fails moments is other = record { none = refl; why = inl (is, fails); moments = moments }
not_powered device old new NotACard status fails moments is other = record { none = refl; why = inr (is, fails); moments = moments }
