-- How the verb `show` ends after its flush, and what it leaves on the device.
use Rattle.std.proofs.Common.{◌≡◌, ◌≤◌, ◌++◌, ℕ, List, [], ◌∷◌, length, refl, sym, ap, subst, ◌∙◌, inl, inr, arith}
use Rattle.std.proofs.Math.Seq.{take-length}
use Rattle.card_core.specs.Card.{CardOver, CardRepresents}
use Rattle.card_types.proofs.Members.{contains_cases, contains_first}
use Rattle.card_types.specs.Registry.{Registry}
use Rattle.faults.specs.Faults.{Rose}
use Rattle.io_edge.specs.Streams.{SinkState}
use Rattle.flash_core.specs.declared.flash.Flash.{Ghosts as Flash}
use Rattle.flash_core.specs.declared.page.Page.{Page}
use Rattle.page_journal.specs.Moments.{Always, LeavesOnly}
use Rattle.policy_machine.specs.State.{State}
use Rattle.rec_store.specs.Reopens.{Reopens, ReopensAsOne}
use Rattle.rec_store.proofs.Leaving.{joined, weaker}
use Rattle.line_runs.specs.Exit.{exit_status}
use Rattle.gp_tool.specs.Around.{Around}
use Rattle.gp_tool.specs.Ends.{EndCause}
use Rattle.gp_tool.specs.Flush.{AfterFlush}
use Rattle.gp_tool.specs.Shown.{HasShown, IsFront, IsWholeView, ShowEnds, WritesFront, WritesWhole}
use Rattle.line_runs.specs.declared.exit.Ending.{Ending}
use Rattle.line_runs.specs.declared.exit.Ending.TheVariants.{Finished, Failed, WriteFault}
use Rattle.gp_tool.specs.declared.view.View.{View}
use Rattle.gp_tool.specs.declared.view.View.TheVariants as view

-- all that there is to show is a front of it
whole_front : (view : View) (registry : Registry) (text : List ℕ) → IsWholeView view registry text → IsFront view registry text
whole_front view.Registry registry text is = is
whole_front view.Rights registry text (rights, end, next, all, is) = (rights, end, next, is)

module _ (view : View) (told writes : Type 0) (tells : told → writes) (registry : Registry) (old mid new : SinkState) (same : writes → new.written ≡ mid.written) (none : mid.flushes ≡ old.flushes) where
  abbrev Behind : Ending → Ending → Type 0
  Behind ending result = AfterFlush writes ending mid new result

  -- all of the text was written
  pub shown_whole : (result : Ending) → Behind Finished result → WritesWhole view told registry old mid → ShowEnds view told registry result old new
  shown_whole result (inl done) (text, whole, wrote) =
      subst (λ ending. ShowEnds view told registry ending old new) (sym done.0) (text, whole, λ t. same (tells t) ∙ wrote t)
  shown_whole result (inr refused) (text, whole, wrote) =
      subst (λ ending. ShowEnds view told registry ending old new) (sym refused.0) (
        text,
        whole_front view registry text whole,
        (
          λ t. (length text, same (tells t) ∙ wrote t ∙ ap (λ text. old.written ++ text) (sym (take-length text))),
          inr (rw none at refused.1, λ t. same (tells t) ∙ wrote t),
        ),
      )

  -- the device failed in the middle of it, or the sink
  pub shown_failed : (result : Ending) → Behind Failed result → WritesFront view told registry old mid → ShowEnds view told registry result old new
  shown_failed result behind (text, front, part) =
      subst (λ ending. ShowEnds view told registry ending old new) (sym behind.0) (text, front, λ t. let some = part t in (some.0, same (tells t) ∙ some.1))

  pub shown_refused : (result : Ending) → Behind WriteFault result → WritesFront view told registry old mid → ShowEnds view told registry result old new
  shown_refused result behind (text, front, part) =
      subst (λ ending. ShowEnds view told registry ending old new) (sym behind.0) (
        text,
        front,
        (λ t. let some = part t in (some.0, same (tells t) ∙ some.1), inl (behind.1 ∙ none)),
      )

-- one registry is that one
alone : (registry : Registry) (outcome : List Page) → ReopensAsOne (registry ∷ []) outcome → Reopens outcome registry
alone registry outcome (other, there, reopens) = elim (contains_cases registry [] other there) [
  | inl same ↦ subst (Reopens outcome) (sym same) reopens
  | inr none ↦ absurd (let low = none.1 in omega arith)
]

-- what was shown of a card that was powered on is left by the device
pub has_shown : {F : Type 0} (device : Flash F)
    → ((f : F) (t : ℕ) (c : List Page) → device.tells → t ≤ device.moment f → device.may_leave f c → device.left_since f t c)
    → (old new : F) (card : CardOver F) (state : State) → CardRepresents device card state
    → (device.tells → (all : List Registry) → Always (device.may_leave old) (ReopensAsOne all) → LeavesOnly device old card.flash (ReopensAsOne all))
    → (device.tells → LeavesOnly device card.flash new (λ outcome. Reopens outcome state.registry)) → (device.tells → device.pages new ≡ device.pages card.flash)
    → HasShown device old new state.registry
has_shown device counts old new card state stands powered shows same =
    let registry = state.registry in
    record {
      now = λ told. subst (λ p. Reopens p registry) (sym (same told)) (stands.keeps told).now;
      left = λ told c possible. (let leaves = shows told in leaves.each c (counts new (device.moment card.flash) c told leaves.later possible));
      moments = λ told before.
          joined device old card.flash new (λ outcome. Reopens outcome registry) (λ outcome. Reopens outcome registry)
          (weaker device old card.flash (ReopensAsOne (registry ∷ [])) (λ outcome. Reopens outcome registry)
          (powered told (registry ∷ []) (λ c possible. (registry, contains_first registry [], before c possible))) (alone registry))
          (shows told) (λ outcome reopens. reopens);
    }

-- where nothing fails all is shown
pub shows_all : (view : View) (told : Type 0) (registry : Registry) (old new : SinkState) (before after : Around ℕ ℕ ℕ) (ending : Ending) → ShowEnds view told registry ending old new → EndCause ending before after
    → (Rose before.sink after.sink → ⊥) → (Rose before.flash after.flash → ⊥) → exit_status ending ≡ 0
shows_all view told registry old new before after Finished ends cause no_sink no_device = refl
shows_all view told registry old new before after Failed ends cause no_sink no_device = absurd (no_device cause.2)
shows_all view told registry old new before after WriteFault ends cause no_sink no_device = absurd (no_sink cause.1)
shows_all view told registry old new before after _ ends cause no_sink no_device = absurd ends.2
