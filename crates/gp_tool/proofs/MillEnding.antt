-- How the verb `mill` ends.
use Rattle.std.proofs.Common.{◌≡◌, ◌≢◌, ◌≤◌, ◌++◌, ℕ, List, [], ◌∷◌, length, take, refl, sym, ap, subst, ◌∙◌, ◌⊎◌, inl, inr, arith}
use Rattle.std.proofs.Math.Seq.{take-length}
use Rattle.card_core.specs.Card.{CardOver, CardRepresents}
use Rattle.card_core.specs.PowerOn.{PowerFails}
use Rattle.card_core.specs.declared.power.PowerCause.{PowerCause}
use Rattle.card_core.specs.declared.power.PowerCause.TheVariants.{Memory, FlashFailed, NotACard}
use Rattle.card_types.proofs.Members.{contains_first}
use Rattle.card_types.specs.Factory.{factory_registry}
use Rattle.card_types.specs.Registry.{Registry}
use Rattle.faults.specs.Faults.{Rose}
use Rattle.flash_core.specs.declared.flash.Flash.{Ghosts as Flash}
use Rattle.io_edge.specs.Streams.{SinkState}
use Rattle.io_edge.specs.declared.sink.Sink.{Ghosts as Sink}
use Rattle.page_journal.specs.Moments.{Always, LeavesOnly}
use Rattle.policy_machine.specs.State.{State}
use Rattle.rec_store.proofs.OneRegistry.{one_registry}
use Rattle.rec_store.specs.Reopens.{Reopens, ReopensAsOne, load_page, store_page}
use Rattle.line_runs.specs.Exit.{exit_status}
use Rattle.gp_tool.proofs.Powered.{cause_since, failed_since, run_since}
use Rattle.gp_tool.specs.Around.{Around, around}
use Rattle.gp_tool.specs.Device.{LeavesOneOf, LeftOneOf, refusal_status}
use Rattle.gp_tool.specs.Ends.{EndCause}
use Rattle.gp_tool.specs.Flush.{AfterFlush}
use Rattle.gp_tool.specs.Formatted.{IsFactoryCard}
use Rattle.gp_tool.specs.Mill.{IsCounterText, IsNotMilled, MillEnds, PlaysAll, PlaysSome, summary}
use Rattle.gp_tool.specs.Milling.{Milled}
use Rattle.gp_tool.specs.Verbs.{EndsMill, MillsCard}
use Rattle.gp_tool.specs.declared.card_end.CardEnd as the_end
use Rattle.line_runs.specs.declared.exit.Ending.{Ending}
use Rattle.line_runs.specs.declared.exit.Ending.TheVariants.{Finished, Failed, WriteFault}
use Rattle.gp_tool.specs.declared.tally.Tally.{Tally}
use Rattle.gp_tool.specs.declared.workload.Workload.{Workload}

module _ {F : Type 0} (device : Flash F) (work : Workload) (made : F) (first : State) where
  -- what was played, and its summary
  pub plays_all : (end : the_end.CardEnd F) (tally : Tally) (counter : List ℕ)
      → (milled : Milled device work first made end tally) → (CardRepresents device end.card milled.last.state → IsCounterText milled.last.state.registry counter)
      → PlaysAll device work made first end.card.flash end.done (summary work tally counter)
  plays_all end tally counter milled counted = record {
    effect = milled.effect;
    last = milled.last;
    plays = milled.plays;
    run = milled.run;
    counter = counter;
    counted = counted milled.stands;
    text_is = ap (λ t. summary work t counter) milled.tally_is;
  }

  module _ (writes : Type 0) (new : F) (count : ℕ) (old mid last : SinkState) (same : writes → last.written ≡ mid.written) (none : mid.flushes ≡ old.flushes) where
    abbrev Ended : Ending → Type 0
    Ended ending = MillEnds device writes work made first ending new count old last

    -- the summary was written
    pub mill_whole : (text : List ℕ) → PlaysAll device work made first new count text → (writes → mid.written ≡ old.written ++ text) → (result : Ending) → AfterFlush writes Finished mid last result → Ended result
    mill_whole text plays wrote result (inl done) = subst Ended (sym done.0) (text, plays, λ told. same told ∙ wrote told)
    mill_whole text plays wrote result (inr refused) =
        subst Ended (sym refused.0) (
          text,
          plays,
          (
            (λ told. (length text, same told ∙ wrote told ∙ ap (λ t. old.written ++ t) (sym (take-length text)))),
            inr (rw none at refused.1, λ told. same told ∙ wrote told),
          ),
        )

    -- a part of it
    pub mill_refused : (text : List ℕ) → PlaysAll device work made first new count text → (writes → (n : ℕ) × (mid.written ≡ old.written ++ take n text)) → (result : Ending) → AfterFlush writes WriteFault mid last result → Ended result
    mill_refused text plays part result behind =
        subst Ended (sym behind.0) (text, plays, ((λ told. let some = part told in (some.0, same told ∙ some.1)), inl (behind.1 ∙ none)))

    -- nothing
    pub mill_failed : PlaysSome device work made first new count → (writes → mid.written ≡ old.written) → (result : Ending) → AfterFlush writes Failed mid last result → Ended result
    mill_failed plays silent result behind = subst Ended (sym behind.0) (plays, λ told. same told ∙ silent told)

-- how a workload ends, since a moment before the card was powered on
module _ {F : Type 0} (device : Flash F) (made : F) (card : CardOver F) (first : State) (stands : CardRepresents device card first)
    (powered : device.tells → (all : List Registry) → Always (device.may_leave made) (ReopensAsOne all) → LeavesOnly device made card.flash (ReopensAsOne all))
    (work : Workload) (new : F) (count : ℕ) where
  all_since : (text : List ℕ) → PlaysAll device work card.flash first new count text → PlaysAll device work made first new count text
  all_since text plays = record {
    effect = plays.effect;
    last = plays.last;
    plays = plays.plays;
    run = run_since device made card first stands powered new count plays.effect.outcomes plays.last.state plays.run;
    counter = plays.counter;
    counted = plays.counted;
    text_is = plays.text_is;
  }

  some_since : PlaysSome device work card.flash first new count → PlaysSome device work made first new count
  some_since plays = record {
    given = plays.given;
    line = plays.line;
    rest = plays.rest;
    lines_are = plays.lines_are;
    effect = plays.effect;
    last = plays.last;
    plays = plays.plays;
    begun = plays.begun;
    mid = plays.mid;
    next = plays.next;
    fails = plays.fails;
    failed = failed_since device made card first stands powered new count (plays.effect.outcomes ++ plays.begun) plays.mid plays.next plays.failed;
  }

  pub mill_since : (writes : Type 0) (ending : Ending) (old last : SinkState) → MillEnds device writes work card.flash first ending new count old last
      → MillEnds device writes work made first ending new count old last
  mill_since writes Failed old last ends = (some_since ends.0, ends.1)
  mill_since writes _ old last ends = (ends.0, all_since ends.0 ends.1, ends.2)

-- the registry of the factory card is the one that was powered on with
pub is_factory : {F : Type 0} (device : Flash F) (flash : F) (registry : Registry) → IsFactoryCard device flash → (device.tells → Reopens (device.pages flash) registry)
    → device.tells → registry ≡ factory_registry
is_factory device flash registry factory reopens told =
    let first = reopens told in
    let keeps = factory told in
    let second = keeps.now in
    one_registry (store_page (device.pages flash)) (load_page (device.pages flash)) registry factory_registry first.holds second.holds

-- the card was not powered on, but for want of memory
pub not_milled : {F : Type 0} (device : Flash F) (old new : F) (cause : PowerCause) (status : ℕ) → IsFactoryCard device old → PowerFails device old cause new
    → LeftOneOf device new (factory_registry ∷ []) → LeavesOneOf device old new (factory_registry ∷ []) → status ≡ refusal_status cause → status ≢ 7
    → IsNotMilled device status 0 old new
not_milled device old new (Memory refused) status factory fails left moments is other = absurd (other is)
not_milled device old new FlashFailed status factory fails left moments is other =
    record { made = old; factory = factory; faultless = refl; none = refl; why = inl (is, fails); left = left; moments = moments }
not_milled device old new NotACard status factory fails left moments is other = record {
  made = old;
  factory = factory;
  faultless = refl;
  none = refl;
  why = inr (is, λ told. (let none = fails told in let keeps = factory told in none.none factory_registry keeps.now));
  left = left;
  moments = moments;
}

-- power lost since it was made leaves the factory card, where it was not powered on
pub leaves_made : {F : Type 0} (device : Flash F) (made new : F) → IsFactoryCard device made
    → (device.tells → (all : List Registry) → Always (device.may_leave made) (ReopensAsOne all) → LeavesOnly device made new (ReopensAsOne all))
    → LeavesOneOf device made new (factory_registry ∷ [])
leaves_made device made new factory moments told =
    (let keeps = factory told in
    moments told (factory_registry ∷ []) (λ c possible. (factory_registry, contains_first factory_registry [], keeps.reopens c possible)))

-- where nothing fails all is done
pub mills_all : {F : Type 0} (device : Flash F) (writes : Type 0) (work : Workload) (made : F) (first : State) (ending : Ending) (new : F) (count : ℕ) (old last : SinkState) (before after : Around ℕ ℕ ℕ)
    → MillEnds device writes work made first ending new count old last → EndCause ending before after → (Rose before.sink after.sink → ⊥) → (Rose before.flash after.flash → ⊥) → exit_status ending ≡ 0
mills_all device writes work made first Finished new count old last before after ends cause no_sink no_device = refl
mills_all device writes work made first Failed new count old last before after ends cause no_sink no_device = absurd (no_device cause.2)
mills_all device writes work made first WriteFault new count old last before after ends cause no_sink no_device = absurd (no_sink cause.1)
mills_all device writes work made first _ new count old last before after ends cause no_sink no_device = absurd ends.2

-- how a workload ends, since a moment before the card was made
module _ {K F : Type 0} (work : Workload) (sink : Sink K) (device : Flash F) (status count : ℕ) (before mid new : F) (old now : K) (same : device.faults mid ≡ device.faults before) where
  abbrev since : F → Around (Unit {0}) K F
  since flash = around tt old flash

  no_less : device.faults before ≤ device.faults mid
  no_less = omega (arith, same)

  pub mills_from : MillsCard work sink device status count (since mid) (around tt now new) ⊎ (IsNotMilled device status count mid new × (now ≡ old))
      → EndsMill work sink device status count (since before) (around tt now new)
  mills_from (inl card) = inl (record {
    made = card.made;
    factory = card.factory;
    registry = card.registry;
    same = card.same;
    ending = card.ending;
    ended = (let ended = card.ended in record { status_is = ended.status_is; cause = cause_since card.ending _ _ _ _ _ no_less ended.cause; flushes = ended.flushes });
    ends = card.ends;
  })
  mills_from (inr (milled, unwritten)) = inr (inr (
    record {
      made = milled.made;
      factory = milled.factory;
      faultless = milled.faultless ∙ same;
      none = milled.none;
      why = milled.why;
      left = milled.left;
      moments = milled.moments;
    },
    unwritten,
  ))
