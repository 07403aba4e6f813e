-- A workload has one summary.
use Rattle.std.proofs.Common.{◌≡◌, ◌++◌, ℕ, List, length, refl, sym, ap, subst, ◌∙◌, inl, inr, arith}
use Rattle.card_types.specs.Factory.{factory_registry}
use Rattle.card_types.specs.Registry.{Counter, Registry}
use Rattle.card_types.specs.declared.factory.TheConstants.{ISSUER}
use Rattle.flash_core.specs.declared.flash.Flash.{Ghosts as Flash}
use Rattle.hex.specs.Hex.{encode_lower}
use Rattle.io_edge.specs.declared.sink.Sink.{Ghosts as Sink}
use Rattle.policy_machine.proofs.OneSet.{counter_one}
use Rattle.policy_machine.specs.State.{State, powered_on}
use Rattle.rec_store.specs.Reopens.{KeepsRegistry}
use Rattle.scp03_card.specs.Offer.{counter_bytes}
use Rattle.script_tool.specs.Host.{Host}
use Rattle.script_tool.specs.Mill.{workload}
use Rattle.line_runs.specs.Exit.{exit_status}
use Rattle.gp_tool.proofs.RunsMore.{runs_once}
use Rattle.gp_tool.specs.Around.{Around}
use Rattle.gp_tool.specs.Effects.{LineEffect, LinePlace}
use Rattle.gp_tool.specs.Laws.{OneMill}
use Rattle.gp_tool.specs.Mill.{IsCounterText, MillEnds, PlaysAll, summary, tally_of}
use Rattle.gp_tool.specs.RunsLines.{start}
use Rattle.gp_tool.specs.Verbs.{MillsCard}
use Rattle.line_runs.specs.declared.exit.Ending.{Ending}
use Rattle.line_runs.specs.declared.exit.Ending.TheVariants.{Finished}
use Rattle.gp_tool.specs.declared.verb.Verb.TheVariants.{Play}
use Rattle.gp_tool.specs.declared.workload.Workload.{Workload}

-- 0 is the status of one ending
finished : (ending : Ending) → 0 ≡ exit_status ending → ending ≡ Finished
finished Finished is = refl
finished _ is = absurd (omega (arith, is))

-- a registry has one text of its counter
counter_once : (registry : Registry) (a b : List ℕ) → IsCounterText registry a → IsCounterText registry b → a ≡ b
counter_once registry a b (inl (value, (counter, uses, of), is)) (inl (value', (counter', uses', of'), is')) =
    is ∙ ap encode_lower (of ∙ ap (λ (c : Counter). counter_bytes c.number) (counter_one registry ISSUER counter counter' uses uses') ∙ sym of') ∙ sym is'
counter_once registry a b (inl some) (inr none) = absurd (none.0 some.0 some.1)
counter_once registry a b (inr none) (inl some) = absurd (none.0 some.0 some.1)
counter_once registry a b (inr none) (inr again) = none.1 ∙ sym again.1

module _ {F : Type 0} (device : Flash F) (work : Workload) (first : State) (made other new another : F) (count count' : ℕ) (text text' : List ℕ)
    (plays : PlaysAll device work made first new count text) (again : PlaysAll device work other first another count' text') where
  same_effect : plays.effect ≡ again.effect
  same_effect = (runs_once Play 1 (workload work.seed work.rounds) (start Play first) plays.last again.last plays.effect again.effect plays.plays again.plays).0

  same_last : plays.last ≡ again.last
  same_last = (runs_once Play 1 (workload work.seed work.rounds) (start Play first) plays.last again.last plays.effect again.effect plays.plays again.plays).1

  same_counter : plays.counter ≡ again.counter
  same_counter = counter_once plays.last.state.registry plays.counter again.counter plays.counted
      (subst (λ (last : LinePlace Host). IsCounterText last.state.registry again.counter) (sym same_last) again.counted)

  same_text : text ≡ text'
  same_text = plays.text_is ∙ (λ i. summary work (tally_of (same_effect i).texts) (same_counter i)) ∙ sym again.text_is

  same_count : count ≡ count'
  same_count =
      let run = plays.run in
      let run' = again.run in
      run.done ∙ ap (λ (e : LineEffect). length e.outcomes) same_effect ∙ sym run'.done

  pub same_mill : (text ≡ text') × (plays.last.state.registry ≡ again.last.state.registry) × (count ≡ count')
  same_mill = (same_text, ap (λ (last : LinePlace Host). last.state.registry) same_last, same_count)

module _ {K F : Type 0} (sink : Sink K) (device : Flash F) (work : Workload) (count : ℕ) (old new : Around (Unit {0}) K F) where
  -- all was played and written
  abbrev Summed : F → Type 0
  Summed made = (text : List ℕ) × PlaysAll device work made (powered_on factory_registry) new.flash count text × (sink.tells → (sink.state new.sink).written ≡ (sink.state old.sink).written ++ text)

  pub summed : device.tells → (card : MillsCard work sink device 0 count old new) → Summed card.made
  summed told card =
      let ended = card.ended in
      let ends = subst (λ (ending : Ending). MillEnds device sink.tells work card.made (powered_on card.registry) ending new.flash count (sink.state old.sink) (sink.state new.sink))
      (finished card.ending ended.status_is) card.ends in
      subst (λ (registry : Registry). (text : List ℕ) × PlaysAll device work card.made (powered_on registry) new.flash count text
      × (sink.tells → (sink.state new.sink).written ≡ (sink.state old.sink).written ++ text)) (card.same told) ends

pub one_mill : {K F : Type 0} (sink : Sink K) (device : Flash F) → OneMill sink device
one_mill sink device work count count' old new before after writes told card other =
    let one = summed sink device work count old new told card in
    let again = summed sink device work count' before after told other in
    let plays = one.1 in
    let plays' = again.1 in
    let run = plays.run in
    let run' = plays'.run in
    let same = same_mill device work (powered_on factory_registry) card.made other.made new.flash after.flash count count' one.0 again.0 plays plays' in (
      one.0,
      plays.last.state.registry,
      record { written = one.2 writes; keeps = run.keeps told },
      record {
        written = again.2 writes ∙ ap (λ t. (sink.state before.sink).written ++ t) (sym same.0);
        keeps = subst (λ (registry : Registry). KeepsRegistry device after.flash registry) (sym same.1) (run'.keeps told);
      },
      same.2,
    )
