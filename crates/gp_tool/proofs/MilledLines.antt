-- A workload that is played line by line.
use Rattle.std.proofs.Common.{◌≡◌, ◌≤◌, ℕ, zero, suc, false, ◌+◌, ◌*◌, List, [], ◌∷◌, ◌++◌, length, refl, sym, ap, subst, ◌∙◌, arith, append_assoc, length-append}
use Rattle.std.specs.Prelude.{flat_map}
use Rattle.std.proofs.lemmas.List.{append-nil}
use Rattle.card_core.specs.Card.{CardRepresents}
use Rattle.flash_core.specs.declared.flash.Flash.{Ghosts as Flash}
use Rattle.io_edge.specs.declared.line.TheConstants.{LINE_LIMIT}
use Rattle.policy_machine.specs.State.{State}
use Rattle.policy_machine.specs.Step.{Outcome}
use Rattle.rand_chacha.specs.ChaCha.{ChaCha}
use Rattle.script_tool.specs.Host.{first_host}
use Rattle.script_lines.proofs.WorkloadLines.{workload_lines}
use Rattle.script_tool.specs.Kept.{RepresentsHost}
use Rattle.script_tool.specs.Mill.{after_round, generator, rounds, workload}
use Rattle.script_tool.specs.Round.{lines_of}
use Rattle.script_tool.specs.Workload.{AreLines}
use Rattle.script_tool.specs.declared.host_state.HostState.{HostState}
use Rattle.gp_tool.proofs.Counting.{count_more, exactly}
use Rattle.gp_tool.proofs.FewOutcomes.{begun_few, front_short, runs_few}
use Rattle.gp_tool.proofs.Moments.{has_failed, has_run}
use Rattle.gp_tool.proofs.RunsMore.{leaves_further, runs_more}
use Rattle.gp_tool.specs.Device.{LeavesOneOf, registries}
use Rattle.gp_tool.specs.Effects.{both_effects, nothing}
use Rattle.gp_tool.specs.Mill.{PlaysSome, with_text, with_texts}
use Rattle.gp_tool.specs.Milling.{Milled, Milling, MillsLine}
use Rattle.gp_tool.specs.RunsLines.{RunsLines, start}
use Rattle.gp_tool.specs.Script.{BreaksScript}
use Rattle.gp_tool.specs.Serve.{BreaksLine}
use Rattle.gp_tool.specs.Standing.{standing}
use Rattle.gp_tool.specs.declared.card_end.CardEnd as the_end
use Rattle.gp_tool.specs.declared.tally.Tally.{Tally}
use Rattle.gp_tool.specs.declared.verb.Verb.TheVariants.{Play}
use Rattle.gp_tool.specs.declared.workload.Workload.{Workload}

-- ten lines a round
ten_lines : (n : ℕ) (g : ChaCha) → length (flat_map lines_of (rounds n g)) ≡ 10 * n
unfolding rounds
ten_lines zero g = refl
ten_lines (suc n) g = (let rest = ten_lines n (after_round g) in omega (arith, rest))

pub workload_long : (seed count : ℕ) → length (workload seed count) ≡ 10 * count
workload_long seed count = ten_lines count (generator seed)

-- texts after texts
counts_all : (some more : List (List ℕ)) (tally : Tally) → with_texts more (with_texts some tally) ≡ with_texts (some ++ more) tally
counts_all [] more tally = refl
counts_all (text ∷ some) more tally = counts_all some more (with_text text tally)

module _ {F : Type 0} (device : Flash F) (work : Workload) (first : State) (from : F) where
  pub milling_first : (end : the_end.CardEnd F) (player : HostState) (tally : Tally) (left : List (List ℕ)) → CardRepresents device end.card first → RepresentsHost player first_host
      → LeavesOneOf device from end.card.flash (first.registry ∷ []) → end.done ≡ 0 → tally ≡ record { success = 0; other = 0 } → left ≡ workload work.seed work.rounds
      → Milling device work first from end player tally left
  milling_first end player tally left stands host leaves none zero_tally all = record {
    given = [];
    effect = nothing;
    place = start Play first;
    all = all;
    plays = (refl, refl);
    stands = stands;
    host = host;
    leaves = leaves;
    done = omega (arith, none);
    tally_is = zero_tally;
  }

  -- ten thousand rounds make fewer commands than a count holds
  few_milled : (end : the_end.CardEnd F) (player : HostState) (tally : Tally) (left : List (List ℕ)) → work.rounds ≤ 10_000
      → (milling : Milling device work first from end player tally left) → length milling.effect.outcomes ≤ 3_132_100_000
  few_milled end player tally left rounds milling =
      let short = front_short milling.given left (subst AreLines (sym milling.all) (workload_lines work.seed work.rounds)) in
      let few = runs_few Play 1 milling.given (start Play first) milling.place milling.effect short milling.plays in
      let long = ap (λ (lines : List (List ℕ)). length lines) milling.all ∙ workload_long work.seed work.rounds in
      let parts = length-append milling.given left in
      omega (arith, few, long, parts, rounds)

  module _ (old : the_end.CardEnd F) (player : HostState) (tally : Tally) (line : List ℕ) (left left' : List (List ℕ)) (is : left ≡ line ∷ left')
      (milling : Milling device work first from old player tally left) (new : the_end.CardEnd F) where
    leaves_more : (more : List Outcome) → LeavesOneOf device old.card.flash new.card.flash (registries milling.place.state more)
        → LeavesOneOf device from new.card.flash (registries first (milling.effect.outcomes ++ more))
    leaves_more more leaves =
        leaves_further Play device milling.given (start Play first) milling.place milling.effect milling.plays from old.card.flash new.card.flash more milling.leaves leaves

    -- one line more
    pub milling_more : (player' : HostState) (tally' : Tally) → MillsLine device line old new player player' tally tally' milling.place → Milling device work first from new player' tally' left'
    milling_more player' tally' mills =
        let run = mills.runs in
        let stands = run.stands in
        record {
          given = milling.given ++ line ∷ [];
          effect = both_effects milling.effect run.effect;
          place = run.next;
          all = append_assoc milling.given (line ∷ []) left' ∙ ap (λ l. milling.given ++ l) (sym is) ∙ milling.all;
          plays = runs_more Play 1 (1 + length milling.given) milling.given line (start Play first) milling.place run.next milling.effect run.effect refl milling.plays run.plays;
          stands = stands.0;
          host = stands.1;
          leaves = leaves_more run.effect.outcomes run.leaves;
          done = count_more old.done new.done milling.effect.outcomes run.effect.outcomes milling.done run.done;
          tally_is = mills.tally_is ∙ ap (with_texts run.effect.texts) milling.tally_is ∙ counts_all milling.effect.texts run.effect.texts (record { success = 0; other = 0 });
        }

    -- the device failed in the line
    pub milling_broken : (player' : HostState) → work.rounds ≤ 10_000 → length line ≤ LINE_LIMIT → BreaksLine (BreaksScript line) device (standing old player false) (standing new player' false) milling.place
        → PlaysSome device work from first new.card.flash new.done
    milling_broken player' rounds fits breaks = record {
      given = milling.given;
      line = line;
      rest = left';
      lines_are = sym milling.all ∙ ap (λ l. milling.given ++ l) is;
      effect = milling.effect;
      last = milling.place;
      plays = milling.plays;
      begun = breaks.begun;
      mid = breaks.mid;
      next = breaks.next;
      fails = breaks.fails;
      failed = has_failed device from new.card.flash first new.done (milling.effect.outcomes ++ breaks.begun) breaks.mid breaks.next
          (let few = few_milled old player tally left rounds milling in
          let begun = begun_few line milling.place breaks.begun breaks.mid breaks.next breaks.fails in
          let all = length-append milling.effect.outcomes breaks.begun in
          exactly new.done (length (milling.effect.outcomes ++ breaks.begun))
          (count_more old.done new.done milling.effect.outcomes breaks.begun milling.done breaks.done) (omega (arith, few, begun, all, fits))) breaks.left
          (subst (λ (os : List Outcome). LeavesOneOf device from new.card.flash (registries first os)) (sym (append_assoc milling.effect.outcomes breaks.begun (breaks.next ∷ [])))
          (leaves_more (breaks.begun ++ breaks.next ∷ []) breaks.leaves));
    }

  -- none is left
  pub milled : (end : the_end.CardEnd F) (player : HostState) (tally : Tally) (left : List (List ℕ)) → work.rounds ≤ 10_000 → left ≡ [] → Milling device work first from end player tally left
      → Milled device work first from end tally
  milled end player tally left rounds none milling =
      let all : milling.given ≡ workload work.seed work.rounds = sym (append-nil milling.given) ∙ ap (λ l. milling.given ++ l) (sym none) ∙ milling.all in
      let few = few_milled end player tally left rounds milling in
      let count = exactly end.done (length milling.effect.outcomes) milling.done (omega (arith, few)) in
      let run = has_run device from end.card first end.done milling.effect.outcomes milling.place.state count milling.stands milling.leaves in
      record {
        effect = milling.effect;
        last = milling.place;
        plays = subst (λ (lines : List (List ℕ)). RunsLines Play 1 lines (start Play first) milling.effect milling.place) all milling.plays;
        stands = milling.stands;
        run = run.0;
        tally_is = milling.tally_is;
      }
