-- The course of a run, from line to line and to its end.
use Rattle.std.proofs.Common.{◌≡◌, ℕ, ◌+◌, ◌-◌, ◌*◌, ◌<◌, ◌≤◌, false, ◌||◌, List, [], ◌∷◌, ◌++◌, length, take, None, refl, sym, ap, subst, ◌∙◌, inl, inr, append_assoc, arith, length-append}
use Rattle.std.proofs.lemmas.List.{append-nil}
use Rattle.std.proofs.lemmas.List.Folds.{concat-append}
use Rattle.std.specs.List.{concat}
use Rattle.std.specs.Str.Lines.{lines}
use Rattle.card_core.specs.Card.{CardOver, CardRepresents}
use Rattle.flash_core.specs.declared.flash.Flash.{Ghosts as Flash}
use Rattle.io_edge.specs.Lines.{IsNextLine, IsWithin, Reading, ahead, room}
use Rattle.io_edge.specs.declared.line.TheConstants.{INPUT_LIMIT, LINE_LIMIT}
use Rattle.policy_machine.specs.State.{State}
use Rattle.policy_machine.specs.Step.{Outcome}
use Rattle.line_runs.proofs.ComeFirst.{come_more, lines_come}
use Rattle.line_runs.proofs.Course.{all_written, concat_more, short_more}
use Rattle.line_runs.proofs.Passed.{taken_all}
use Rattle.gp_tool.proofs.Counting.{count_more, exactly}
use Rattle.gp_tool.proofs.FewOutcomes.{breaks_few, line_few}
use Rattle.gp_tool.proofs.Moments.{has_run, has_failed}
use Rattle.gp_tool.proofs.RunsMore.{leaves_further, runs_more}
use Rattle.gp_tool.specs.Counted.{CountsOn, bounded_count}
use Rattle.gp_tool.specs.Device.{HasFailed, HasRun, LeavesOneOf, registries}
use Rattle.gp_tool.specs.Effects.{LineEffect, LinePlace, both_effects, nothing}
use Rattle.gp_tool.specs.Ends.{Course, Ends, IsBad}
use Rattle.line_runs.specs.Outside.{Outside}
use Rattle.line_runs.specs.Taken.{AreAllTaken, IsShortCut, TakesNoMore, room_ahead}
use Rattle.gp_tool.specs.Going.{Going, Reached}
use Rattle.gp_tool.specs.RunsLines.{Memory, PlaysLine, RunsLines, no_memory, start}
use Rattle.line_runs.specs.Outside.{bad_line}
use Rattle.gp_tool.specs.Serve.{Standing}
use Rattle.gp_tool.specs.Standing.{Held, Means}
use Rattle.line_runs.specs.Turn.{total}
use Rattle.gp_tool.specs.Turn.{EndsWith, GoesOn, TakesLine}
use Rattle.line_runs.specs.declared.exit.Ending.{Ending}
use Rattle.line_runs.specs.declared.exit.Ending.TheVariants.{Finished, Differs, BadLine, Failed, ReadFault, WriteFault, InputTooLong}
use Rattle.gp_tool.specs.declared.verb.Verb.{Verb}

module _ {F : Type 0} (verb : Verb) (device : Flash F) (reads writes : Type 0) (first : State) (from : F) (before : Outside) where
  -- nothing was read yet
  pub going_first : (card : CardOver F) (held : Held verb) (done : ℕ) → done ≡ 0 → CardRepresents device card first → Means verb held (no_memory verb)
      → LeavesOneOf device from card.flash (first.registry ∷ [])
      → Going verb device reads writes first from (record { card = card; held = held; done = done; differs = false }) before before
      (record { number = 0; passed = 0; held = []; stop = None })
  going_first card held done none stands means leaves = record {
    given = [];
    effect = nothing;
    place = start verb first;
    number = refl;
    passed = λ _. omega arith;
    fits = tt;
    plays = (refl, refl);
    reached = λ _. refl;
    stands = (stands, means);
    leaves = leaves;
    done = omega (arith, none);
    few = omega arith;
    differs = refl;
    written = λ _. sym (append-nil before.sink.written);
  }

  module _ (at at' : Standing F (Held verb)) (now later : Outside) (old : Reading) (going : Going verb device reads writes first from at before now old) where
    -- the room is that after the bytes that were passed
    room_is : reads → room old ≡ room_ahead before.source.left (ahead old now.source.left)
    room_is told =
        let passed = going.passed told in
        let behind : old.passed ≡ length before.source.left - length (ahead old now.source.left) = omega arith in
        ap (λ n. INPUT_LIMIT - n) behind

    reached_more : (line after : List ℕ) → (reads → IsNextLine (room old) (ahead old now.source.left) line after) → reads → Reached before.source.left (going.given ++ line ∷ []) after
    reached_more line after next told =
        come_more INPUT_LIMIT before.source.left going.given (ahead old now.source.left) line after (going.reached told) (rw (← room_is told) (next told))

    -- the next line is bad, by the room after the bytes that were passed
    bad_there : ((memory : Memory verb) → Means verb at.held memory → reads → IsBad verb memory (room old) (ahead old now.source.left)) → reads
        → IsBad verb going.place.memory (room_ahead before.source.left (ahead old now.source.left)) (ahead old now.source.left)
    bad_there bad told =
        let stands = going.stands in
        subst (λ (n : ℕ). IsBad verb going.place.memory n (ahead old now.source.left)) (room_is told) (bad going.place.memory stands.1 told)

    -- what was taken of the whole input
    taken_there : (ahead left : List ℕ) → (reads → TakesNoMore (total old now) ahead left) → reads → TakesNoMore (length before.source.left) ahead left
    taken_there ahead left taken told = subst (λ (n : ℕ). TakesNoMore n ahead left) (going.passed told) (taken told)

    -- what power lost may leave after the commands of one line more
    leaves_more : (mid new : F) (more : List Outcome) → LeavesOneOf device from mid (registries first going.effect.outcomes)
        → LeavesOneOf device mid new (registries going.place.state more) → LeavesOneOf device from new (registries first (going.effect.outcomes ++ more))
    leaves_more mid new more since leaves = leaves_further verb device going.given (start verb first) going.place going.effect going.plays from mid new more since leaves

    done_more : (more : List Outcome) (count : ℕ) → CountsOn at.done count (length more) → count ≡ bounded_count (length (going.effect.outcomes ++ more))
    done_more more count done = count_more at.done count going.effect.outcomes more going.done done

    -- a line that goes on passes its bytes, and one at least
    further_few : (line : List ℕ) (more : List Outcome) (passed passed' : ℕ) → length more ≤ 60 * length line + 1 → length going.effect.outcomes ≤ 61 * passed
        → passed + length line ≤ passed' → passed < passed' → length (going.effect.outcomes ++ more) ≤ 61 * passed'
    further_few line more passed passed' one few spent further = (let all = length-append going.effect.outcomes more in omega (arith, all, one, few, spent, further))

    -- the count has not come to its end, so it is exact
    exact_here : IsWithin old → at.done ≡ length going.effect.outcomes
    exact_here within =
        let few = going.few in
        let passed : old.passed + length old.held ≤ INPUT_LIMIT = within in
        exactly at.done (length going.effect.outcomes) going.done (omega (arith, few, passed))

    -- with a line more the count has not come to its end
    exact_more : IsWithin old → (line : List ℕ) (more : List Outcome) (count : ℕ) → length line ≤ LINE_LIMIT → length more ≤ 60 * length line + 1
        → CountsOn at.done count (length more) → count ≡ length (going.effect.outcomes ++ more)
    exact_more within line more count fits one done =
        let few = going.few in
        let passed : old.passed + length old.held ≤ INPUT_LIMIT = within in
        let all = length-append going.effect.outcomes more in
        exactly count (length (going.effect.outcomes ++ more)) (done_more more count done) (omega (arith, few, passed, all, one, fits))

    plays_more : (line : List ℕ) (next : LinePlace (Memory verb)) (one : LineEffect) → PlaysLine verb (old.number + 1) line going.place one next
        → RunsLines verb 1 (going.given ++ line ∷ []) (start verb first) (both_effects going.effect one) next
    plays_more line next one plays =
        let number = going.number in
        runs_more verb 1 (old.number + 1) going.given line (start verb first) going.place next going.effect one (omega (arith, number)) going.plays plays

    -- the course of one line more
    course_more : (after left : List ℕ) → TakesLine verb device reads (old.number + 1) at at' going.place (room old) (ahead old now.source.left) after
        → (reads → TakesNoMore (length before.source.left) after left) → Course verb reads first before.source.left left
    course_more after left takes taken =
        let played = takes.played in
        record {
          given = going.given ++ takes.line ∷ [];
          effect = both_effects going.effect played.effect;
          last = played.next;
          ahead = after;
          fits = short_more going.given takes.line going.fits takes.fits;
          plays = plays_more takes.line played.next played.effect played.plays;
          reached = reached_more takes.line after takes.next;
          taken = taken;
        }

    -- the course up to here
    course_here : (rest left : List ℕ) → (reads → Reached before.source.left going.given rest) → (reads → TakesNoMore (length before.source.left) rest left)
        → Course verb reads first before.source.left left
    course_here rest left reached taken = record {
      given = going.given;
      effect = going.effect;
      last = going.place;
      ahead = rest;
      fits = going.fits;
      plays = going.plays;
      reached = reached;
      taken = taken;
    }

    pub going_further : (new : Reading) → GoesOn verb device reads writes at at' old new now later → Going verb device reads writes first from at' before later new
    going_further new on =
        let line = on.line going.place going.stands in
        let takes = line.0 in
        let played = takes.played in
        record {
          given = going.given ++ takes.line ∷ [];
          effect = both_effects going.effect played.effect;
          place = played.next;
          number = on.number ∙ ap (λ n. n + 1) going.number ∙ sym (length-append going.given (takes.line ∷ []));
          passed = λ told. on.passed told ∙ going.passed told;
          fits = short_more going.given takes.line going.fits takes.fits;
          plays = plays_more takes.line played.next played.effect played.plays;
          reached = reached_more takes.line (ahead new later.source.left) takes.next;
          stands = played.stands;
          leaves = leaves_more at.card.flash at'.card.flash played.effect.outcomes going.leaves played.leaves;
          done = done_more played.effect.outcomes at'.done played.done;
          few = further_few takes.line played.effect.outcomes old.passed new.passed (line_few verb (old.number + 1) takes.line going.place played.next played.effect played.plays) going.few line.1 on.further;
          differs = played.differs ∙ ap (λ d. d || played.effect.differs) going.differs;
          written = λ told.
              all_written before.sink.written (concat going.effect.texts) (concat played.effect.texts) now.sink.written later.sink.written (going.written told) (line.2 told)
              ∙ ap (λ t. before.sink.written ++ t) (sym (concat-append going.effect.texts played.effect.texts));
        }

    -- what holds of the device and the card after some commands
    abbrev pub Rests : List Outcome → State → Type 0
    Rests outcomes last = HasRun device from at'.card.flash first at'.done outcomes last × CardRepresents device at'.card last

    abbrev pub Fails : List Outcome → State → Outcome → Type 0
    Fails outcomes last next = HasFailed device from at'.card.flash first at'.done outcomes last next

    -- nothing was done on the card
    rested : IsWithin old → at' ≡ at → Rests going.effect.outcomes going.place.state
    rested within same =
        let stands = going.stands in
        subst (λ (a : Standing F (Held verb)). HasRun device from a.card.flash first a.done going.effect.outcomes going.place.state × CardRepresents device a.card going.place.state) (sym same)
        (has_run device from at.card first at.done going.effect.outcomes going.place.state (exact_here within) stands.0 going.leaves)

    -- the texts so far, and nothing more
    so_far : (writes → later.sink.written ≡ now.sink.written) → writes → later.sink.written ≡ before.sink.written ++ concat going.effect.texts
    so_far silent told = silent told ∙ going.written told

    -- the texts so far and the number of a bad line, or a part of it
    with_bad : (text : ℕ → List ℕ) → (writes → later.sink.written ≡ now.sink.written ++ text (old.number + 1))
        → writes → later.sink.written ≡ before.sink.written ++ (concat going.effect.texts ++ text (length going.given + 1))
    with_bad text wrote told =
        all_written before.sink.written (concat going.effect.texts) (text (length going.given + 1)) now.sink.written later.sink.written (going.written told)
        (wrote told ∙ ap (λ n. now.sink.written ++ text (n + 1)) going.number)

    -- the last text was cut
    last_cut : (n : ℕ) (text : List ℕ) → writes → later.sink.written ≡ now.sink.written ++ take n text
        → later.sink.written ≡ before.sink.written ++ (concat going.effect.texts ++ take n text)
    last_cut n text told wrote =
        all_written before.sink.written (concat going.effect.texts) (take n text) now.sink.written later.sink.written (going.written told) wrote

    -- the input is at its end
    course_read : (reads → ahead old now.source.left ≡ []) → (reads → 0 < room old) → (reads → later.source.left ≡ [])
        → (course : Course verb reads first before.source.left later.source.left)
        × (course.effect ≡ going.effect) × (course.last ≡ going.place) × (reads → AreAllTaken before.source.left course.given course.ahead)
    unfolding course_here
    course_read over some none =
        let short : reads → length before.source.left < INPUT_LIMIT
        = λ told.
        (let passed = going.passed told in
        let nothing_ahead : length (ahead old now.source.left) ≡ 0 = ap length (over told) in
        let room_left = some told in
        omega arith) in (
          course_here [] later.source.left (λ told. subst (λ (rest : List ℕ). Reached before.source.left going.given rest) (over told) (going.reached told))
              (λ told. taken_all (length before.source.left) later.source.left (none told) (short told)),
          refl,
          refl,
          λ told. (
            lines_come INPUT_LIMIT before.source.left going.given (ahead old now.source.left) (going.reached told)
                ∙ ap (λ rest. going.given ++ lines rest) (over told) ∙ append-nil going.given,
            refl,
            short told,
          ),
        )

    pub going_ends : IsWithin old → (ending : Ending) → EndsWith verb device reads writes at at' old now later ending → later.sink.flushes ≡ before.sink.flushes
        → Ends verb reads writes Rests Fails first ending before later
    unfolding course_here course_more
    going_ends within Finished (same, equal, (over, some, none, silent)) flushes =
        let read = course_read over some none in
        record {
          course = read.0;
          ends = (ap (λ (e : LineEffect). e.differs) read.1 ∙ sym going.differs ∙ equal, read.3, λ told. so_far silent told ∙ ap (λ (e : LineEffect). before.sink.written ++ concat e.texts) (sym read.1));
          rests = λ other. rw (read.1, read.2) (rested within same);
        }
    going_ends within Differs (same, equal, (over, some, none, silent)) flushes =
        let read = course_read over some none in
        record {
          course = read.0;
          ends = (ap (λ (e : LineEffect). e.differs) read.1 ∙ sym going.differs ∙ equal, read.3, λ told. so_far silent told ∙ ap (λ (e : LineEffect). before.sink.written ++ concat e.texts) (sym read.1));
          rests = λ other. rw (read.1, read.2) (rested within same);
        }
    going_ends within BadLine (same, (bad, refuses, taken)) flushes = record {
      course = course_here (ahead old now.source.left) later.source.left going.reached (taken_there (ahead old now.source.left) later.source.left taken);
      ends = (
        bad_there bad,
        λ told. with_bad bad_line refuses told ∙ ap (λ t. before.sink.written ++ t) (sym (concat_more going.effect.texts (bad_line (length going.given + 1)))),
      );
      rests = λ other. rested within same;
    }
    going_ends within Failed (silent, taken, breaks) flushes =
        let next = breaks going.place going.stands in
        let b = next.breaks in
        record {
          course = course_here (ahead old now.source.left) later.source.left going.reached (taken_there (ahead old now.source.left) later.source.left taken);
          ends = (
            (
              next.line,
              λ told.
                  (let comes = next.next told in
                  (comes.0, subst (λ (n : ℕ). IsNextLine n (ahead old now.source.left) next.line comes.0) (room_is told) comes.1)),
              next.fits,
              b.begun,
              b.mid,
              b.next,
              b.fails,
              has_failed device from at'.card.flash first at'.done (going.effect.outcomes ++ b.begun) b.mid b.next
                  (exact_more within next.line b.begun at'.done next.fits (breaks_few verb next.line going.place b.begun b.mid b.next b.fails) b.done) b.left
                  (subst (λ (os : List Outcome). LeavesOneOf device from at'.card.flash (registries first os)) (sym (append_assoc going.effect.outcomes b.begun (b.next ∷ [])))
                  (leaves_more at.card.flash at'.card.flash (b.begun ++ b.next ∷ []) going.leaves b.leaves)),
            ),
            so_far silent,
          );
          rests = λ other. absurd (other refl);
        }
    going_ends within ReadFault (same, holds, silent, taken) flushes = record {
      course = course_here (ahead old now.source.left) later.source.left going.reached (taken_there (ahead old now.source.left) later.source.left taken);
      ends = (holds, so_far silent);
      rests = λ other. rested within same;
    }
    going_ends within InputTooLong (same, cut, silent, taken) flushes = record {
      course = course_here (ahead old now.source.left) later.source.left going.reached (taken_there (ahead old now.source.left) later.source.left taken);
      ends = (λ told. subst (λ (n : ℕ). IsShortCut n (ahead old now.source.left)) (room_is told) (cut told), so_far silent);
      rests = λ other. rested within same;
    }
    going_ends within WriteFault (inl fault) flushes =
        let line = fault going.place going.stands in
        let takes = line.1 in
        let played = takes.played in
        let stands = played.stands in
        record {
          course = course_more line.0 later.source.left takes (taken_there line.0 later.source.left line.5);
          ends = inl (
            record {
              lines = going.given;
              line = takes.line;
              given_are = refl;
              before = going.effect;
              place = going.place;
              plays = going.plays;
              text = line.2;
              texts_are = ap (λ t. going.effect.texts ++ t) line.3;
            },
            (flushes, λ told. (let part = line.4 told in (part.0, last_cut part.0 line.2 told part.1))),
          );
          rests = λ other.
              has_run device from at'.card first at'.done (going.effect.outcomes ++ played.effect.outcomes) played.next.state
              (exact_more within takes.line played.effect.outcomes at'.done takes.fits (line_few verb (old.number + 1) takes.line going.place played.next played.effect played.plays) played.done) stands.0
              (leaves_more at.card.flash at'.card.flash played.effect.outcomes going.leaves played.leaves);
        }
    going_ends within WriteFault (inr (same, (bad, refuses, taken))) flushes = record {
      course = course_here (ahead old now.source.left) later.source.left going.reached (taken_there (ahead old now.source.left) later.source.left taken);
      ends = inr (inl (
        bad_there bad,
        (
          flushes,
          λ told.
              (let part = refuses told in
              (part.0, last_cut part.0 (bad_line (length going.given + 1)) told (part.1 ∙ ap (λ n. now.sink.written ++ take part.0 (bad_line (n + 1))) going.number))),
        ),
      ));
      rests = λ other. rested within same;
    }
