-- What comes of one line in `play`.
use Rattle.std.proofs.Common.{◌≡◌, ℕ, Bool, true, false, ◌||◌, List, [], ◌∷◌, ◌++◌, refl, sym, ap, ◌∙◌}
use Rattle.std.specs.Prelude.{Result, Err}
use Rattle.flash_core.specs.declared.flash.Flash.{Ghosts as Flash}
use Rattle.script_tool.specs.Host.{Host}
use Rattle.script_tool.specs.HostLines.{is_difference}
use Rattle.script_tool.specs.Kept.{RepresentsHost}
use Rattle.script_tool.specs.Printed.{kind_played, Printed, Nothing, printed_text, status_printed}
use Rattle.script_tool.specs.Kinds.{is_difference_kind, prints_kind}
use Rattle.script_tool.proofs.AnswerKinds.{RefusesForm, differs_as}
use Rattle.script_tool.specs.Line.{SaysLine}
use Rattle.script_tool.specs.Play.{playing, remembering}
use Rattle.script_tool.specs.Quiet.{is_quiet}
use Rattle.script_tool.specs.declared.host_state.HostState.{HostState}
use Rattle.script_lines.specs.declared.line.ScriptLine.{ScriptLine}
use Rattle.script_tool.specs.declared.played.Played as the_played
use Rattle.script_tool.specs.declared.played.StepStop.{StepStop}
use Rattle.script_tool.specs.declared.played.StepStop.TheVariants.{Form, LinkFailed}
use Rattle.gp_tool.specs.CardEnd.{Counting}
use Rattle.gp_tool.specs.Effects.{LinePlace}
use Rattle.gp_tool.specs.Script.{BreaksScript, PlaysScript, texts_of}
use Rattle.gp_tool.specs.Serve.{BreaksLine, RunsLine, Standing}
use Rattle.gp_tool.specs.StepsCard.{StepsOver, StopsCard}

-- a line that prints nothing has no text
silent_text : (quiet : Bool) (printed : Printed) → prints_kind (kind_played printed) ≡ false → texts_of quiet printed ≡ []
silent_text quiet Nothing none = refl
silent_text quiet _ none = cc none

-- any other one has one
one_text : (quiet : Bool) (printed : Printed) → prints_kind (kind_played printed) ≡ true → texts_of quiet printed ≡ (printed_text quiet printed ++ 10 ∷ []) ∷ []
one_text quiet Nothing some = cc some
one_text quiet _ some = refl

-- a line that says something is stopped by the link alone
pub stopped_by_link : (result : Result the_played.Played StepStop) (number : ℕ) (line : List ℕ) (stop : StepStop) (said : ScriptLine) → RefusesForm result number line
    → SaysLine line said → result ≡ Err stop → stop ≡ LinkFailed
stopped_by_link result number line LinkFailed said form says is = refl
stopped_by_link result number line (Form n) said form says is =
    let refused = form n in
    let none = refused.0 is in
    absurd (none.1 said says)

module _ {F : Type 0} (device : Flash F) (line : List ℕ) (old new : Standing F HostState) (from to : Counting F)
    (before : old.card ≡ from.card) (behind : new.card ≡ to.card) (count : old.done ≡ from.done) (count' : new.done ≡ to.done)
    (place : LinePlace Host) (said : ScriptLine) (says : SaysLine line said) where
  module _ (text : List ℕ) (played : the_played.Played) (differs : new.differs ≡ (old.differs || is_difference_kind played))
      (over : StepsOver device from to place.memory place.state said new.held text played) where
    -- the line was played
    line_runs : RunsLine RepresentsHost (PlaysScript line) device old new place
    line_runs =
        let plays = over.plays in
        record {
          effect = record { outcomes = plays.outcomes; texts = texts_of (is_quiet said) over.printed; differs = is_difference over.printed };
          next = record { memory = remembering (status_printed over.printed) over.after; state = plays.last };
          plays = (said, says, plays.events, over.printed, over.after, plays.goes, plays.answers, refl, refl, refl);
          stands = (rw behind plays.stands, over.stands);
          leaves = rw (before, behind) plays.leaves;
          done = rw (count, count') plays.done;
          differs = differs ∙ ap (λ d. old.differs || d) (ap is_difference_kind over.kind ∙ differs_as over.printed);
        }

    pub runs_silently : prints_kind played ≡ false → (run : RunsLine RepresentsHost (PlaysScript line) device old new place) × (run.effect.texts ≡ [])
    unfolding line_runs
    runs_silently none = (line_runs, silent_text (is_quiet said) over.printed (ap prints_kind (sym over.kind) ∙ none))

    pub runs_printing : prints_kind played ≡ true → (run : RunsLine RepresentsHost (PlaysScript line) device old new place) × (run.effect.texts ≡ (text ++ 10 ∷ []) ∷ [])
    unfolding line_runs
    runs_printing some =
        (line_runs, one_text (is_quiet said) over.printed (ap prints_kind (sym over.kind) ∙ some) ∙ ap (λ t. (t ++ 10 ∷ []) ∷ []) (sym over.text_is))

  -- the device failed in a command of the line
  pub line_breaks : StopsCard device from to place.state (playing place.memory said) → BreaksLine (BreaksScript line) device old new place
  line_breaks stops = record {
    begun = stops.outcomes;
    mid = stops.mid;
    next = stops.next;
    fails = (said, says, stops.events, stops.command, stops.rest, stops.goes, stops.answers, stops.step);
    done = rw (count, count') stops.done;
    left = rw behind stops.left;
    leaves = rw (before, behind) stops.leaves;
  }
