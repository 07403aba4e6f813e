-- What comes of one line that a host plays over a pair of streams.
use Rattle.std.proofs.Common.{◌≡◌, ◌≢◌, ℕ, ◌||◌, Bool, true, List, [], ◌∷◌, ◌++◌, Option, None, Some, refl, sym, ap, subst, ◌∙◌, inl, inr}
use Rattle.std.specs.Prelude.{IfSome}
use Rattle.io_edge.specs.declared.sink.Sink.{Ghosts as Sink}
use Rattle.io_edge.specs.declared.source.Source.{Ghosts as Source}
use Rattle.line_runs.specs.Taker.{TakerComes}
use Rattle.line_runs.specs.declared.taker.Taking.{Taking}
use Rattle.line_runs.specs.declared.taker.Taking.TheVariants.{Taken, Failed}
use Rattle.script_tool.specs.Host.{Host}
use Rattle.script_tool.specs.HostLines.{HostPlays, is_difference, text_line}
use Rattle.script_tool.specs.Printed.{kind_played, Printed, Nothing, printed_text, status_printed}
use Rattle.script_tool.specs.Kinds.{is_difference_kind}
use Rattle.script_tool.proofs.AnswerKinds.{differs_as}
use Rattle.script_tool.specs.Line.{SaysLine}
use Rattle.script_tool.specs.Play.{playing, remembering}
use Rattle.script_tool.specs.Link.{Breaks, Conveys}
use Rattle.script_tool.specs.Played.{IsBroken}
use Rattle.script_tool.specs.Quiet.{is_quiet}
use Rattle.script_tool.specs.Step.{HasPlayed}
use Rattle.script_tool.specs.declared.link.CardLink.{Ghosts as CardLink}
use Rattle.script_tool.specs.Talk.{Event}
use Rattle.script_lines.specs.declared.line.ScriptLine.{ScriptLine}
use Rattle.script_tool.specs.declared.played.Played as the_played
use Rattle.script_tool.specs.declared.played.Played.TheVariants.{Quiet}
use Rattle.host_tool.proofs.Sent.{exchanged_none}
use Rattle.host_tool.specs.Conveyed.{Conveyed, Unanswered}
use Rattle.host_tool.specs.Link.{Linked, sides_of}
use Rattle.host_tool.specs.Fault.{fault_text}
use Rattle.host_tool.specs.Takes.{FailsFrom, Hosting, Joins, JoinsRefused, HostStands, TakesFrom, host_taker}
use Rattle.host_tool.specs.declared.fault.LinkFault.{LinkFault}

-- what is written of a line, by its kind
pub text_by_kind : (quiet : Bool) (printed : Printed) (text written : List ℕ) → text ≡ printed_text quiet printed
    → (kind_played printed ≢ Quiet → written ≡ text ++ 10 ∷ []) → (kind_played printed ≡ Quiet → written ≡ []) → written ≡ text_line quiet printed
text_by_kind quiet Nothing text written is some none = none refl
text_by_kind quiet _ text written is some none = some (λ same. cc same) ∙ ap (λ (t : List ℕ). t ++ 10 ∷ []) is

module _ {S K : Type 0} (source : Source S) (sink : Sink K) where
  -- a link that has not failed has conveyed no event since now
  since_now : (link : Linked S K) → link.why ≡ None → Conveyed source.tells sink.tells (sides_of source sink link) (sides_of source sink link) link.why []
  since_now link sound =
      subst (λ (why : Option LinkFault). Conveyed source.tells sink.tells (sides_of source sink link) (sides_of source sink link) why []) (sym sound)
      (exchanged_none source.tells sink.tells (sides_of source sink link))

  some_fault : (old new : Linked S K) (events : List Event) (command : List ℕ) (why : Option LinkFault)
      → Unanswered source.tells sink.tells (sides_of source sink old) (sides_of source sink new) why events command → (fault : LinkFault) × (why ≡ Some fault)
  some_fault old new events command None none = absurd none
  some_fault old new events command (Some fault) refused = (fault, refl)

  -- a command that got no answer has a cause
  pub has_fault : (old new : Linked S K) (events : List Event) (command : List ℕ) → old.why ≡ None → JoinsRefused source sink old new events command
      → (fault : LinkFault) × (new.why ≡ Some fault)
  has_fault old new events command sound joins = some_fault old new events command new.why (joins old [] (since_now old sound))

  module _ (link : CardLink (Linked S K)) (host : Host) (said : ScriptLine) (line : List ℕ) (says : SaysLine line said) (at next : Hosting S K) (stands : HostStands at host)
      (joins : (events : List Event) → Conveys link at.link next.link events → Joins source sink at.link next.link events) where
    module _ (printed : List ℕ) (played : the_played.Played) (over : HasPlayed link at.link next.link host said next.kept printed played) where
      host_plays : (text : List ℕ) → text ≡ text_line (is_quiet said) over.printed
          → HostPlays line host over.leads.events text (is_difference over.printed) (remembering (status_printed over.printed) over.after)
      host_plays text is = record {
        said = said;
        says = says;
        printed = over.printed;
        after = over.after;
        goes = over.leads.goes;
        text_is = is;
        differs_is = refl;
        next_is = refl;
      }

      -- the line was played, and its text is this
      pub line_taken : (text : List ℕ) → (played ≢ Quiet → text ≡ printed ++ 10 ∷ []) → (played ≡ Quiet → text ≡ [])
          → next.differs ≡ (at.differs || is_difference_kind played) → next.link.up ≡ true → next.link.why ≡ None → TakesFrom source sink host at next line text
      unfolding host_plays
      line_taken text some none differs up sound = record {
        events = over.leads.events;
        differs = is_difference over.printed;
        after = remembering (status_printed over.printed) over.after;
        plays = host_plays text
            (text_by_kind (is_quiet said) over.printed printed text over.text_is (λ other. some (λ same. other (sym over.kind ∙ same))) (λ same. none (over.kind ∙ same)));
        stands = record { kept = over.stands; up = up; sound = sound };
        differs_is = differs ∙ ap (λ (d : Bool). at.differs || d) (ap is_difference_kind over.kind ∙ differs_as over.printed);
        joins = joins over.leads.events over.leads.conveyed;
      }

      -- it was played, and a reset of it was not written
      pub reset_fails : (text : List ℕ) (fault : LinkFault) → next.link.why ≡ Some fault → IfSome next.link.why (λ fault. text ≡ fault_text fault)
          → FailsFrom source sink host at next line text
      unfolding host_plays
      reset_fails text fault why is = record {
        fault = fault;
        why = why;
        text_is = subst (λ (w : Option LinkFault). IfSome w (λ fault. text ≡ fault_text fault)) why is;
        events = over.leads.events;
        comes = inr (
          text_line (is_quiet said) over.printed,
          is_difference over.printed,
          remembering (status_printed over.printed) over.after,
          host_plays (text_line (is_quiet said) over.printed) refl,
          joins over.leads.events over.leads.conveyed,
        );
      }

    -- a command of it got no answer
    pub command_fails : (broken : IsBroken link at.link next.link (playing host said))
        → ((events : List Event) (command : List ℕ) → Breaks link at.link next.link events command → JoinsRefused source sink at.link next.link events command)
        → (text : List ℕ) → IfSome next.link.why (λ fault. text ≡ fault_text fault) → FailsFrom source sink host at next line text
    command_fails broken refuses text is =
        let joins' = refuses broken.events broken.command broken.breaks in
        let why = has_fault at.link next.link broken.events broken.command stands.sound joins' in
        record {
          fault = why.0;
          why = why.1;
          text_is = subst (λ (w : Option LinkFault). IfSome w (λ fault. text ≡ fault_text fault)) why.1 is;
          events = broken.events;
          comes = inl (broken.command, record { said = said; says = says; rest = broken.rest; goes = broken.goes }, joins');
        }

  -- of the state in which the line came
  pub taken_now : (at now next : Hosting S K) (line text : List ℕ) → at ≡ now → ((host : Host) → HostStands at host → TakesFrom source sink host at next line text)
      → TakerComes (host_taker source sink) now line next text Taken
  taken_now at now next line text same takes host stands =
      subst (λ (a : Hosting S K). TakesFrom source sink host a next line text) same (takes host (subst (λ (a : Hosting S K). HostStands a host) (sym same) stands))

  pub fails_now : (at now left next : Hosting S K) (line text : List ℕ) (result : Taking) → at ≡ now → next ≡ left → result ≡ Failed
      → ((host : Host) → HostStands at host → FailsFrom source sink host at left line text) → TakerComes (host_taker source sink) now line next text result
  fails_now at now left next line text result same leaves is fails =
      subst (λ (t : Taking). TakerComes (host_taker source sink) now line next text t) (sym is)
      (λ host stands.
      subst (λ (n : Hosting S K). FailsFrom source sink host now n line text) (sym leaves)
      (subst (λ (a : Hosting S K). FailsFrom source sink host a left line text) same (fails host (subst (λ (a : Hosting S K). HostStands a host) (sym same) stands))))
