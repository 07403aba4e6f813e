-- Lines that a host plays one after the other over a pair of streams.
use Rattle.std.proofs.Common.{◌≡◌, ℕ, ◌||◌, Bool, true, false, List, [], ◌∷◌, ◌++◌, refl, sym, ap, subst, ◌∙◌, append_assoc}
use Rattle.std.proofs.lemmas.List.{append-nil}
use Rattle.io_edge.specs.declared.sink.Sink.{Ghosts as Sink}
use Rattle.io_edge.specs.declared.source.Source.{Ghosts as Source}
use Rattle.line_runs.specs.Ends.{TakesLines}
use Rattle.script_tool.specs.Host.{Host}
use Rattle.script_tool.specs.Talk.{Event}
use Rattle.host_tool.specs.Conveyed.{Conveyed}
use Rattle.host_tool.specs.Link.{sides_of}
use Rattle.host_tool.specs.Played.{HostHasPlayed}
use Rattle.host_tool.specs.Takes.{Hosting, Joins, HostStands, host_taker}

or_left : (a b c : Bool) → ((a || b) || c) ≡ (a || (b || c))
or_left true b c = refl
or_left false b c = refl

pub or_none : (a : Bool) → (a || false) ≡ a
or_none true = refl
or_none false = refl

module _ {S K : Type 0} (source : Source S) (sink : Sink K) where
  joins_none : (at last : Hosting S K) → last ≡ at → Joins source sink at.link last.link []
  joins_none at last same start before conveyed =
      subst (λ (h : Hosting S K). Conveyed source.tells sink.tells (sides_of source sink start) (sides_of source sink h.link) h.link.why (before ++ [])) (sym same)
      (subst (λ (events : List Event). Conveyed source.tells sink.tells (sides_of source sink start) (sides_of source sink at.link) at.link.why events) (sym (append-nil before)) conveyed)

  -- lines that were taken were played
  pub lines_played : (given : List (List ℕ)) (host : Host) (first last : Hosting S K) (texts : List (List ℕ)) → HostStands first host
      → TakesLines (host_taker source sink).takes first given last texts → HostHasPlayed source sink host first last given texts
  lines_played [] host first last texts stands (same, none) = record {
    events = [];
    differs = false;
    after = host;
    plays = (refl, none, refl, refl);
    stands = subst (λ (h : Hosting S K). HostStands h host) (sym same) stands;
    differs_is = ap (λ (h : Hosting S K). h.differs) same ∙ sym (or_none first.differs);
    joins = joins_none first last same;
  }
  lines_played (line ∷ given) host first last texts stands (next, text, more, takes, later, are) =
      let one = takes host stands in
      let rest = lines_played given one.after next last more one.stands later in
      record {
        events = one.events ++ rest.events;
        differs = one.differs || rest.differs;
        after = rest.after;
        plays = (one.events, text, one.differs, one.after, one.plays, rest.events, more, rest.differs, rest.plays, refl, are, refl);
        stands = rest.stands;
        differs_is = rest.differs_is ∙ ap (λ (d : Bool). d || rest.differs) one.differs_is ∙ or_left first.differs one.differs rest.differs;
        joins = λ start before conveyed.
            subst (λ (events : List Event). Conveyed source.tells sink.tells (sides_of source sink start) (sides_of source sink last.link) last.link.why events)
            (append_assoc before one.events rest.events) (rest.joins start (before ++ one.events) (one.joins start before conveyed));
      }
