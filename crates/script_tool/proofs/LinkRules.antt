-- What goes over a link, one thing after the other.
use Rattle.std.proofs.Common.{◌≡◌, ℕ, List, [], ◌∷◌, ◌++◌, map, refl, sym, subst, ◌∙◌, ap}
use Rattle.std.proofs.lemmas.List.{append_assoc, append-nil, map-append}
use Rattle.policy_machine.specs.Run.{Input}
use Rattle.policy_machine.specs.Run.{Command as Given}
use Rattle.policy_machine.specs.State.{State, powered_on}
use Rattle.script_tool.specs.Link.{Breaks, Conveys, LeadOn, given_in}
use Rattle.script_tool.specs.Talk.{Answered, Event, Reset}
use Rattle.script_tool.specs.declared.link.CardLink.{Ghosts as CardLink}

pub lead_on : (state : State) (events more : List Event) (mid last : State) → LeadOn state events mid → LeadOn mid more last → LeadOn state (events ++ more) last
lead_on state [] more mid last x y = subst (λ s. LeadOn s more last) x y
lead_on state (Reset ∷ events) more mid last x y = lead_on (powered_on state.registry) events more mid last x y
lead_on state (Answered command reply ∷ events) more mid last x y = (x.0, x.1, lead_on x.0 events more mid last x.2 y)

given_more : (inputs : List Input) (events more : List Event)
    → inputs ++ map given_in events ++ map given_in more ≡ inputs ++ map given_in (events ++ more)
given_more inputs events more =
    append_assoc inputs (map given_in events) (map given_in more) ∙ ap (λ (all : List Input). inputs ++ all) (sym (map-append given_in events more))

pub conveys_nothing : {L : Type 0} (link : CardLink L) (now : L) → Conveys link now now []
conveys_nothing link now = record {
  stands = λ state stands. (state, refl, stands);
  came = λ start first inputs came. subst (λ (i : List Input). link.came start now first i) (sym (append-nil inputs)) came;
  told = λ start before told. subst (λ (e : List Event). link.conveyed start now e) (sym (append-nil before)) told;
}

pub conveys_on : {L : Type 0} (link : CardLink L) (a b c : L) (events more : List Event) → Conveys link a b events → Conveys link b c more → Conveys link a c (events ++ more)
conveys_on link a b c events more x y = record {
  stands = λ state stands.
      (let first = x.stands state stands in
      let second = y.stands first.0 first.2 in
      (second.0, lead_on state events more first.0 second.0 first.1 second.1, second.2));
  came = λ start first inputs came.
      subst (λ (i : List Input). link.came start c first i) (given_more inputs events more) (y.came start first (inputs ++ map given_in events) (x.came start first inputs came));
  told = λ start before told.
      subst (λ (e : List Event). link.conveyed start c e) (append_assoc before events more) (y.told start (before ++ events) (x.told start before told));
}

pub breaks_on : {L : Type 0} (link : CardLink L) (a b c : L) (events more : List Event) (command : List ℕ)
    → Conveys link a b events → Breaks link b c more command → Breaks link a c (events ++ more) command
breaks_on link a b c events more command x y = record {
  down = y.down;
  led = λ state stands.
      (let first = x.stands state stands in
      let second = y.led first.0 first.2 in
      (second.0, lead_on state events more first.0 second.0 first.1 second.1));
  came = λ start first inputs came.
      subst (λ (i : List Input). link.came start c first i) (ap (λ (all : List Input). all ++ Given command ∷ []) (given_more inputs events more))
      (y.came start first (inputs ++ map given_in events) (x.came start first inputs came));
  told = λ start before told.
      subst (λ (e : List Event). link.refused start c e command) (append_assoc before events more) (y.told start (before ++ events) (x.told start before told));
}
