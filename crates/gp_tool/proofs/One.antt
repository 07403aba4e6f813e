-- One line of a verb.
use Rattle.std.proofs.Common.{◌≡◌, ℕ, Bool, true, false, List, refl, sym, ap, subst, ◌∙◌, inl, inr}
use Rattle.std.specs.Prelude.{Contains, map}
use Rattle.card_types.proofs.Members.{contains_first}
use Rattle.policy_machine.proofs.OneOutcome.{one_run}
use Rattle.policy_machine.specs.Run.{Input, Run}
use Rattle.policy_machine.specs.State.{State}
use Rattle.policy_machine.specs.Step.{Outcome}
use Rattle.gp_tool.proofs.Moments.{run_ends}
use Rattle.gp_tool.proofs.Scripts.{answers_end, script_once}
use Rattle.gp_tool.proofs.Spelled.{spells_once, no_card_wants, wants_once}
use Rattle.gp_tool.specs.Device.{registries}
use Rattle.gp_tool.specs.Effects.{LineEffect, LinePlace}
use Rattle.gp_tool.specs.Form.{SpellsInputs}
use Rattle.gp_tool.specs.Replay.{Compares, IsCompared, KeepsReplies, LastReply, kept_after}
use Rattle.gp_tool.specs.Replies.{Replies, reply_line}
use Rattle.gp_tool.specs.RunsLines.{HasForm, Memory, PlaysLine}
use Rattle.gp_tool.specs.declared.verb.Verb.{Verb}
use Rattle.gp_tool.specs.declared.verb.Verb.TheVariants.{Run as run, Why as why, Replay as replay, Play as play}

-- a line that was played has a form
pub plays_form : (verb : Verb) (number : ℕ) (line : List ℕ) (at next : LinePlace (Memory verb)) (effect : LineEffect) → PlaysLine verb number line at effect next → HasForm verb line at.memory
plays_form replay number line at next effect (inl keeps) = inl (keeps.0, keeps.1)
plays_form replay number line at next effect (inr compared) = inr (compared.0, compared.1, compared.2)
plays_form _ number line at next effect plays = (plays.0, plays.1)

-- two effects, and two places
abbrev pub Same : {M : Type 0} → LineEffect → LineEffect → LinePlace M → LinePlace M → Type 0
Same one other next another = (one ≡ other) × (next ≡ another)

-- effects and places are the same where their parts are
same_parts : {M : Type 0} (one other : LineEffect) (next another : LinePlace M)
    → one.outcomes ≡ other.outcomes → one.texts ≡ other.texts → one.differs ≡ other.differs → next.memory ≡ another.memory → next.state ≡ another.state
    → Same one other next another
same_parts one other next another outcomes texts differs memory state =
    (λ i. record { outcomes = outcomes i; texts = texts i; differs = differs i }, λ i. record { memory = memory i; state = state i })

-- what a line gives a card has one outcome
gives_once : (line : List ℕ) (state last another : State) (inputs others : List Input) (some more : List Outcome)
    → SpellsInputs line inputs → Run state inputs some last → SpellsInputs line others → Run state others more another
    → (inputs ≡ others) × (some ≡ more) × (last ≡ another)
gives_once line state last another inputs others some more spells one again other =
    let same = spells_once line others inputs again spells in
    let played = one_run state inputs some more last another one (subst (λ (i : List Input). Run state i more another) same other) in
    (sym same, played.0, played.1)

replies_once : (explains : Bool) (line : List ℕ) (at next another : LinePlace (Unit {0})) (one other : LineEffect)
    → Replies explains line at one next → Replies explains line at other another → Same one other next another
replies_once explains line at next another one other plays again =
    let same = gives_once line at.state next.state another.state plays.0 again.0 one.outcomes other.outcomes plays.1 plays.2 again.1 again.2 in
    same_parts one other next another same.1 (plays.3 ∙ ap (map (reply_line explains)) same.1 ∙ sym again.3) (plays.4 ∙ sym again.4) refl same.2

keeps_once : (line : List ℕ) (at next another : LinePlace LastReply) (one other : LineEffect) → KeepsReplies line at one next → KeepsReplies line at other another → Same one other next another
keeps_once line at next another one other plays again =
    let same = gives_once line at.state next.state another.state plays.0 again.0 one.outcomes other.outcomes plays.1 plays.2 again.1 again.2 in
    same_parts one other next another same.1 (plays.3 ∙ sym again.3) (plays.4 ∙ sym again.4)
    (plays.5 ∙ ap (λ i. kept_after at.memory i one.outcomes) same.0 ∙ ap (kept_after at.memory again.0) same.1 ∙ sym again.5) same.2

compares_once : (number : ℕ) (want got : List ℕ) (one other : LineEffect) → Compares number want got one → Compares number want got other → one ≡ other
compares_once number want got one other (inl same) (inl again) = same.1 ∙ sym again.1
compares_once number want got one other (inl same) (inr differs) = absurd (differs.0 same.0)
compares_once number want got one other (inr differs) (inl same) = absurd (differs.0 same.0)
compares_once number want got one other (inr differs) (inr again) = differs.1 ∙ sym again.1

compared_once : (number : ℕ) (line : List ℕ) (at next another : LinePlace LastReply) (one other : LineEffect) → IsCompared number line at one next → IsCompared number line at other another → Same one other next another
compared_once number line at next another one other (want, got, meets, compares, is) (want', got', meets', compares', is') =
    let same_want = wants_once line want' want meets'.0 meets.0 in
    let same_got : got' ≡ got = cc (meets.1, meets'.1) in (
      compares_once number want got one other compares
          (subst (λ (g : List ℕ). Compares number want g other) same_got (subst (λ (w : List ℕ). Compares number w got' other) same_want compares')),
      is ∙ sym is',
    )

-- a line does one thing
pub line_once : (verb : Verb) (number : ℕ) (line : List ℕ) (at next another : LinePlace (Memory verb)) (one other : LineEffect)
    → PlaysLine verb number line at one next → PlaysLine verb number line at other another → Same one other next another
line_once run number line at next another one other plays again = replies_once false line at next another one other plays again
line_once why number line at next another one other plays again = replies_once true line at next another one other plays again
line_once replay number line at next another one other (inl keeps) (inl again) = keeps_once line at next another one other keeps again
line_once replay number line at next another one other (inl keeps) (inr compared) = absurd (no_card_wants line keeps.0 compared.0 keeps.1 compared.2.0)
line_once replay number line at next another one other (inr compared) (inl keeps) = absurd (no_card_wants line keeps.0 compared.0 keeps.1 compared.2.0)
line_once replay number line at next another one other (inr compared) (inr again) = compared_once number line at next another one other compared again
line_once play number line at next another one other plays again =
    let same = script_once line at next another one other plays again in
    same_parts one other next another same.outcomes same.texts same.differs same.memory same.state

-- the registry after a line is one of the run's
pub line_ends : (verb : Verb) (number : ℕ) (line : List ℕ) (at next : LinePlace (Memory verb)) (effect : LineEffect)
    → PlaysLine verb number line at effect next → Contains (registries at.state effect.outcomes) next.state.registry
line_ends run number line at next effect plays = run_ends at.state plays.0 effect.outcomes next.state plays.2
line_ends why number line at next effect plays = run_ends at.state plays.0 effect.outcomes next.state plays.2
line_ends replay number line at next effect (inl keeps) = run_ends at.state keeps.0 effect.outcomes next.state keeps.2
line_ends replay number line at next effect (inr (want, got, meets, compares, is)) =
    subst (λ (place : LinePlace LastReply). Contains (registries at.state effect.outcomes) place.state.registry) (sym is) (contains_first at.state.registry _)
line_ends play number line at next effect plays = answers_end at.state plays.2 effect.outcomes next.state plays.6
