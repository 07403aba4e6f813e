-- A command's own rules: what they look at, and which commands come to them.
use Rattle.std.specs.Prelude.{◌≡◌, ◌≢◌, ℕ, List, Option, Some, map, true}
use Rattle.std.specs.Option.{option_map}
use Rattle.apdu_core.specs.Apdu.{Apdu, Short}
use Rattle.card_types.specs.declared.card_life.CardLife.TheVariants.{Terminated}
use Rattle.policy_machine.specs.Admission.{Admitted, admitted_as, session_for}
use Rattle.policy_machine.specs.Classes.{IsKnown, is_protected}
use Rattle.policy_machine.specs.Commands.{Judges}
use Rattle.policy_machine.specs.Sound.{IsSound}
use Rattle.policy_machine.specs.State.{State, Channel, Volatile, channel_at, place_in}
use Rattle.policy_machine.specs.Step.{Outcome, Step}
use Rattle.policy_machine.specs.declared.instruction.TheConstants.{EXTERNAL_AUTHENTICATE, PUT_KEY}
use Rattle.policy_machine.specs.declared.rule.Rule.{Rule}
use Rattle.scp03_card.specs.Opens.{Opens, accepting}
use Rattle.scp03_card.specs.Session.{Session}

-- what a channel has selected, if it is open
abbrev pub selection_of : Option Channel → Option (List ℕ)
selection_of channel = option_map (λ (opened : Channel). opened.selected) channel

-- the AIDs that are selected on the open channels
abbrev pub selections : Volatile → List (Option (List ℕ))
selections volatile = map selection_of volatile.channels

-- Two commands that have passed are alike in all that their own rules look at but for what a session or an offer keeps. Of the card
-- before them the place in a listing counts alone. Class and Le are not looked at.
pub record AreAlike (a b : Admitted) : Type 0 where
  pub registry : a.at.registry ≡ b.at.registry
  pub channel : a.channel ≡ b.channel
  pub ins : a.command.ins ≡ b.command.ins
  pub p1 : a.command.p1 ≡ b.command.p1
  pub p2 : a.command.p2 ≡ b.command.p2
  pub body : a.command.body ≡ b.command.body
  pub selected : selections a.at.volatile ≡ selections b.at.volatile
  pub load : a.at.volatile.load ≡ b.at.volatile.load
  pub place : place_in (channel_at a.before.volatile a.channel) ≡ place_in (channel_at b.before.volatile b.channel)

-- such commands are judged alike, but for PUT KEY and EXTERNAL AUTHENTICATE, whose rules look at keys of the session or the offer
abbrev pub AlikeAreJudgedAlike : Type 0
AlikeAreJudgedAlike =
    (a b : Admitted) → AreAlike a b → a.command.ins ≢ PUT_KEY → a.command.ins ≢ EXTERNAL_AUTHENTICATE → (found : Option Rule) → Judges a found → Judges b found

-- A protected command that opens in the session of its channel, on a card that is not terminated, comes to its own rules: the rule of the
-- step is the first of these that fails, or none.
abbrev pub OpenedAreJudged : Type 0
OpenedAreJudged =
    (state : State) → IsSound state → state.registry.life ≢ Terminated
    → (bytes : List ℕ) (sent : Apdu) (session : Session) (field : List ℕ) → Short sent bytes → is_protected sent ≡ true → session_for state sent ≡ Some session
    → Opens session sent field → IsKnown sent.class sent.ins → (outcome : Outcome) → Step state bytes outcome
    → Judges (admitted_as state sent (Some (accepting session sent)) field) outcome.rule
