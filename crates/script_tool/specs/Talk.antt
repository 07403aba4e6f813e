-- A host and a card, one after the other.
use Rattle.std.specs.Prelude.{◌≡◌, ◌⊎◌, ℕ, List, [], ◌∷◌}
use Rattle.scp03_card.specs.Session.{Session}
use Rattle.scp03_host.specs.Unwrapped.{HasRightMac, IsTooShort, Unwraps}
use Rattle.scp03_host.specs.declared.refusals.ReplyRefusal.{ReplyRefusal}
use Rattle.scp03_host.specs.declared.refusals.ReplyRefusal.TheVariants.{Short, Mac, Padding}
use Rattle.script_tool.specs.Host.{Host}
use Rattle.script_tool.specs.Printed.{Printed}

-- what the host takes the reply to a protected command for: a body and a status, or nothing, and why
pub data Taken : Type 0 where
  Plain : List ℕ → ℕ → Taken
  Refused : ReplyRefusal → Taken

-- why a reply is refused
abbrev pub IsWhy : Session → List ℕ → ReplyRefusal → Type 0
IsWhy session reply Short = IsTooShort session reply
IsWhy session reply Mac = (IsTooShort session reply → ⊥) × (HasRightMac session reply → ⊥)
IsWhy session reply Padding = (IsTooShort session reply → ⊥) × HasRightMac session reply

-- A reply is taken for what a card sends, or refused where no card sends it. The session's last message is that of the command.
abbrev pub IsReplyTaken : Session → List ℕ → Taken → Type 0
IsReplyTaken session reply (Plain body status) = Unwraps session reply body status
IsReplyTaken session reply (Refused why) = ((body : List ℕ) (status : ℕ) → Unwraps session reply body status → ⊥) × IsWhy session reply why

-- What a host does: it has printed, and is ready for the next line; or it resets the card and goes on; or it sends bytes and goes on
-- by the reply; or it takes a reply for what it is and goes on by that.
pub data Talk : Type 0 where
  Ends : Printed → Host → Talk
  Resets : Talk → Talk
  Sends : List ℕ → (List ℕ → Talk) → Talk
  Takes : Session → List ℕ → (Taken → Talk) → Talk

-- what a card is given and what it answers: a reset, or a command and its reply
pub data Event : Type 0 where
  Reset : Event
  Answered : List ℕ → List ℕ → Event

-- After these events this is what is left of a talk.
abbrev pub Goes : Talk → List Event → Talk → Type 0
Goes (Ends printed host) [] left = left ≡ Ends printed host
Goes (Ends printed host) (event ∷ events) left = ⊥
Goes (Resets rest) [] left = left ≡ Resets rest
Goes (Resets rest) (Reset ∷ events) left = Goes rest events left
Goes (Resets rest) (Answered command reply ∷ events) left = ⊥
Goes (Sends bytes rest) [] left = left ≡ Sends bytes rest
Goes (Sends bytes rest) (Reset ∷ events) left = ⊥
Goes (Sends bytes rest) (Answered command reply ∷ events) left = (command ≡ bytes) × Goes (rest reply) events left
Goes (Takes session reply rest) events left =
    ((events ≡ []) × (left ≡ Takes session reply rest)) ⊎ ((taken : Taken) × IsReplyTaken session reply taken × Goes (rest taken) events left)
