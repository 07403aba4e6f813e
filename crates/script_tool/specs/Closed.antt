-- Sessions that end with a reply that can't be opened: nothing more is sent in them (GlobalPlatform Amendment D, 6.2).
use Rattle.std.specs.Prelude.{◌≡◌, ℕ, List, None, Bool, true, false}
use Rattle.scp03_host.specs.declared.refusals.ReplyRefusal.{ReplyRefusal}
use Rattle.script_tool.specs.Host.{Host, own_session}
use Rattle.script_tool.specs.InSession.{refusal_word}
use Rattle.script_tool.specs.Play.{playing, playing_exchange}
use Rattle.script_tool.specs.Printed.{Said}
use Rattle.script_tool.specs.Talk.{Ends, Refused, Resets, Sends, Taken, Takes, Talk}
use Rattle.script_lines.specs.declared.exchange.Exchange as the_exchange
use Rattle.script_lines.specs.declared.exchange.Exchange.TheVariants.{Select, Raw, Open}
use Rattle.script_lines.specs.declared.line.ScriptLine.{ScriptLine}
use Rattle.script_tool.specs.declared.word.Word.TheVariants.{NoSession}

-- Wherever the talk takes a reply to a protected command and can't open it, it ends with a word, and the host has no session on its channel.
abbrev pub EndsAtRefusals : Talk → Type 0
EndsAtRefusals (Ends printed host) = Unit {0}
EndsAtRefusals (Resets rest) = EndsAtRefusals rest
EndsAtRefusals (Sends bytes rest) = (reply : List ℕ) → EndsAtRefusals (rest reply)
EndsAtRefusals (Takes session reply rest) =
    ((why : ReplyRefusal) → (after : Host) × (rest (Refused why) ≡ Ends (Said (refusal_word why)) after) × (own_session after ≡ None))
    × ((taken : Taken) → EndsAtRefusals (rest taken))

-- so it is with each line
abbrev pub RefusalsEnd : Type 0
RefusalsEnd = (host : Host) (said : ScriptLine) → EndsAtRefusals (playing host said)

-- the line sends its commands in a session
abbrev pub is_in_session : the_exchange.Exchange → Bool
is_in_session (Select aid) = false
is_in_session (Raw bytes) = false
is_in_session (Open opening) = false
is_in_session _ = true

-- a host that has no session on its channel sends nothing for such a line, and stays as it is
abbrev pub ClosedIsSilent : Type 0
ClosedIsSilent =
    (host : Host) (exchange : the_exchange.Exchange) → own_session host ≡ None → is_in_session exchange ≡ true
    → playing_exchange host exchange ≡ Ends (Said NoSession) host
