-- A protected command and its reply (GlobalPlatform Amendment D, 6.2).
use Rattle.std.specs.Prelude.{ℕ, ◌-◌, List, length, Option, None, Some, Bool, nat_lt, if◌then◌else◌}
use Rattle.apdu_core.specs.Apdu.{Apdu}
use Rattle.scp03_card.specs.Session.{Session}
use Rattle.scp03_host.specs.Wrapped.{having_sent, room_for, wrapped_command}
use Rattle.scp03_host.specs.declared.refusals.ReplyRefusal.{ReplyRefusal}
use Rattle.scp03_host.specs.declared.refusals.ReplyRefusal.TheVariants as refusal
use Rattle.script_lines.specs.Channel.{channel_number}
use Rattle.script_lines.specs.Command.{command_bytes, turned_at}
use Rattle.script_tool.specs.Host.{Host, own_session, with_own}
use Rattle.script_tool.specs.Printed.{Reply, Said}
use Rattle.script_tool.specs.Talk.{Ends, Plain, Refused, Sends, Taken, Takes, Talk}
use Rattle.script_tool.specs.declared.word.Word.{Word}
use Rattle.script_tool.specs.declared.word.Word.TheVariants.{NoSession, TooLong, Short, Mac, Padding}

-- what is said of a reply that can't be unwrapped
abbrev pub refusal_word : ReplyRefusal → Word
refusal_word refusal.Short = Short
refusal_word refusal.Mac = Mac
refusal_word refusal.Padding = Padding

-- a line that needs a session, with that of the channel
abbrev pub with_some : Option Session → Host → (Session → Talk) → Talk
with_some None host go = Ends (Said NoSession) host
with_some (Some session) host go = go session

abbrev pub for_session : Host → (Session → Talk) → Talk
for_session host go = with_some (own_session host) host go

-- The rest of a line, by the host after a reply that was unwrapped, its body and its status.
abbrev pub Rest : Type 0
Rest = Host → List ℕ → ℕ → Talk

-- a reply that can't be unwrapped ends the session
abbrev pub after_reply : Host → Rest → Taken → Talk
after_reply host rest (Plain body status) = rest host body status
after_reply host rest (Refused why) = Ends (Said (refusal_word why)) (with_own None host)

-- `bad` turns the lowest bit of the first byte of the C-MAC, which is the last eight bytes
abbrev pub with_bad_mac : Bool → List ℕ → List ℕ
with_bad_mac bad bytes = if bad then turned_at (length bytes - 8) bytes else bytes

-- bytes that are sent in a session, and the reply to them
abbrev pub awaiting : Host → Session → List ℕ → Rest → Talk
awaiting host sent bytes rest = Sends bytes (λ reply. Takes sent reply (after_reply (with_own (Some sent) host) rest))

-- a command that is protected by the session
abbrev pub protecting : Host → Session → Bool → Apdu → Rest → Talk
protecting host session bad command rest =
    if nat_lt (room_for session.level) (length command.body) then Ends (Said TooLong) host
    else awaiting host (having_sent session command) (with_bad_mac bad (command_bytes (wrapped_command session command (channel_number host.channel)))) rest

-- a line that sends one command, and prints the reply
abbrev pub printing : Host → List ℕ → ℕ → Talk
printing host body status = Ends (Reply body status) host

abbrev pub sending : Bool → Host → Apdu → Talk
sending bad host command = for_session host (λ session. protecting host session bad command printing)
