-- A command that is sent as it is, and its reply (ISO/IEC 7816-4:2013, chapter 5).
use Rattle.std.specs.Prelude.{ℕ, ◌-◌, List, length, take, Bool, nat_lt, ◌==◌, ◌||◌, None, Option, if◌then◌else◌}
use Rattle.scp03_host.specs.Unwrapped.{status_in}
use Rattle.script_lines.specs.Channel.{channel_number}
use Rattle.script_lines.specs.Command.{command_bytes}
use Rattle.script_tool.specs.Host.{Host, with_own}
use Rattle.script_tool.specs.InSession.{printing}
use Rattle.script_tool.specs.Printed.{Reply, Said}
use Rattle.script_lines.specs.Select.{selecting}
use Rattle.script_tool.specs.Talk.{Ends, Sends, Talk}
use Rattle.script_tool.specs.declared.word.Word.TheVariants.{Short}

-- what stands before the status of a reply
abbrev pub body_in : List ℕ → List ℕ
body_in reply = take (length reply - 2) reply

-- a reply has a body and a status, or is too short
abbrev pub reading : Host → List ℕ → (Host → List ℕ → ℕ → Talk) → Talk
reading host reply rest = if nat_lt (length reply) 2 then Ends (Said Short) host else rest host (body_in reply) (status_in reply)

abbrev pub send_in_plain : Host → List ℕ → (Host → List ℕ → ℕ → Talk) → Talk
send_in_plain host bytes rest = Sends bytes (λ reply. reading host reply rest)

-- `raw`: the sessions stay
abbrev pub playing_raw : Host → List ℕ → Talk
playing_raw host bytes = send_in_plain host bytes printing

-- an application was selected, on a locked card too
abbrev pub has_selected : ℕ → Bool
has_selected status = status == 0x9000 || status == 0x6283

-- the reply to a SELECT ends the line, and the session of the channel where an application was selected
abbrev pub after_select : Host → List ℕ → ℕ → Talk
after_select host body status = Ends (Reply body status) (if has_selected status then with_own None host else host)

-- `select`
abbrev pub playing_select : Host → Option (List ℕ) → Talk
playing_select host aid = send_in_plain host (command_bytes (selecting (channel_number host.channel) aid)) after_select
