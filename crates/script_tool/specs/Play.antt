-- What a host does for a line: what it sends, and what it prints.
use Rattle.std.specs.Prelude.{ℕ, ◌≤◌, length, Option, None, Some, false, true, ◌==◌, if◌then◌else◌}
use Rattle.apdu_core.specs.declared.reply.Status.{Status}
use Rattle.script_lines.specs.Delete.{deleting}
use Rattle.script_lines.specs.Extradite.{extraditing}
use Rattle.script_tool.specs.Host.{Host, after_reset, host_on_channel, with_host_keys, with_last, with_tokens}
use Rattle.script_tool.specs.InPlain.{playing_raw, playing_select}
use Rattle.script_tool.specs.InSession.{for_session, printing, protecting, sending}
use Rattle.script_lines.specs.Install.{installing}
use Rattle.script_lines.specs.Life.{changing_life}
use Rattle.script_lines.specs.Listing.{listing_command}
use Rattle.script_lines.specs.Load.{content_bytes}
use Rattle.script_tool.specs.Loading.{playing_load}
use Rattle.script_tool.specs.Opening.{playing_open}
use Rattle.script_tool.specs.Printed.{Differs, Nothing, Printed}
use Rattle.script_lines.specs.PutKey.{putting_keys}
use Rattle.script_lines.specs.Selectable.{making_selectable}
use Rattle.script_lines.specs.Send.{command_of_plain}
use Rattle.script_lines.specs.Store.{storing}
use Rattle.script_tool.specs.Talk.{Ends, Resets, Talk}
use Rattle.script_lines.specs.declared.control.Control as the_control
use Rattle.script_lines.specs.declared.control.Control.TheVariants.{Reset, Channel, Keys, Tokens, Want}
use Rattle.script_lines.specs.declared.exchange.Exchange as the_exchange
use Rattle.script_lines.specs.declared.exchange.Exchange.TheVariants.{Select, Raw, Open, Send, Bad, Install, Selectable, Extradite, Load, Delete, PutKey, Store, Life, List as First, More}
use Rattle.script_lines.specs.declared.line.ScriptLine.{ScriptLine}
use Rattle.script_lines.specs.declared.line.ScriptLine.TheVariants as line
use Rattle.script_lines.specs.declared.put_key.Putting.{Putting}

-- `putkey`: the keys are enciphered under the Key-DEK of the session
abbrev pub playing_put_key : Host → Putting → Talk
playing_put_key host p = for_session host (λ session. protecting host session false (putting_keys session.offer.dek p) printing)

abbrev pub playing_exchange : Host → the_exchange.Exchange → Talk
playing_exchange host (Select aid) = playing_select host aid
playing_exchange host (Raw bytes) = playing_raw host bytes.items
playing_exchange host (Open opening) = playing_open host opening
playing_exchange host (Send command) = sending false host (command_of_plain command)
playing_exchange host (Bad command) = sending true host (command_of_plain command)
playing_exchange host (Install installation) = sending false host (installing host.tokens installation)
playing_exchange host (Selectable aid) = sending false host (making_selectable host.tokens aid)
playing_exchange host (Extradite extradition) = sending false host (extraditing host.tokens extradition)
playing_exchange host (Load file) = playing_load host file
playing_exchange host (Delete deletion) = sending false host (deleting host.tokens deletion)
playing_exchange host (PutKey putting) = playing_put_key host putting
playing_exchange host (Store field) = sending false host (storing field.items)
playing_exchange host (Life change) = sending false host (changing_life change)
playing_exchange host (First listing) = sending false host (listing_command 0x02 listing)
playing_exchange host (More listing) = sending false host (listing_command 0x03 listing)

-- a file makes no more blocks than LOAD can number: no line has a longer one
abbrev pub FitsBlocks : the_exchange.Exchange → Type 0
FitsBlocks (Load file) = length (content_bytes file.content) ≤ 60_000
FitsBlocks _ = Unit {0}

-- whether a status is the one that was printed last
abbrev pub wanting : Option Status → ℕ → Printed
wanting None want = Differs want None
wanting (Some got) want = if want == got.0 then Nothing else Differs want (Some got.0)

abbrev pub playing_control : Host → the_control.Control → Talk
playing_control host Reset = Resets (Ends Nothing (after_reset host))
playing_control host (Channel channel) = Ends Nothing (host_on_channel channel host)
playing_control host (Keys keys) = Ends Nothing (with_host_keys keys host)
playing_control host (Tokens tokens) = Ends Nothing (with_tokens tokens host)
playing_control host (Want status) = Ends (wanting host.last status.0) host

abbrev pub playing : Host → ScriptLine → Talk
playing host line.Nothing = Ends Nothing host
playing host (line.Control control) = playing_control host control
playing host (line.Exchange exchange) = playing_exchange host exchange
playing host (line.Quiet exchange) = playing_exchange host exchange

-- the host remembers the status that it printed
abbrev pub remembering : Option Status → Host → Host
remembering None host = host
remembering (Some status) host = with_last (Some status) host
