-- A line makes few commands.
use Rattle.std.proofs.Common.{◌≤◌, ◌+◌, ◌*◌, ℕ, List, [], ◌∷◌, length, true, false, refl, inl, inr, arith}
use Rattle.script_tool.proofs.FewBlocks.{most_load}
use Rattle.script_tool.proofs.FitsBlocks.{said_fits}
use Rattle.script_tool.proofs.SendsAtMost.{SendsAtMost, goes_most, most_in, most_open, most_plain, most_protecting, most_sending}
use Rattle.script_lines.proofs.WideWords.{load_wide, other_wide, wide, words_wide}
use Rattle.script_lines.specs.Channel.{channel_number}
use Rattle.script_lines.specs.Command.{command_bytes}
use Rattle.script_tool.specs.Count.{FewCommands, command_count}
use Rattle.script_lines.specs.Delete.{deleting}
use Rattle.script_lines.specs.Exchange.{SaysExchange}
use Rattle.script_lines.specs.Extradite.{extraditing}
use Rattle.script_tool.specs.Host.{Host, own_session}
use Rattle.script_tool.specs.InPlain.{after_select}
use Rattle.script_tool.specs.InSession.{printing, protecting}
use Rattle.script_lines.specs.Install.{installing}
use Rattle.script_lines.specs.Life.{changing_life}
use Rattle.script_lines.specs.Line.{SaysQuietly}
use Rattle.script_lines.specs.Listing.{listing_command}
use Rattle.script_tool.specs.Play.{FitsBlocks, playing_control, playing_exchange}
use Rattle.script_tool.specs.Printed.{Nothing}
use Rattle.script_lines.specs.PutKey.{putting_keys}
use Rattle.script_lines.specs.Select.{selecting}
use Rattle.script_lines.specs.Selectable.{making_selectable}
use Rattle.script_lines.specs.Send.{command_of_plain}
use Rattle.script_lines.specs.Store.{storing}
use Rattle.script_tool.specs.Talk.{Ends, Event, Goes, Talk}
use Rattle.script_lines.specs.Words.{words_of}
use Rattle.script_lines.specs.declared.control.Control as the_control
use Rattle.script_lines.specs.declared.control.Control.TheVariants as control
use Rattle.script_lines.specs.declared.exchange.Exchange as the_type
use Rattle.script_lines.specs.declared.exchange.Exchange.TheVariants.{Select, Raw, Open, Send, Bad, Install, Selectable, Extradite, Load, Delete, PutKey, Store, Life, List as Listed, More}
use Rattle.script_lines.specs.declared.line.ScriptLine.TheVariants as line

-- how many commands a line makes at most
abbrev most_of : the_type.Exchange → ℕ
most_of (Load file) = 253
most_of _ = 2

most_exchange : (host : Host) (e : the_type.Exchange) → FitsBlocks e → SendsAtMost (playing_exchange host e) (most_of e)
most_exchange host (Select aid) fits = most_plain 1 2 (omega arith) host (command_bytes (selecting (channel_number host.channel) aid)) after_select (λ after body status. tt)
most_exchange host (Raw bytes) fits = most_plain 1 2 (omega arith) host bytes.items printing (λ after body status. tt)
most_exchange host (Open opening) fits = most_open host opening
most_exchange host (Send command) fits = most_sending false host (command_of_plain command)
most_exchange host (Bad command) fits = most_sending true host (command_of_plain command)
most_exchange host (Install installation) fits = most_sending false host (installing host.tokens installation)
most_exchange host (Selectable aid) fits = most_sending false host (making_selectable host.tokens aid)
most_exchange host (Extradite extradition) fits = most_sending false host (extraditing host.tokens extradition)
most_exchange host (Load file) fits = most_load host file fits
most_exchange host (Delete deletion) fits = most_sending false host (deleting host.tokens deletion)
most_exchange host (PutKey putting) fits =
    most_in 2 (own_session host) host (λ session. protecting host session false (putting_keys session.offer.dek putting) printing)
    (λ session. most_protecting 1 2 (omega arith) host session false (putting_keys session.offer.dek putting) printing (λ after body status. tt))
most_exchange host (Store field) fits = most_sending false host (storing field.items)
most_exchange host (Life change) fits = most_sending false host (changing_life change)
most_exchange host (Listed listing) fits = most_sending false host (listing_command 0x02 listing)
most_exchange host (More listing) fits = most_sending false host (listing_command 0x03 listing)

most_control : (host : Host) (c : the_control.Control) → SendsAtMost (playing_control host c) 0
most_control host control.Reset = tt
most_control host _ = tt

exchange_wide : (words : List (List ℕ)) (e : the_type.Exchange) → SaysExchange words e → most_of e + 60 ≤ 60 * wide words
exchange_wide words (Load file) x = load_wide words file x
exchange_wide words e x = other_wide words e x

quiet_wide : (words : List (List ℕ)) (e : the_type.Exchange) → SaysQuietly words e → most_of e + 60 ≤ 60 * wide words
quiet_wide (mark ∷ words) e x = (let long = exchange_wide words e x.1 in omega (arith, long))
quiet_wide [] e x = absurd x

few_by : (text : List ℕ) (host : Host) (e : the_type.Exchange) (events : List Event) (left : Talk) → most_of e + 60 ≤ 60 * wide (words_of text) → FitsBlocks e
    → Goes (playing_exchange host e) events left → command_count events ≤ 60 * length text
few_by text host e events left long fits goes =
    let most = goes_most (playing_exchange host e) (most_of e) events left (most_exchange host e fits) goes in
    let all = words_wide text in
    omega (arith, most, long, all)

pub few_commands : FewCommands
few_commands text line.Nothing host events left says goes = (let none = goes_most (Ends Nothing host) 0 events left tt goes in omega (arith, none))
few_commands text (line.Control c) host events left says goes =
    (let none = goes_most (playing_control host c) 0 events left (most_control host c) goes in omega (arith, none))
few_commands text (line.Exchange e) host events left says goes =
    few_by text host e events left (exchange_wide (words_of text) e says) (said_fits text (line.Exchange e) e says (inl refl)) goes
few_commands text (line.Quiet e) host events left says goes =
    few_by text host e events left (quiet_wide (words_of text) e says) (said_fits text (line.Quiet e) e says (inr refl)) goes
