-- How many commands a host sends at most.
use Rattle.std.proofs.Common.{◌≤◌, ◌<◌, ℕ, List, [], ◌∷◌, length, Option, None, Some, Bool, true, false, nat_lt, ◌==◌, bytes_eq, if◌then◌else◌, sym, subst, inl, inr, arith}
use Rattle.apdu_core.specs.Apdu.{Apdu}
use Rattle.scp03_card.specs.Offer.{Offer, card_cryptogram}
use Rattle.scp03_card.specs.Session.{Session}
use Rattle.scp03_host.specs.Begin.{answer_to, cryptogram_in}
use Rattle.scp03_host.specs.Wrapped.{having_sent, room_for, wrapped_command}
use Rattle.script_lines.specs.Channel.{channel_number}
use Rattle.script_lines.specs.Command.{command_bytes}
use Rattle.script_tool.specs.Count.{command_count}
use Rattle.script_tool.specs.Host.{Host, own_session, with_own}
use Rattle.script_tool.specs.InPlain.{body_in, send_in_plain}
use Rattle.script_tool.specs.InSession.{Rest, after_reply, awaiting, protecting, printing, sending, with_bad_mac, with_some}
use Rattle.script_tool.specs.Opening.{after_authenticate, after_update, authenticating, counter_in, offer_under, offered_by, playing_open, updating, with_field}
use Rattle.script_tool.specs.Printed.{Cryptogram, Reply, Said}
use Rattle.script_tool.specs.Talk.{Answered, Ends, Event, Goes, Plain, Refused, Reset, Resets, Sends, Taken, Takes, Talk}
use Rattle.script_lines.specs.declared.opening.Opening.{Opening}
use Rattle.script_tool.specs.declared.word.Word.TheVariants.{Short, TooLong}
use Rattle.scp03_host.specs.Unwrapped.{status_in}

-- however a card answers, the talk sends at most so many commands
abbrev pub SendsAtMost : Talk → ℕ → Type 0
SendsAtMost (Ends printed host) n = Unit {0}
SendsAtMost (Resets rest) n = SendsAtMost rest n
SendsAtMost (Sends bytes rest) n = (m : ℕ) × (m < n) × ((reply : List ℕ) → SendsAtMost (rest reply) m)
SendsAtMost (Takes session reply rest) n = (taken : Taken) → SendsAtMost (rest taken) n

pub goes_most : (talk : Talk) (n : ℕ) (events : List Event) (left : Talk) → SendsAtMost talk n → Goes talk events left → command_count events ≤ n
goes_most (Ends printed host) n [] left most goes = omega arith
goes_most (Ends printed host) n (event ∷ events) left most goes = absurd goes
goes_most (Resets rest) n [] left most goes = omega arith
goes_most (Resets rest) n (Reset ∷ events) left most goes = goes_most rest n events left most goes
goes_most (Resets rest) n (Answered command reply ∷ events) left most goes = absurd goes
goes_most (Sends bytes rest) n [] left most goes = omega arith
goes_most (Sends bytes rest) n (Reset ∷ events) left most goes = absurd goes
goes_most (Sends bytes rest) n (Answered command reply ∷ events) left most goes =
    let more : command_count events ≤ most.0 = goes_most (rest reply) most.0 events left (most.2 reply) goes.1 in
    let less : most.0 < n = most.1 in
    omega (arith, more, less)
goes_most (Takes session reply rest) n events left most (inl none) = subst (λ (es : List Event). command_count es ≤ n) (sym none.0) (omega arith)
goes_most (Takes session reply rest) n events left most (inr some) = goes_most (rest some.0) n events left (most some.0) some.2

-- one talk or another
pub most_if : (n : ℕ) (b : Bool) (one other : Talk) → SendsAtMost one n → SendsAtMost other n → SendsAtMost (if b then one else other) n
most_if n true one other x y = x
most_if n false one other x y = y

-- what goes on by each reply, and sends so many more
abbrev pub RestSends : Rest → ℕ → Type 0
RestSends rest n = (host : Host) (body : List ℕ) (status : ℕ) → SendsAtMost (rest host body status) n

pub most_plain : (m n : ℕ) → m < n → (host : Host) (bytes : List ℕ) (rest : Rest) → RestSends rest m → SendsAtMost (send_in_plain host bytes rest) n
most_plain m n less host bytes rest most = (
  m,
  less,
  λ reply. most_if m (nat_lt (length reply) 2) (Ends (Said Short) host) (rest host (body_in reply) (status_in reply)) tt (most host (body_in reply) (status_in reply)),
)

pub most_in : (n : ℕ) (own : Option Session) (host : Host) (go : Session → Talk) → ((session : Session) → SendsAtMost (go session) n) → SendsAtMost (with_some own host go) n
most_in n None host go most = tt
most_in n (Some session) host go most = most session

most_reply : (n : ℕ) (host : Host) (rest : Rest) → RestSends rest n → (taken : Taken) → SendsAtMost (after_reply host rest taken) n
most_reply n host rest most (Plain body status) = most host body status
most_reply n host rest most (Refused why) = tt

most_awaiting : (m n : ℕ) → m < n → (host : Host) (sent : Session) (bytes : List ℕ) (rest : Rest) → RestSends rest m → SendsAtMost (awaiting host sent bytes rest) n
most_awaiting m n less host sent bytes rest most = (m, less, λ reply taken. most_reply m (with_own (Some sent) host) rest most taken)

pub most_protecting : (m n : ℕ) → m < n → (host : Host) (session : Session) (bad : Bool) (command : Apdu) (rest : Rest) → RestSends rest m
    → SendsAtMost (protecting host session bad command rest) n
most_protecting m n less host session bad command rest most =
    let sent : Session = having_sent session command in
    let bytes : List ℕ = with_bad_mac bad (command_bytes (wrapped_command session command (channel_number host.channel))) in
    most_if n (nat_lt (room_for session.level) (length command.body)) (Ends (Said TooLong) host) (awaiting host sent bytes rest) tt
    (most_awaiting m n less host sent bytes rest most)

-- one command
pub most_sending : (bad : Bool) (host : Host) (command : Apdu) → SendsAtMost (sending bad host command) 2
most_sending bad host command =
    most_in 2 (own_session host) host (λ session. protecting host session bad command printing)
    (λ session. most_protecting 1 2 (omega arith) host session bad command printing (λ after body status. tt))

-- two to open a session
most_authenticating : (host : Host) (o : Opening) (offer : Offer) (counter : List ℕ) → SendsAtMost (authenticating host o offer counter) 1
most_authenticating host o offer counter =
    most_plain 0 1 (omega arith) host (command_bytes (answer_to offer o.level (channel_number host.channel))) (after_authenticate o offer counter) (λ after body status. tt)

most_offered : (host : Host) (o : Opening) (field : List ℕ) → SendsAtMost (offered_by host o field) 1
most_offered host o field =
    let offer : Offer = offer_under host.keys o.challenge field in
    most_if 1 (bytes_eq (cryptogram_in field) (card_cryptogram offer)) (authenticating host o offer (counter_in field)) (Ends (Cryptogram (counter_in field)) host)
    (most_authenticating host o offer (counter_in field)) tt

most_updated : (o : Opening) (host : Host) (field : List ℕ) (status : ℕ) → SendsAtMost (after_update o host field status) 1
most_updated o host field status =
    let fresh : Host = with_own None host in
    most_if 1 (status == 0x9000) (with_field fresh o field) (Ends (Reply [] status) host)
    (most_if 1 (length field == 32) (offered_by fresh o field) (Ends (Said Short) fresh) (most_offered fresh o field) tt) tt

pub most_open : (host : Host) (o : Opening) → SendsAtMost (playing_open host o) 2
most_open host o = most_plain 1 2 (omega arith) host (command_bytes (updating (channel_number host.channel) o)) (after_update o) (most_updated o)
