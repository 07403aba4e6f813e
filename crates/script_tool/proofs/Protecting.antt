-- A protected command that is sent, and its reply.
use Rattle.std.proofs.Common.{◌≡◌, ◌↔◌, ◌≤◌, ◌<◌, ℕ, List, [], ◌∷◌, length, Option, None, Some, Bool, true, false, ltb, nat_lt, Result, Ok, Err, refl, sym, subst, ap, ◌∙◌, inr, arith}
use Rattle.std.specs.Prelude.{IsErr}
use Rattle.std.proofs.lemmas.Bool.{le-ltb, lt-ltb, ltb-false, ltb-true}
use Rattle.std.proofs.lemmas.List.{length-append}
use Rattle.apdu_core.specs.Apdu.{Apdu, Short, after_header, header}
use Rattle.scp03_card.proofs.Lengths.{length-c_mac}
use Rattle.scp03_card.specs.Session.{Session, c_mac}
use Rattle.scp03_host.specs.Wrapped.{having_sent, message_of, room_for, sent_field, wrapped_command}
use Rattle.scp03_host.specs.declared.refusals.ReplyRefusal.{ReplyRefusal}
use Rattle.script_tool.proofs.HostRules.{own_twice}
use Rattle.script_tool.proofs.TalkRules.{goes_nothing}
use Rattle.script_lines.specs.Channel.{channel_number}
use Rattle.script_lines.specs.Command.{command_bytes}
use Rattle.script_tool.specs.Host.{Host, own_session, with_own}
use Rattle.script_tool.specs.InSession.{after_reply, awaiting, for_session, protecting, refusal_word, with_bad_mac, with_some}
use Rattle.script_tool.specs.Kept.{RepresentsHost}
use Rattle.script_tool.specs.Link.{Conveys}
use Rattle.script_tool.specs.Played.{Continues, IsPlayed, Leads}
use Rattle.script_tool.specs.Printed.{Said}
use Rattle.script_tool.specs.Talk.{Answered, Ends, IsReplyTaken, Refused, Taken, Talk}
use Rattle.script_tool.specs.declared.host_state.HostState.{HostState}
use Rattle.script_tool.specs.declared.link.CardLink.{Ghosts as CardLink}
use Rattle.script_tool.specs.declared.link.LinkFailed.{LinkFailed}
use Rattle.script_tool.specs.declared.printout.Printout.{Printout}
use Rattle.script_tool.specs.declared.word.Word.{Word}
use Rattle.script_tool.specs.declared.word.Word.TheVariants.{TooLong}

after_long : (body : List ℕ) (le : Option ℕ) → length body ≤ length (after_header body le)
after_long [] le = omega arith
after_long (b ∷ bs) None = omega arith
after_long (b ∷ bs) (Some le) = omega (arith, length-append (b ∷ bs) (le ∷ []))

spelled_long : (c : Apdu) → length c.body ≤ length (command_bytes c)
spelled_long c = omega (arith, length-append (header c) (after_header c.body c.le), after_long c.body c.le)

wrapped_long : (kept : Session) (command : Apdu) (channel : ℕ) → 8 ≤ length (command_bytes (wrapped_command kept command channel))
wrapped_long kept command channel =
    omega (arith, spelled_long (wrapped_command kept command channel), length-append (sent_field kept command.body) (c_mac (having_sent kept command)), length-c_mac kept (message_of kept command))

pub not_refused : {A E : Type 0} {ok : A} (result : Result A E) → result ≡ Ok ok → IsErr result → ⊥
not_refused result is e = cc

pub was_refused : {A E : Type 0} {e : E} (result : Result A E) → result ≡ Err e → IsErr result
was_refused (Ok done) is = cc is
was_refused (Err refused) is = refl

fits_by : (refused : Type 0) (room size : ℕ) (b : Bool) → ltb room size ≡ b → refused ↔ (room < size) → (refused → ⊥) → size ≤ room
fits_by refused room size true e iff h = absurd (h (iff.1 (ltb-true room size e)))
fits_by refused room size false e iff h = ltb-false room size e

-- what was not refused fits
pub fits_room : (refused : Type 0) (room size : ℕ) → refused ↔ (room < size) → (refused → ⊥) → size ≤ room
fits_room refused room size = fits_by refused room size (ltb room size) refl

-- the bytes that are sent, where they are those that were wrapped, spoiled if they are to be
pub spoiled_sent : (kept : Session) (command : Apdu) (channel : ℕ) (bad : Bool) (bytes sent : List ℕ) → Short (wrapped_command kept command channel) bytes
    → (8 ≤ length bytes → sent ≡ with_bad_mac bad bytes) → sent ≡ with_bad_mac bad (command_bytes (wrapped_command kept command channel))
spoiled_sent kept command channel bad bytes sent short is =
    is (omega (arith, ap length short.spelling, wrapped_long kept command channel)) ∙ ap (λ (b : List ℕ). with_bad_mac bad b) short.spelling

-- a data field that fits is sent
pub protecting_sends : (whole : Host) (kept : Session) (bad : Bool) (command : Apdu) (rest : Host → List ℕ → ℕ → Talk) (sent : List ℕ)
    → length command.body ≤ room_for kept.level → sent ≡ with_bad_mac bad (command_bytes (wrapped_command kept command (channel_number whole.channel)))
    → awaiting whole (having_sent kept command) sent rest ≡ protecting whole kept bad command rest
protecting_sends whole kept bad command rest sent fits is =
    let e : nat_lt (room_for kept.level) (length command.body) ≡ false = le-ltb (room_for kept.level) (length command.body) fits in
    ap (λ (bytes : List ℕ). awaiting whole (having_sent kept command) bytes rest) is ∙ sym (rw (e) refl)

-- one that does not fit is not
pub protecting_ends : (whole : Host) (kept : Session) (bad : Bool) (command : Apdu) (rest : Host → List ℕ → ℕ → Talk) → room_for kept.level < length command.body
    → protecting whole kept bad command rest ≡ Ends (Said TooLong) whole
protecting_ends whole kept bad command rest long =
    let e : nat_lt (room_for kept.level) (length command.body) ≡ true = lt-ltb (room_for kept.level) (length command.body) long in
    rw e refl

-- the reply was taken for what it is
pub reply_taken : {L : Type 0} (link : CardLink L) (old new : L) (whole : Host) (sent : Session) (bytes : List ℕ) (rest : Host → List ℕ → ℕ → Talk)
    (reply : List ℕ) (taken : Taken) → Conveys link old new (Answered bytes reply ∷ []) → IsReplyTaken sent reply taken
    → Leads link old new (awaiting whole sent bytes rest) (after_reply (with_own (Some sent) whole) rest taken)
reply_taken link old new whole sent bytes rest reply taken conveyed is = record {
  events = Answered bytes reply ∷ [];
  goes = (refl, inr (taken, is, goes_nothing (after_reply (with_own (Some sent) whole) rest taken)));
  conveyed = conveyed;
}

-- a reply that can't be unwrapped ends the session
pub refused_played : {L : Type 0} (link : CardLink L) (old new : L) (talk : Talk) (host : HostState) (whole : Host) (session : Session)
    (rest : Host → List ℕ → ℕ → Talk) (why : ReplyRefusal) (word : Word) → word ≡ refusal_word why → RepresentsHost host (with_own None whole)
    → Leads link old new talk (after_reply (with_own (Some session) whole) rest (Refused why)) → IsPlayed link old new talk (Said word) host
refused_played link old new talk host whole session rest why word is represents leads = record {
  host = with_own None whole;
  leads = subst (λ (w : Word). Leads link old new talk (Ends (Said w) (with_own None whole))) (sym is)
      (subst (λ (h : Host). Leads link old new talk (Ends (Said (refusal_word why)) h)) (own_twice None (Some session) whole) leads);
  stands = represents;
}

-- a line that needs a session goes on by that of the host's channel
pub own_goes : {L : Type 0} (link : CardLink L) (old new : L) (whole : Host) (session : Session) (go : Session → Talk) (rest : Host → List ℕ → ℕ → Talk)
    (kept : HostState) (result : Result Printout LinkFailed) → own_session whole ≡ Some session → Continues link old new (for_session whole go) rest kept result
    → Continues link old new (go session) rest kept result
own_goes link old new whole session go rest kept result own goes =
    subst (λ (o : Option Session). Continues link old new (with_some o whole go) rest kept result) own goes
