-- Sessions that are opened.
use Rattle.std.proofs.Common.{◌≡◌, ℕ, List, [], length, None, Some, Bool, true, false, Result, Ok, Err, refl, sym, subst, ap, ◌∙◌}
use Rattle.std.specs.Prelude.{◌==◌, bytes_eq, if◌then◌else◌}
use Rattle.std.proofs.lemmas.Bool.{eq-eqb}
use Rattle.std.proofs.lemmas.Slice.Eq.{bytes_eq-Decides}
use Rattle.apdu_core.specs.Apdu.{Short as Spelled}
use Rattle.apdu_core.specs.declared.reply.Status.{Status}
use Rattle.arrayvec.specs.declared.array_vec.ArrayVec.{ArrayVec}
use Rattle.scp03_card.specs.Kept.{KeptSession, RepresentsSession}
use Rattle.scp03_card.specs.Offer.{Offer, card_cryptogram}
use Rattle.scp03_card.specs.Session.{session_from}
use Rattle.scp03_host.specs.Begin.{ShowsKeys, cryptogram_in}
use Rattle.script_tool.proofs.HostRules.{represents_put}
use Rattle.script_tool.proofs.PlayedRules.{broken_on, leads_nowhere, played_on}
use Rattle.script_lines.specs.Channel.{channel_number}
use Rattle.script_lines.specs.Command.{command_bytes}
use Rattle.script_tool.specs.Host.{Host, with_own}
use Rattle.script_tool.specs.InPlain.{send_in_plain}
use Rattle.script_tool.specs.Kept.{RepresentsHost, printed_of, with_kept}
use Rattle.script_tool.specs.Opening.{after_authenticate, after_update, authenticating, counter_in, offer_under, offered_by, playing_open, updating, with_field}
use Rattle.script_tool.specs.Played.{ContinuesWith, IsPlayed, Leads, Plays}
use Rattle.script_tool.specs.Printed.{Cryptogram, Opened, Reply, Said}
use Rattle.script_tool.specs.Talk.{Ends, Talk}
use Rattle.script_lines.specs.declared.channel.Channel.{Channel}
use Rattle.script_tool.specs.declared.channel_sessions.ChannelSessions.{ChannelSessions}
use Rattle.script_tool.specs.declared.host_state.HostState.{HostState}
use Rattle.script_lines.specs.declared.keys.OfSize.{OfSize}
use Rattle.script_lines.specs.declared.keys.Trio.{Trio}
use Rattle.script_tool.specs.declared.link.CardLink.{Ghosts as CardLink}
use Rattle.script_tool.specs.declared.link.LinkFailed.{LinkFailed}
use Rattle.script_lines.specs.declared.opening.Opening.{Opening}
use Rattle.script_tool.specs.declared.printout.Printout.{Printout}
use Rattle.script_tool.specs.declared.printout.Printout.TheVariants as printout
use Rattle.script_tool.specs.declared.word.Word.TheVariants.{Short}

-- a talk that leads to another is played as that one
pub plays_on : {L : Type 0} (link : CardLink L) (a b c : L) (talk mid : Talk) (kept : HostState) (result : Result Printout LinkFailed)
    → Leads link a b talk mid → Plays link b c mid kept result → Plays link a c talk kept result
plays_on link a b c talk mid kept (Ok printed) x y = played_on link a b c talk mid (printed_of printed) kept x y
plays_on link a b c talk mid kept (Err failed) x y = broken_on link a b c talk mid x y

-- what is no reply ends the talk
pub others_played : {L : Type 0} (link : CardLink L) (old new : L) (talk : Talk) (rest : Host → List ℕ → ℕ → Talk) (kept : HostState) (one : Printout)
    → ((field : ArrayVec ℕ 256 (Unit {0})) (status : Status) → one ≡ printout.Reply field status → ⊥)
    → ContinuesWith link old new talk rest kept (printed_of one) → IsPlayed link old new talk (printed_of one) kept
others_played link old new talk rest kept (printout.Reply field status) other x = absurd (other field status refl)
others_played link old new talk rest kept (printout.Said word) other x = x
others_played link old new talk rest kept _ other x = absurd x

-- EXTERNAL AUTHENTICATE was answered by 9000, and the session is put
pub accepted_played : {L : Type 0} (link : CardLink L) (old new : L) (talk : Talk) (o : Opening) (offer : Offer) (counter body : List ℕ) (status : ℕ)
    (kept : HostState) (one : KeptSession) (all : ChannelSessions) → ContinuesWith link old new talk (after_authenticate o offer counter) kept (Reply body status)
    → RepresentsSession one (session_from offer o.level) → (status == 0x9000) ≡ true → all ≡ with_kept kept.channel (Some one) kept.sessions
    → IsPlayed link old new talk (Opened counter status)
    (record { channel = kept.channel; keys = kept.keys; tokens = kept.tokens; sessions = all; last = kept.last })
accepted_played link old new talk o offer counter body status kept one all x session done put =
    let opened = with_own (Some (session_from offer o.level)) x.0 in
    record {
      host = opened;
      leads = subst (λ (b : Bool). Leads link old new talk (Ends (Opened counter status) (if b then opened else x.0))) done x.1;
      stands = subst
          (λ (s : ChannelSessions). RepresentsHost (record { channel = kept.channel; keys = kept.keys; tokens = kept.tokens; sessions = s; last = kept.last }) opened)
          (sym put) (represents_put kept x.0 (Some one) (Some (session_from offer o.level)) x.2 session);
    }

-- it was answered by another status
pub refused_played : {L : Type 0} (link : CardLink L) (old new : L) (talk : Talk) (o : Opening) (offer : Offer) (counter body : List ℕ) (status : ℕ)
    (kept : HostState) → ContinuesWith link old new talk (after_authenticate o offer counter) kept (Reply body status) → (status == 0x9000) ≡ false
    → IsPlayed link old new talk (Opened counter status) kept
refused_played link old new talk o offer counter body status kept x no_session = record {
  host = x.0;
  leads = subst
      (λ (b : Bool). Leads link old new talk (Ends (Opened counter status) (if b then with_own (Some (session_from offer o.level)) x.0 else x.0))) no_session x.1;
  stands = x.2;
}

-- what is sent is INITIALIZE UPDATE
pub update_sent : (kept : HostState) (host : Host) (o : Opening) (sent : List ℕ) → RepresentsHost kept host → Spelled (updating (channel_number kept.channel) o) sent
    → send_in_plain host sent (after_update o) ≡ playing_open host o
update_sent kept host o sent represents is =
    ap (λ (bytes : List ℕ). send_in_plain host bytes (after_update o)) (is.spelling ∙ ap (λ (c : Channel). command_bytes (updating (channel_number c) o)) represents.channel)

-- INITIALIZE UPDATE was answered by 9000, and the session of the channel is ended
pub updated_leads : {L : Type 0} (link : CardLink L) (old new : L) (talk : Talk) (o : Opening) (field : List ℕ) (status : ℕ) (host : Host)
    → Leads link old new talk (after_update o host field status) → (status == 0x9000) ≡ true → Leads link old new talk (with_field (with_own None host) o field)
updated_leads link old new talk o field status host x done =
    subst (λ (b : Bool). Leads link old new talk (if b then with_field (with_own None host) o field else Ends (Reply [] status) host)) done x

-- it was answered by another status, which is printed
pub not_updated : {L : Type 0} (link : CardLink L) (old new : L) (talk : Talk) (o : Opening) (field none : List ℕ) (status : ℕ) (kept : HostState)
    → ContinuesWith link old new talk (after_update o) kept (Reply field status) → (status == 0x9000) ≡ false → none ≡ []
    → IsPlayed link old new talk (Reply none status) kept
not_updated link old new talk o field none status kept x refused empty = record {
  host = x.0;
  leads = subst (λ (l : List ℕ). Leads link old new talk (Ends (Reply l status) x.0)) (sym empty)
      (subst (λ (b : Bool). Leads link old new talk (if b then with_field (with_own None x.0) o field else Ends (Reply [] status) x.0)) refused x.1);
  stands = x.2;
}

is_false : (b : Bool) → (b ≡ true → ⊥) → b ≡ false
is_false true never = absurd (never refl)
is_false false never = refl

wrong_cryptogram : (host : Host) (o : Opening) (field counter : List ℕ) → length field ≡ 32
    → (ShowsKeys (offer_under host.keys o.challenge field) field → ⊥) → counter ≡ counter_in field → with_field host o field ≡ Ends (Cryptogram counter) host
wrong_cryptogram host o field counter long wrong is =
    let offer = offer_under host.keys o.challenge field in
    let size = eq-eqb (length field) 32 long in
    let differs = is_false (bytes_eq (cryptogram_in field) (card_cryptogram offer))
    (λ e. wrong ((bytes_eq-Decides (cryptogram_in field) (card_cryptogram offer)).0 e)) in
    ap (λ (b : Bool). if b then offered_by host o field else Ends (Said Short) host) size
    ∙ ap (λ (b : Bool). if b then authenticating host o offer (counter_in field) else Ends (Cryptogram (counter_in field)) host) differs
    ∙ ap (λ (c : List ℕ). Ends (Cryptogram c) host) (sym is)

-- the card cryptogram is wrong
pub wrong_played : {L : Type 0} (link : CardLink L) (now : L) (host : Host) (kept : HostState) (o : Opening) (field counter : List ℕ)
    → RepresentsHost kept host → length field ≡ 32 → (ShowsKeys (offer_under kept.keys o.challenge field) field → ⊥) → counter ≡ counter_in field
    → IsPlayed link now now (with_field host o field) (Cryptogram counter) kept
wrong_played link now host kept o field counter represents long wrong is =
    let there = subst (λ (k : OfSize (Trio 16) (Trio 24) (Trio 32)). ShowsKeys (offer_under k o.challenge field) field → ⊥) represents.keys wrong in
    record {
      host = host;
      leads = subst (λ t. Leads link now now (with_field host o field) t) (wrong_cryptogram host o field counter long there is)
          (leads_nowhere link now (with_field host o field));
      stands = represents;
    }
