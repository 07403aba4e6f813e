-- What bars a command that has come before the rules of its own are judged, and what it has passed then.
use Rattle.std.proofs.Common.{◌≡◌, ◌⊎◌, ℕ, ◌<◌, List, true, false, Option, None, Some, Result, Ok, Err, refl, sym, ap, subst, ◌∙◌, length}
use Rattle.std.specs.Prelude.{Contains, IfErr, IfSome, slice_index_or, slice_set, take, ◌++◌, ◌==◌}
use Rattle.std.specs.Result.{IsErrAnd}
use Rattle.std.proofs.lemmas.List.{set-set}
use Rattle.card_core.specs.Prelude.{Admitted, Apdu, Bars, CarriesOut, ForKept, GeneralFails, HasCome, HasPages, IsFirst, IsInSession, IsKnown, IsOpenedIn, IsPassed, IsPlainManagement, IsSound, IsTerminatedFor, Kept, KeptRepresents, Opens, OpensAs, Passes, RepresentsSecureChannel, SecureChannel, Secured, Serves, Session, Short, State, accepting, admitted_as, apdu_of, channel_at, channel_of, class_of, class_passed, command_rules, held_on, held_passed, in_plain, is_protected, kept_set, live_passed, live_without_load, live_without_place, managing, pages_after, plain_of, reply_bytes, rule_of, secure_channel_of, session_reply, status_bytes, status_word}
use Rattle.apdu_core.specs.declared.reply.Status.{Status}
use Rattle.card_types.specs.declared.card_life.CardLife.{CardLife}
use Rattle.load_session.specs.declared.load_write.LoadWrite.{LoadWrite}
use Rattle.policy_machine.proofs.Passing.{channel_is_low}
use Rattle.policy_machine.specs.declared.instruction.TheConstants.{EXTERNAL_AUTHENTICATE, GET_DATA, GET_STATUS}
use Rattle.policy_machine.specs.declared.channels.TheConstants.{CHANNELS}
use Rattle.policy_machine.specs.declared.rule.Rule.{Rule}
use Rattle.policy_machine.specs.declared.rule.Rule.TheVariants.{G}
use Rattle.policy_machine.specs.declared.rule.RuleG.{RuleG}
use Rattle.policy_machine.specs.declared.rule.RuleG.TheVariants.{G5, G6}
use Rattle.policy_slots.specs.declared.live.Live.{Live}
use Rattle.policy_slots.specs.declared.live.Place.{Place}
use Rattle.card_core.proofs.Passed.{card_passed, goes_on, holds_passed, managed_served, opened_shows, opened_so, opened_sound, over_served, passed_held, place_told, plain_shows, read_at, refused_served, session_of, sound_at, written_at}
use Rattle.card_core.proofs.Serving.{admits_opened, admits_plain, carried_out, protected_one}
use Rattle.card_core.specs.declared.admit.Received.{Received}
use Rattle.card_core.specs.declared.channel_session.ChannelSession.{ChannelSession}
use Rattle.card_core.specs.declared.channel_session.ChannelSession.TheVariants as held

-- a rule is handed on
pub handed_on : (result : Result (Option ℕ) RuleG) (found : RuleG) (So : RuleG → Type 0) → IsErrAnd result (λ rule. rule ≡ found) → So found → IfErr result So
handed_on (Ok opened) found So given so = absurd given
handed_on (Err rule) found So given so = subst So (sym given) so

pub has_come : (page : ℕ → List ℕ) (card : Kept) (state : State) (bytes : List ℕ) (received : Received) (live : Live) (place : ℕ) (other : ChannelSession)
    → KeptRepresents page card state → IsSound state → IsFirst (GeneralFails state bytes) command_rules None → Short (apdu_of received.command) bytes
    → received.channel ≡ channel_of received.command.class → slice_index_or card.live.selected received.channel None ≡ Some received.selected
    → live ≡ live_without_place card.live received.channel → place ≡ received.channel → HasCome page card state bytes received live (slice_index_or card.sessions place other)
has_come page card state bytes received live place other shows sound front short channel selected forgotten is = record {
  shows = shows;
  sound = sound;
  front = front;
  short = short;
  channel = channel;
  selected = selected;
  forgotten = forgotten;
  holds = read_at card.sessions place received.channel other shows.four (subst (λ (n : ℕ). n < CHANNELS) (sym channel) (channel_is_low received.command.class)) is;
}

module _ (page : ℕ → List ℕ) (card : Kept) (state : State) (bytes : List ℕ) (received : Received) (live : Live) (old : ChannelSession) (come : HasCome page card state bytes received live old) where
  abbrev command : Apdu
  command = apdu_of received.command

  abbrev number : ℕ
  number = channel_of received.command.class

  -- what is kept after the check of the class
  abbrev checked_card : Kept
  checked_card = card_passed page card state come.shows come.sound command

  module _ (known : IsKnown received.command.class received.command.ins) (class_is : class_of received.command.class ≡ Some received.class) where
    -- the card is terminated
    pub over_barred : (now : ChannelSession) → now ≡ held_passed false old → (rule : RuleG) → rule ≡ G5 → IsTerminatedFor card.tables.life received.class received.command.ins
        → Bars page (kept_set card live received.channel now) state bytes rule
    over_barred now lost rule is over reply closed =
        rw (is, lost, come.holds, come.forgotten, come.channel)
        (over_served page card state come.shows come.sound command bytes reply come.short received.class class_is known come.front
        (subst (λ (life : CardLife). IsTerminatedFor life received.class received.command.ins) come.shows.says.registry.life over) (rw is at closed))

    -- the card goes on, with what the channel holds after the check of the class
    module _ (checked : ChannelSession) (passed : checked ≡ held_passed (received.command.ins == EXTERNAL_AUTHENTICATE) old)
        (not_over : IsTerminatedFor card.tables.life received.class received.command.ins → ⊥) where
      goes : IsTerminatedFor state.registry.life received.class received.command.ins → ⊥
      goes = goes_on page card state come.shows come.sound command received.class not_over

      opened : slice_index_or card.live.selected number None ≡ Some received.selected
      opened = opened_so card.live command received.channel received.selected come.channel come.selected

      checked_is : checked ≡ passed_held page card state come.shows come.sound command
      checked_is = passed ∙ ap (held_passed (received.command.ins == EXTERNAL_AUTHENTICATE)) (come.holds ∙ ap (held_on card.sessions) come.channel)

      there : checked ≡ held_on checked_card.sessions number
      there =
          checked_is ∙ sym (written_at card.sessions number number (passed_held page card state come.shows come.sound command) held.Nothing come.shows.four
          (channel_is_low received.command.class) refl)

      abbrev secure_channel : SecureChannel
      secure_channel = secure_channel_of (channel_at (class_passed state.volatile command) number)

      holds : RepresentsSecureChannel checked secure_channel
      holds = subst (λ (h : ChannelSession). RepresentsSecureChannel h secure_channel) (sym there) (holds_passed page card state come.shows come.sound command)

      -- what is written to the channel is all that was written to it
      twice : (now : ChannelSession) → slice_set checked_card.sessions number now ≡ slice_set card.sessions number now
      twice now = set-set card.sessions number (passed_held page card state come.shows come.sound command) now

      -- the session of the channel ends, or there is none
      ended_on : (rule : RuleG) (now : ChannelSession) (live' : Live) → live' ≡ live_without_load live received.channel → (reply : List ℕ)
          → Serves page state bytes (kept_set checked_card (live_without_load checked_card.live number) number now) reply (Some (G rule))
          → Serves page state bytes (kept_set card live' received.channel now) reply (Some (G rule))
      ended_on rule now live' ended reply serves =
          rw (ended, come.forgotten, come.channel)
          (subst (λ (h : List ChannelSession). Serves page state bytes
          (record { tables = card.tables; live = live_without_load checked_card.live number; sessions = h; load = card.load }) reply (Some (G rule))) (twice now) serves)

      -- card content management in plain
      pub managed_barred : IsPlainManagement command → (now : ChannelSession) → now ≡ held.Nothing → (live' : Live) → live' ≡ live_without_load live received.channel
          → Bars page (kept_set card live' received.channel now) state bytes G6
      managed_barred managed now gone live' ended reply closed =
          ended_on G6 now live' ended reply
          (managed_served page card state come.shows come.sound command received.selected opened bytes reply come.short known received.class class_is come.front goes managed now gone closed)

      shown_on : (now : ChannelSession) (live' : Live) → live' ≡ live_passed received.command.ins received.channel live → (left : State)
          → KeptRepresents page (kept_set card (live_passed received.command.ins number checked_card.live) number now) left
          → KeptRepresents page (kept_set card live' received.channel now) left
      shown_on now live' passes left shows = rw (passes, come.forgotten, come.channel) shows

      -- any other command in plain
      pub plain_passed : is_protected command ≡ false → (IsPlainManagement command → ⊥) → (live' : Live) → live' ≡ live_passed received.command.ins received.channel live → (plain : List ℕ)
          → Passes page (kept_set card live' received.channel checked) state bytes command checked None plain
      plain_passed unprotected unmanaged live' passes plain = record {
        session = None;
        admits = admits_plain state bytes command come.short known received.class class_is come.front goes unmanaged unprotected;
        shows = shown_on checked live' passes (admitted_as state command None command.body).at (rw checked_is (plain_shows page card state come.shows come.sound command));
        sound = sound_at page card state come.shows come.sound command None command.body (unprotected, refl);
        opened_in = tt;
      }

      module _ (protected : is_protected command ≡ true) (now : ChannelSession) (plain : List ℕ) where
        -- a protected command that opens
        pub opened_passed : (count : ℕ) → ((channel : SecureChannel) → RepresentsSecureChannel checked channel → OpensAs command channel checked now plain (Ok count))
            → (live' : Live) → live' ≡ live_passed received.command.ins received.channel live
            → Passes page (kept_set card live' received.channel now) state bytes command now (Some count) plain
        opened_passed count opens live' passes =
            let found = session_of page card state come.shows come.sound command
            (λ session. Opens session command (take count plain) × RepresentsSecureChannel now (Secured (accepting session command))) (opens secure_channel holds) in
            let left : State = (admitted_as state command (Some (accepting found.0 command)) (take count plain)).at in
            record {
              session = Some (accepting found.0 command);
              admits = admits_opened state bytes command come.short known received.class class_is come.front goes protected found.0 found.1 (take count plain) found.2.0;
              shows = shown_on now live' passes left
                  (subst (λ (h : List ChannelSession). KeptRepresents page
                  (record { tables = card.tables; live = live_passed received.command.ins number checked_card.live; sessions = h; load = card.load }) left) (twice now)
                  (opened_shows page card state come.shows come.sound command received.selected opened protected found.0 now (take count plain) found.2.1));
              sound = opened_sound page card state come.shows come.sound command received.selected opened protected found.0 found.1 (take count plain) found.2.0;
              opened_in = found.2.1;
            }

        -- one that a rule on secure messaging refuses
        pub unopened_barred : (rule : RuleG) → ((channel : SecureChannel) → RepresentsSecureChannel checked channel → OpensAs command channel checked now plain (Err rule))
            → (live' : Live) → live' ≡ live_without_load live received.channel → Bars page (kept_set card live' received.channel now) state bytes rule
        unopened_barred rule opens live' ended reply closed =
            ended_on rule now live' ended reply
            (refused_served page card state come.shows come.sound command received.selected opened protected bytes come.short known received.class class_is come.front goes now plain reply rule
            (subst (λ (h : ChannelSession). OpensAs command secure_channel h now plain (Err rule)) there (opens secure_channel holds)) closed)

  -- a command that has passed, and the place in a listing that its channel had
  module _ (live' : Live) (now : ChannelSession) (opened : Option ℕ) (plain : List ℕ) (passes : Passes page (kept_set card live' received.channel now) state bytes command now opened plain)
      (place : ℕ) (place_is : place ≡ received.channel) where
    abbrev judged : Admitted
    judged = admitted_as state command passes.session (plain_of command opened plain)

    pub shown : KeptRepresents page (kept_set card live' place now) judged.at
    shown = subst (λ (n : ℕ). KeptRepresents page (kept_set card live' n now) judged.at) (sym place_is) passes.shows

    -- it was carried out, or refused by a rule of its own, and its reply is closed
    pub closed_over : HasPages page → (body : List ℕ) → body ≡ plain_of command opened plain → (found : Option Place)
        → (received.command.ins ≡ GET_STATUS → found ≡ slice_index_or card.live.places received.channel None) → (left : Kept) (writes : List LoadWrite) (sent_body reply : List ℕ) (result : Result Status Rule)
        → ForKept (kept_set card live' place now) (λ at admitted. IsPassed received.channel (in_plain command body) found admitted → CarriesOut (pages_after at writes) admitted left sent_body result)
        → ((session : Option Session) → IsOpenedIn opened now session → reply ≡ reply_bytes session sent_body (status_word result)) → Serves (pages_after page writes) state bytes left reply (rule_of result)
    closed_over whole body body_is found told left writes sent_body reply result does closed =
        carried_out (pages_after page writes) state bytes command passes.session (plain_of command opened plain) left sent_body reply result come.sound passes.admits
        (does page judged whole shown passes.sound passed_as) (closed passes.session passes.opened_in)
      where
        passed_as : IsPassed received.channel (in_plain command body) found judged
        passed_as = record {
          on = come.channel;
          is = ap (in_plain command) (sym body_is);
          goes_on = λ ins. place_told page card state come.shows command passes.session (plain_of command opened plain) received.channel come.channel
              (subst (λ (n : ℕ). n < CHANNELS) (sym come.channel) (channel_is_low received.command.class)) found (told ins);
        }

-- the channel that was written to holds what was written
pub written_on : (all : List ChannelSession) (place number : ℕ) (now : ChannelSession) → length all ≡ CHANNELS → number < CHANNELS → place ≡ number → held_on (slice_set all place now) number ≡ now
written_on all place number now four low is = ap (held_on (slice_set all place now)) (sym is) ∙ written_at all place number now held.Nothing four low is

-- the session that a command was opened in is held still after it
pub opened_still : (opened : Option ℕ) (command : Apdu) (all after : List ChannelSession) (place number : ℕ) (now other : ChannelSession) → IsKnown command.class command.ins
    → IfSome opened (λ count. IsInSession now × (is_protected command ≡ true)) → length all ≡ CHANNELS → number < CHANNELS → place ≡ number
    → (IsInSession (held_on (slice_set all place now) number) → (command.ins ≡ GET_DATA) ⊎ Contains managing command.ins → after ≡ slice_set all place now)
    → IfSome opened (λ count. slice_index_or after place other ≡ now)
opened_still None apdu all after place channel now other known secured four low is keeps = tt
opened_still (Some count) apdu all after place channel now other known (secured, protected) four low is keeps =
    let same = keeps (subst IsInSession (sym (written_on all place channel now four low is)) secured) (protected_one (class_of apdu.class) apdu.ins known protected) in
    ap (λ (l : List ChannelSession). slice_index_or l place other) same ∙ written_at all place channel now other four low is

pub still_secured : (opened : Option ℕ) (before after : ChannelSession) (So : Type 0) → IfSome opened (λ count. after ≡ before) → IfSome opened (λ count. IsInSession before × So)
    → IfSome opened (λ count. IsInSession after)
still_secured None before after So same secured = tt
still_secured (Some count) before after So same secured = subst IsInSession (sym same) secured.0

pub still_opened : (opened : Option ℕ) (before after : ChannelSession) → IfSome opened (λ count. after ≡ before) → (session : Option Session) → IsOpenedIn opened before session
    → IsOpenedIn opened after session
still_opened None before after same None is = tt
still_opened None before after same (Some session) is = absurd is
still_opened (Some count) before after same None is = absurd is
still_opened (Some count) before after same (Some session) is = subst (λ (h : ChannelSession). RepresentsSecureChannel h (Secured session)) (sym same) is

-- a reply is closed in plain for a command that came so, and in its session for one that was opened in it
pub plain_closed : (held : ChannelSession) (reply body : List ℕ) (word : ℕ) → reply ≡ body ++ status_bytes word → (session : Option Session) → IsOpenedIn None held session
    → reply ≡ reply_bytes session body word
plain_closed held reply body word is None none = is
plain_closed held reply body word is (Some session) none = absurd none

pub protected_closed : (opened : Option ℕ) (count : ℕ) → opened ≡ Some count → (held : ChannelSession) (reply body : List ℕ) (word : ℕ)
    → ((session : Session) → RepresentsSecureChannel held (Secured session) → reply ≡ session_reply session body word) → (session : Option Session) → IsOpenedIn opened held session
    → reply ≡ reply_bytes session body word
protected_closed None count some held reply body word is session stands = cc
protected_closed (Some size) count some held reply body word is None none = absurd none
protected_closed (Some size) count some held reply body word is (Some session) stands = is session stands
