-- What a card shows, when a channel is set and when a load session ends.
use Rattle.std.proofs.Common.{◌≡◌, ℕ, ◌<◌, List, Bool, true, false, Option, None, Some, refl, sym, ap, subst, ◌∙◌, length}
use Rattle.std.specs.Prelude.{IfSome, MatchOption, is_none, slice_index_or, slice_set, if◌then◌else◌, ◌==◌}
use Rattle.std.specs.Option.{option_map}
use Rattle.std.proofs.lemmas.List.{length-set, set-get_or}
use Rattle.card_core.specs.Prelude.{Apdu, Channel, HasIssuer, HasLayout, IsDomainNamed, IsLoadNamed, IsSelectedIn, IsSound, IsWellLoad, KeepsAid, KeepsSelected, Kept, KeptRepresents, LoadSession, Nothing, Offered, Registry, Represents, RepresentsLoading, RepresentsSecureChannel, RepresentsState, SecureChannel, Secured, State, Volatile, Well, channel_at, channel_of, channel_passed, channel_with, fresh, held_on, held_passed, kept_live, kept_of_others, kept_set, live_passed, live_with_channel, live_without_load, live_without_place, load_without_channel, lowest_closed, place_in, place_of, secure_channel_of, session_passed, thing_in, with_channel, with_offer_dropped, with_secure_channel, without_load, without_offer, without_offer_held, without_place}
use Rattle.card_types.proofs.Domains.{domain_aid_is, domain_named_is_used}
use Rattle.card_types.specs.declared.factory.TheConstants.{ISSUER}
use Rattle.card_types.specs.declared.tables.Entry.{Entry}
use Rattle.card_types.specs.declared.tables.TheConstants.{ISSUER_SLOT}
use Rattle.card_types.specs.declared.tables.Tables.{Tables}
use Rattle.policy_machine.proofs.SetChannel.{lowest_is_closed}
use Rattle.policy_machine.specs.declared.instruction.TheConstants.{LOAD}
use Rattle.policy_machine.specs.declared.channels.TheConstants.{CHANNELS}
use Rattle.policy_slots.specs.declared.live.Live.{Live}
use Rattle.policy_slots.specs.declared.live.LoadName.{LoadName}
use Rattle.policy_slots.specs.declared.live.Place.{Place as KeptPlace}
use Rattle.card_core.specs.declared.channel_session.ChannelSession.{ChannelSession}
use Rattle.card_core.specs.declared.channel_session.ChannelSession.TheVariants as held
use Rattle.card_core.proofs.LoadsKept.{ended_loading}
use Rattle.card_core.proofs.SetAt.{IsSetAt, none_at, same_at, set_at, set_each}

-- the load session of another channel is left, as the code keeps it and in the model
pub load_left : (entries : List (Option Entry)) (number : ℕ) (kept : Option LoadName) (load : Option LoadSession) → IsLoadNamed entries kept load
    → IsLoadNamed entries (kept_of_others number kept) (load_without_channel number load)
load_left entries number None None named = tt
load_left entries number None (Some load) named = absurd named
load_left entries number (Some kept) None named = absurd named
load_left entries number (Some kept) (Some load) named =
    subst (λ (channel : ℕ). IsLoadNamed entries (if kept.channel == number then None else Some kept) (if channel == number then None else Some load)) named.0
    (by (kept.channel == number))
  where
    by : (ends : Bool) → IsLoadNamed entries (if ends then None else Some kept) (if ends then None else Some load)
    by true = tt
    by false = named

-- what the code keeps of a channel goes with what the channel has in the model
pub record IsKeptAs (tables : Tables) (slot : Option ℕ) (kept : Option KeptPlace) (now : ChannelSession) (channel : Option Channel) : Type 0 where
  pub selected : IsSelectedIn tables.entries.items slot channel
  pub place : option_map place_of kept ≡ place_in channel
  pub holds : RepresentsSecureChannel now (secure_channel_of channel)

-- a channel is set, as the code keeps it and in the model; the load session is left at that, or has ended
pub record SetsChannel (live after_live : Live) (volatile after : Volatile) (number : ℕ) (slot : Option ℕ) (place : Option KeptPlace) (channel : Option Channel) : Type 0 where
  pub selected : IsSetAt live.selected after_live.selected number slot None
  pub places : IsSetAt live.places after_live.places number place None
  pub channels : after.channels ≡ slice_set volatile.channels number channel

module _ (page : ℕ → List ℕ) (card : Kept) (state : State) (shows : KeptRepresents page card state) (four : length state.volatile.channels ≡ CHANNELS)
    (number : ℕ) (low : number < CHANNELS) where
  abbrev live : Live
  live = card.live

  abbrev entries : List (Option Entry)
  entries = card.tables.entries.items

  few : number < length state.volatile.channels
  few = subst (λ (n : ℕ). number < n) (sym four) low

  abbrev here : Option Channel
  here = channel_at state.volatile number

  -- what the channel holds
  abbrev was : ChannelSession
  was = held_on card.sessions number

  -- a channel is set
  pub channel_shows : (after_live : Live) (after : Volatile) (slot : Option ℕ) (place : Option KeptPlace) (now : ChannelSession) (channel : Option Channel)
      → SetsChannel live after_live state.volatile after number slot place channel → IsKeptAs card.tables slot place now channel
      → IsLoadNamed entries after_live.load after.load → RepresentsLoading page card.tables card.load after.load
      → KeptRepresents page (kept_set card after_live number now) (record { registry = state.registry; volatile = after })
  channel_shows after_live after slot place now channel sets kept load loading = record {
    says = record {
      registry = shows.says.registry;
      selected = λ n within.
          set_each (IsSelectedIn entries) live.selected after_live.selected state.volatile.channels after.channels number slot None channel None
          sets.selected channels kept.selected n (shows.says.selected n within);
      places = λ n within.
          set_each (λ p c. option_map place_of p ≡ place_in c) live.places after_live.places state.volatile.channels after.channels number place None channel None
          sets.places channels kept.place n (shows.says.places n within);
      load = load;
    };
    four = length-set card.sessions number now ∙ shows.four;
    holds = λ n within.
        set_each (λ h c. RepresentsSecureChannel h (secure_channel_of c)) card.sessions (slice_set card.sessions number now) state.volatile.channels after.channels
        number now held.Nothing channel None
        (set_at card.sessions number now held.Nothing (subst (λ (n : ℕ). number < n) (sym shows.four) low)) channels kept.holds n (shows.holds n within);
    loading = loading;
  }
    where
      channels : IsSetAt state.volatile.channels after.channels number channel None
      channels = subst (λ (cs : List (Option Channel)). IsSetAt state.volatile.channels cs number channel None) (sym sets.channels)
          (set_at state.volatile.channels number channel None few)

  -- the channel has something else selected, or is closed, and all that it had has ended
  pub begun_shows : number < length live.selected → (slot : Option ℕ) (channel : Option Channel) → IsSelectedIn entries slot channel
      → place_in channel ≡ None → secure_channel_of channel ≡ Nothing
      → KeptRepresents page (kept_set card (live_with_channel live number slot) number held.Nothing)
      (record { registry = state.registry; volatile = without_load (with_channel state.volatile number channel) number })
  begun_shows within slot channel selected without_place nothing =
      channel_shows (live_with_channel live number slot) (without_load (with_channel state.volatile number channel) number) slot None held.Nothing channel
      (record { selected = set_at live.selected number slot None within; places = none_at live.places number; channels = refl })
      (record { selected = selected; place = sym without_place; holds = subst (RepresentsSecureChannel held.Nothing) (sym nothing) tt })
      (load_left entries number live.load state.volatile.load shows.says.load) (ended_loading page card.tables card.load number state.volatile.load shows.loading)

  selected_passed : (keeps : Bool) (slot : Option ℕ) (channel : Option Channel) → IsSelectedIn entries slot channel
      → IsSelectedIn entries slot (channel_passed keeps channel)
  selected_passed keeps slot None selected = selected
  selected_passed keeps None (Some channel) selected = selected
  selected_passed keeps (Some slot) (Some channel) selected = selected

  place_passed : (keeps : Bool) (channel : Option Channel) → place_in (channel_passed keeps channel) ≡ None
  place_passed keeps None = refl
  place_passed keeps (Some channel) = refl

  secure_channel_passed : (now : ChannelSession) (channel : Option Channel) → RepresentsSecureChannel now (without_offer (secure_channel_of channel)) → RepresentsSecureChannel now (secure_channel_of (channel_passed false channel))
  secure_channel_passed now None holds = holds
  secure_channel_passed now (Some channel) holds = holds

  secure_channel_kept : (now : ChannelSession) (channel : Option Channel) → RepresentsSecureChannel now (secure_channel_of channel) → RepresentsSecureChannel now (secure_channel_of (channel_passed true channel))
  secure_channel_kept now None holds = holds
  secure_channel_kept now (Some channel) holds = holds

  offer_dropped : (now : ChannelSession) (secure_channel : SecureChannel) → RepresentsSecureChannel now secure_channel → RepresentsSecureChannel (without_offer_held now) (without_offer secure_channel)
  offer_dropped held.Nothing Nothing holds = tt
  offer_dropped held.Nothing (Offered offer) holds = absurd holds
  offer_dropped held.Nothing (Secured session) holds = absurd holds
  offer_dropped (held.Offered kept) Nothing holds = absurd holds
  offer_dropped (held.Offered kept) (Offered offer) holds = tt
  offer_dropped (held.Offered kept) (Secured session) holds = absurd holds
  offer_dropped (held.Secured kept) Nothing holds = absurd holds
  offer_dropped (held.Secured kept) (Offered offer) holds = absurd holds
  offer_dropped (held.Secured kept) (Secured session) holds = holds

  held_after : (keeps : Bool) → RepresentsSecureChannel (held_passed keeps was) (secure_channel_of (channel_passed keeps here))
  held_after true = secure_channel_kept was here (shows.holds number low)
  held_after false = secure_channel_passed (without_offer_held was) here (offer_dropped was (secure_channel_of here) (shows.holds number low))

  -- after the check of the class
  pub passed_shows : (keeps : Bool)
      → KeptRepresents page (kept_set card (live_without_place live number) number (held_passed keeps was))
      (record { registry = state.registry; volatile = without_place state.volatile number keeps })
  passed_shows keeps =
      channel_shows (live_without_place live number) (without_place state.volatile number keeps) (slice_index_or live.selected number None) None
      (held_passed keeps was) (channel_passed keeps here)
      (record { selected = same_at live.selected number None; places = none_at live.places number; channels = refl })
      (record {
        selected = selected_passed keeps (slice_index_or live.selected number None) here (shows.says.selected number low);
        place = sym (place_passed keeps here);
        holds = held_after keeps;
      })
      shows.says.load shows.loading

  selected_so : (secure_channel : SecureChannel) (slot : Option ℕ) (channel : Option Channel) → IsSelectedIn entries slot channel
      → IsSelectedIn entries slot (channel_with secure_channel channel)
  selected_so secure_channel slot None selected = selected
  selected_so secure_channel None (Some channel) selected = selected
  selected_so secure_channel (Some slot) (Some channel) selected = selected

  place_so : (secure_channel : SecureChannel) (channel : Option Channel) → place_in channel ≡ place_in (channel_with secure_channel channel)
  place_so secure_channel None = refl
  place_so secure_channel (Some channel) = refl

  -- the channel holds something else
  holds_shows : (now : ChannelSession) (secure_channel : SecureChannel) → RepresentsSecureChannel now (secure_channel_of (channel_with secure_channel here))
      → KeptRepresents page (kept_set card live number now) (record { registry = state.registry; volatile = with_secure_channel state.volatile number secure_channel })
  holds_shows now secure_channel holds =
      channel_shows live (with_secure_channel state.volatile number secure_channel) (slice_index_or live.selected number None) (slice_index_or live.places number None) now
      (channel_with secure_channel here)
      (record { selected = same_at live.selected number None; places = same_at live.places number None; channels = refl })
      (record {
        selected = selected_so secure_channel (slice_index_or live.selected number None) here (shows.says.selected number low);
        place = shows.says.places number low ∙ place_so secure_channel here;
        holds = holds;
      })
      shows.says.load shows.loading

  stands_so : (now : ChannelSession) (secure_channel : SecureChannel) (channel : Option Channel) (slot : ℕ) → IsSelectedIn entries (Some slot) channel
      → RepresentsSecureChannel now secure_channel → RepresentsSecureChannel now (secure_channel_of (channel_with secure_channel channel))
  stands_so now secure_channel None slot selected holds = absurd selected
  stands_so now secure_channel (Some channel) slot selected holds = holds

  -- an open channel holds something else
  pub secure_channel_shows : (slot : ℕ) (now : ChannelSession) (secure_channel : SecureChannel) → slice_index_or live.selected number None ≡ Some slot → RepresentsSecureChannel now secure_channel
      → KeptRepresents page (kept_set card live number now) (record { registry = state.registry; volatile = with_secure_channel state.volatile number secure_channel })
  secure_channel_shows slot now secure_channel opened holds =
      holds_shows now secure_channel
      (stands_so now secure_channel here slot (subst (λ (s : Option ℕ). IsSelectedIn entries s here) opened (shows.says.selected number low)) holds)

  dropped_so : (now : ChannelSession) (channel : Option Channel) → RepresentsSecureChannel now (without_offer (secure_channel_of channel))
      → RepresentsSecureChannel now (secure_channel_of (channel_with (without_offer (secure_channel_of channel)) channel))
  dropped_so now None holds = holds
  dropped_so now (Some channel) holds = holds

  -- the channel has lost its offer, if it had one
  pub lost_shows : KeptRepresents page (kept_set card live number (without_offer_held was)) (record { registry = state.registry; volatile = with_offer_dropped state.volatile number })
  lost_shows =
      holds_shows (without_offer_held was) (without_offer (secure_channel_of here))
      (dropped_so (without_offer_held was) here (offer_dropped was (secure_channel_of here) (shows.holds number low)))

-- the load session of a channel has ended
pub load_ended_shows : (page : ℕ → List ℕ) (card : Kept) (registry : Registry) (volatile : Volatile) (number : ℕ) → KeptRepresents page card (record { registry = registry; volatile = volatile })
    → KeptRepresents page (kept_live card (live_without_load card.live number)) (record { registry = registry; volatile = without_load volatile number })
load_ended_shows page card registry volatile number shows = record {
  says = record {
    registry = shows.says.registry;
    selected = shows.says.selected;
    places = shows.says.places;
    load = load_left card.tables.entries.items number card.live.load volatile.load shows.says.load;
  };
  four = shows.four;
  holds = shows.holds;
  loading = ended_loading page card.tables card.load number volatile.load shows.loading;
}

-- it has, unless the command goes on with it
pub session_passed_shows : (page : ℕ → List ℕ) (card : Kept) (registry : Registry) (volatile : Volatile) (command : Apdu)
    → KeptRepresents page card (record { registry = registry; volatile = volatile })
    → KeptRepresents page (kept_live card (live_passed command.ins (channel_of command.class) card.live)) (record { registry = registry; volatile = session_passed volatile command })
session_passed_shows page card registry volatile command shows = by (command.ins == LOAD)
  where
    by : (goes_on : Bool)
        → KeptRepresents page (kept_live card (if goes_on then card.live else live_without_load card.live (channel_of command.class)))
        (record { registry = registry; volatile = if goes_on then volatile else without_load volatile (channel_of command.class) })
    by true = shows
    by false = load_ended_shows page card registry volatile (channel_of command.class) shows

-- what is kept says the state over tables whose entries are the same
pub says_over : (page : ℕ → List ℕ) (tables tables' : Tables) (live : Live) (state : State) (registry : Registry) (volatile : Volatile)
    → tables'.entries.items ≡ tables.entries.items → Represents page tables' registry → volatile ≡ state.volatile → RepresentsState page tables live state
    → RepresentsState page tables' live (record { registry = registry; volatile = volatile })
says_over page tables tables' live state registry volatile entries says same told =
    subst (λ (v : Volatile). RepresentsState page tables' live (record { registry = registry; volatile = v })) (sym same) (record {
      registry = says;
      selected = subst (λ (es : List (Option Entry)). (number : ℕ) → number < CHANNELS
          → IsSelectedIn es (slice_index_or live.selected number None) (channel_at state.volatile number)) (sym entries) told.selected;
      places = told.places;
      load = subst (λ (es : List (Option Entry)). IsLoadNamed es live.load state.volatile.load) (sym entries) told.load;
    })

-- what is kept says the state over tables where what is selected keeps its AID
module _ (page : ℕ → List ℕ) (tables tables' : Tables) (live : Live) (state : State) (keeps : KeepsSelected live tables.entries.items tables'.entries.items) where
  selected_kept : (slot : Option ℕ) (channel : Option Channel) → IfSome slot (KeepsAid tables.entries.items tables'.entries.items)
      → IsSelectedIn tables.entries.items slot channel → IsSelectedIn tables'.entries.items slot channel
  selected_kept None None kept is = is
  selected_kept None (Some channel) kept is = is
  selected_kept (Some slot) None kept is = is
  selected_kept (Some slot) (Some channel) kept (entry, at, aid) = (let other = kept entry at in (other.0, other.1, other.2 ∙ aid))

  channel_kept : (number : ℕ) → number < CHANNELS → IfSome (slice_index_or live.selected number None) (KeepsAid tables.entries.items tables'.entries.items)
  channel_kept number low = by (slice_index_or live.selected number None) refl
    where
      by : (slot : Option ℕ) → slice_index_or live.selected number None ≡ slot → IfSome slot (KeepsAid tables.entries.items tables'.entries.items)
      by None at = tt
      by (Some slot) at = keeps.selected number slot low at

  load_kept : Well state.registry → Represents page tables state.registry → (name : Option LoadName) (load : Option LoadSession)
      → IfSome name (λ n. KeepsAid tables.entries.items tables'.entries.items n.domain)
      → MatchOption load (Unit {0}) (λ l. IsDomainNamed state.registry l.domain) → IsLoadNamed tables.entries.items name load → IsLoadNamed tables'.entries.items name load
  load_kept well says None None kept domain is = is
  load_kept well says None (Some load) kept domain is = is
  load_kept well says (Some name) None kept domain is = is
  load_kept well says (Some name) (Some load) kept domain (channel, aid, owner, next) =
      let used = domain_named_is_used page tables state.registry says well name.domain (subst (IsDomainNamed state.registry) (sym owner) domain) in
      let other = kept used.0 used.1 in
      let same = domain_aid_is tables'.entries.items name.domain other.0 other.1 ∙ other.2 ∙ sym (domain_aid_is tables.entries.items name.domain used.0 used.1) in
      (channel, aid, same ∙ owner, next)

  pub says_kept : (registry : Registry) (volatile : Volatile) → IsSound state → Represents page tables' registry → volatile ≡ state.volatile → RepresentsState page tables live state
      → RepresentsState page tables' live (record { registry = registry; volatile = volatile })
  says_kept registry volatile sound says same told =
      subst (λ (v : Volatile). RepresentsState page tables' live (record { registry = registry; volatile = v })) (sym same) (record {
        registry = says;
        selected = λ number low. selected_kept (slice_index_or live.selected number None) (channel_at state.volatile number) (channel_kept number low) (told.selected number low);
        places = told.places;
        load = load_kept sound.well told.registry live.load state.volatile.load keeps.load (loaded state.volatile.load sound.fits.load) told.load;
      })
    where
      loaded : (load : Option LoadSession) → MatchOption load (Unit {0}) (IsWellLoad state.registry state.volatile) → MatchOption load (Unit {0}) (λ l. IsDomainNamed state.registry l.domain)
      loaded None is = tt
      loaded (Some load) is = is.domain

-- nothing is set in what is held
pub held_same : (page : ℕ → List ℕ) (card : Kept) (state : State) (number : ℕ) (now : ChannelSession) → held_on card.sessions number ≡ now → KeptRepresents page card state
    → KeptRepresents page (kept_set card card.live number now) state
held_same page card state number now same shows =
    subst (λ (all : List ChannelSession). KeptRepresents page (record { tables = card.tables; live = card.live; sessions = all; load = card.load }) state)
    (sym (ap (slice_set card.sessions number) (sym same) ∙ set-get_or card.sessions number held.Nothing)) shows

-- what is kept shows the state with an equal volatile state
pub shows_same : (page : ℕ → List ℕ) (card : Kept) (registry : Registry) (a b : Volatile) → a ≡ b → KeptRepresents page card (record { registry = registry; volatile = a })
    → KeptRepresents page card (record { registry = registry; volatile = b })
shows_same page card registry a b same shows = subst (λ (v : Volatile). KeptRepresents page card (record { registry = registry; volatile = v })) same shows

pub issuer_selected : (entries : List (Option Entry)) → HasIssuer entries → IsSelectedIn entries (Some ISSUER_SLOT) (Some (fresh ISSUER))
issuer_selected entries has = by (thing_in entries ISSUER_SLOT) refl has
  where
    by : (o : Option Entry) → thing_in entries ISSUER_SLOT ≡ o → MatchOption o ⊥ (λ entry. entry.aid ≡ ISSUER)
        → (entry : Entry) × (thing_in entries ISSUER_SLOT ≡ Some entry) × (entry.aid ≡ ISSUER)
    by None at is = absurd is
    by (Some entry) at is = (entry, at, is)

-- the lowest closed channel is opened, and holds nothing, as it did
pub opened_shows : (page : ℕ → List ℕ) (card : Kept) (state : State) → KeptRepresents page card state → length state.volatile.channels ≡ CHANNELS
    → (number : ℕ) → number < CHANNELS → number < length card.live.selected → HasLayout card.tables → lowest_closed state.volatile.channels ≡ Some number
    → KeptRepresents page (kept_live card (record { selected = slice_set card.live.selected number (Some ISSUER_SLOT); load = card.live.load; places = card.live.places }))
    (record { registry = state.registry; volatile = with_channel state.volatile number (Some (fresh ISSUER)) })
opened_shows page card state shows four number low within layout found =
    subst (λ (h : List ChannelSession). KeptRepresents page (record { tables = card.tables; live = opened; sessions = h; load = card.load }) (record { registry = state.registry; volatile = after }))
    (set-get_or card.sessions number held.Nothing)
    (channel_shows page card state shows four number low opened after (Some ISSUER_SLOT) (slice_index_or card.live.places number None)
    (held_on card.sessions number) (Some (fresh ISSUER))
    (record { selected = set_at card.live.selected number (Some ISSUER_SLOT) None within; places = same_at card.live.places number None; channels = refl })
    (record {
      selected = issuer_selected card.tables.entries.items layout.issuer;
      place = shows.says.places number low ∙ ap place_in closed;
      holds = subst (λ (c : Option Channel). RepresentsSecureChannel (held_on card.sessions number) (secure_channel_of c)) closed (shows.holds number low);
    })
    shows.says.load shows.loading)
  where
    opened : Live
    opened = record { selected = slice_set card.live.selected number (Some ISSUER_SLOT); load = card.live.load; places = card.live.places }

    after : Volatile
    after = with_channel state.volatile number (Some (fresh ISSUER))

    closed : channel_at state.volatile number ≡ None
    closed = (lowest_is_closed state.volatile.channels number found).1

-- a channel is closed exactly where no slot is selected on it
pub none_selected : (entries : List (Option Entry)) (slot : Option ℕ) (channel : Option Channel) → IsSelectedIn entries slot channel → is_none slot ≡ true
    → channel ≡ None
none_selected entries None None selected none = refl
none_selected entries None (Some channel) selected none = absurd selected
none_selected entries (Some slot) channel selected none = cc

pub some_selected : (entries : List (Option Entry)) (slot : Option ℕ) (channel : Option Channel) → IsSelectedIn entries slot channel → is_none slot ≡ false
    → (is : Channel) × (channel ≡ Some is)
some_selected entries None channel selected some = cc
some_selected entries (Some slot) None selected some = absurd selected
some_selected entries (Some slot) (Some channel) selected some = (channel, refl)
