-- What the commands of the secure channel do to a card.
use Rattle.std.proofs.Common.{◌≡◌, ℕ, ◌<◌, List, [], length, Option, None, Some, Result, Ok, Err, inr, refl, sym, ap, subst, ◌∙◌}
use Rattle.std.proofs.lemmas.Bool.Decides.{eqb_tells}
use Rattle.std.specs.Prelude.{slice_index_or, slice_set}
use Rattle.std.proofs.lemmas.List.{get_or_default}
use Rattle.apdu_core.specs.declared.reply.Status.{Status}
use Rattle.card_types.specs.declared.tables.Entry.{Entry}
use Rattle.card_types.specs.declared.tables.Tables.{Tables}
use Rattle.card_core.specs.Prelude.{ActsIn, Admitted, AnswersAs, CarriesOutBut, Channel, HoldsFor, IsSameButPlace, IsSound, KeepsFree, KeepsSelected, Kept, KeptRepresents, Lists, LoadsAs, Manages, OffersAs, RepresentsChannels, RepresentsLoading, RepresentsSecureChannel, TakesCommand, Volatile, channel_at, channel_at_place, domain_aid, external_authenticate, held_on, initialize_update, kept_live, kept_set, live_refused, load_slot, refusal_leaves, secure_channel_for, secure_channel_of, with_place, without_offer_held}
use Rattle.policy_machine.proofs.Judging.{does_so}
use Rattle.std.proofs.Common.{inl}
use Rattle.std.proofs.lemmas.List.{get_or-set_same, set-set}
use Rattle.policy_machine.proofs.SetChannel.{set_other, set_same}
use Rattle.policy_machine.specs.declared.channels.TheConstants.{CHANNELS}
use Rattle.policy_machine.specs.declared.rule.Rule.{Rule}
use Rattle.policy_slots.proofs.Selected.{selected_acts}
use Rattle.policy_slots.specs.declared.live.Live.{Live}
use Rattle.load_session.specs.declared.session.LoadSession.{LoadSession}
use Rattle.std.specs.Prelude.{OnErr}
use Rattle.card_core.specs.declared.channel_session.ChannelSession.{ChannelSession}
use Rattle.card_core.specs.declared.channel_session.ChannelSession.TheVariants as held
use Rattle.card_core.proofs.Carrying.{refusal_shows}
use Rattle.card_core.proofs.FreePages.{files_free}
use Rattle.card_core.proofs.ChannelChanges.{held_same, says_kept, says_over, secure_channel_shows}
use Rattle.card_core.proofs.LoadCarried.{loaded_carried}
use Rattle.card_core.proofs.LoadsKept.{kept_loading, over_loading}

-- a place in a listing changes nothing of what the channels hold
still_held : (all : List ChannelSession) (volatile : Volatile) (number : ℕ) → length volatile.channels ≡ CHANNELS → number < CHANNELS → RepresentsChannels all volatile
    → (after : Volatile) → IsSameButPlace volatile number after → RepresentsChannels all after
still_held all volatile number four low holds after (inl same) = subst (RepresentsChannels all) (sym same) holds
still_held all volatile number four low holds after (inr (place, is)) =
    subst (RepresentsChannels all) (sym is) (λ other within. elim (eqb_tells other number) [
      | inl same ↦
          (let here = ap (channel_at (with_place volatile number place)) same.1
          ∙ set_same volatile number (channel_at_place place (channel_at volatile number)) (subst (λ (n : ℕ). number < n) (sym four) low) in
          subst (RepresentsSecureChannel (held_on all other)) (sym (ap secure_channel_of here ∙ so (channel_at volatile number)))
          (subst (λ (n : ℕ). RepresentsSecureChannel (held_on all other) (secure_channel_of (channel_at volatile n))) same.1 (holds other within)))
      | inr differs ↦
          subst (RepresentsSecureChannel (held_on all other))
          (sym (ap secure_channel_of (set_other volatile number other (channel_at_place place (channel_at volatile number)) differs.1))) (holds other within)
    ])
  where
    so : (channel : Option Channel) → secure_channel_of (channel_at_place place channel) ≡ secure_channel_of channel
    so None = refl
    so (Some channel) = refl

-- nor of the load session
still_loading : (page : ℕ → List ℕ) (tables : Tables) (kept : Option LoadSession) (volatile : Volatile) (number : ℕ) → RepresentsLoading page tables kept volatile.load
    → (after : Volatile) → IsSameButPlace volatile number after → RepresentsLoading page tables kept after.load
still_loading page tables kept volatile number loading after (inl same) = subst (λ (v : Volatile). RepresentsLoading page tables kept v.load) (sym same) loading
still_loading page tables kept volatile number loading after (inr (place, is)) = subst (λ (v : Volatile). RepresentsLoading page tables kept v.load) (sym is) loading

-- what is kept, with other tables
abbrev pub kept_over : Kept → Tables → Kept
kept_over card tables = record { tables = tables; live = card.live; sessions = card.sessions; load = card.load }

module _ (page : ℕ → List ℕ) (card : Kept) (admitted : Admitted) (shows : KeptRepresents page card admitted.at) (sound : IsSound admitted.at) (low : admitted.channel < CHANNELS) where
  abbrev was : ChannelSession
  was = held_on card.sessions admitted.channel

  -- EXTERNAL AUTHENTICATE
  pub answer_carried : (slot : ℕ) (now : ChannelSession) (result : Result Status Rule) → TakesCommand external_authenticate admitted.command
      → slice_index_or card.live.selected admitted.channel None ≡ Some slot → AnswersAs admitted was now result
      → CarriesOutBut page admitted (kept_set card card.live admitted.channel now) [] result
  answer_carried slot now (Ok status) takes opened (offer, level, answers, judges, holds, word) = (
    _,
    secure_channel_shows page card admitted.at shows sound.fits.channels admitted.channel low slot now _ opened holds,
    judges,
    does_so external_authenticate (λ holds here. inl here) admitted takes _
        (record { offer = offer; level = level; answers = answers; registry = refl; volatile = refl; body = refl; status = refl }),
    refl,
    word,
  )
  answer_carried slot now (Err rule) takes opened (judges, kept) = (
    subst (λ (h : List ChannelSession). KeptRepresents page (record { tables = card.tables; live = live_refused rule admitted.channel card.live; sessions = h; load = card.load })
        (record { registry = admitted.at.registry; volatile = refusal_leaves admitted rule })) (sym dropped) (refusal_shows page card admitted shows sound low rule),
    judges,
    refl,
  )
    where
      within : admitted.channel < length card.sessions
      within = subst (λ (n : ℕ). admitted.channel < n) (sym shows.four) low

      dropped : slice_set (slice_set card.sessions admitted.channel now) admitted.channel (without_offer_held (held_on (slice_set card.sessions admitted.channel now) admitted.channel))
          ≡ slice_set card.sessions admitted.channel (without_offer_held was)
      dropped =
          ap (λ (h : ChannelSession). slice_set (slice_set card.sessions admitted.channel now) admitted.channel (without_offer_held h))
          (get_or-set_same card.sessions admitted.channel now held.Nothing within)
          ∙ ap (slice_set (slice_set card.sessions admitted.channel now) admitted.channel) kept
          ∙ set-set card.sessions admitted.channel now (without_offer_held was)

  -- INITIALIZE UPDATE
  pub offer_carried : (slot : ℕ) (tables' : Tables) (now : ChannelSession) (body : List ℕ) (result : Result Status Rule) → TakesCommand initialize_update admitted.command
      → slice_index_or card.live.selected admitted.channel None ≡ Some slot → tables'.entries.items ≡ card.tables.entries.items → tables'.files.items ≡ card.tables.files.items
      → OffersAs admitted page card.tables tables' was now body result
      → CarriesOutBut page admitted (kept_set (kept_over card tables') card.live admitted.channel now) body result
  offer_carried slot tables' now body (Ok status) takes opened entries files (judges, made, word) =
      let after = secure_channel_shows page card admitted.at shows sound.fits.channels admitted.channel low slot now _ opened made.holds in (
        _,
        record {
          says = says_over page card.tables tables' card.live _ _ _ entries made.says refl after.says;
          four = after.four;
          holds = after.holds;
          loading = over_loading page card.tables tables' card.load admitted.at.volatile.load (files_free card.tables tables' files)
              (λ kept there. ap (λ (es : List (Option Entry)). domain_aid es (load_slot kept)) entries) shows.loading;
        },
        judges,
        does_so initialize_update (λ holds here. inl here) admitted takes _ (record {
          owner = made.owner;
          counter = made.counter;
          offer = made.offer;
          asked = made.asked;
          is_offer = made.is_offer;
          registry = refl;
          volatile = refl;
          body = made.is;
          status = refl;
        }),
        refl,
        word,
      )
  offer_carried slot tables' now body (Err rule) takes opened entries files (judges, same, kept, empty) = (
    refusal_shows page (kept_set (kept_over card tables') card.live admitted.channel now) admitted
        (subst (λ (t : Tables). KeptRepresents page (kept_set (kept_over card t) card.live admitted.channel now) admitted.at) (sym same)
        (held_same page card admitted.at admitted.channel now (sym kept) shows)) sound low rule,
    judges,
    empty,
  )

  -- card content management
  pub managed_carried : (tables' : Tables) (body : List ℕ) (result : Result Status Rule) → KeepsSelected card.live card.tables.entries.items tables'.entries.items
      → KeepsFree card.tables tables' → Manages admitted page card.tables tables' body result → CarriesOutBut page admitted (kept_over card tables') body result
  managed_carried tables' body (Ok status) keeps free managed = (
    managed.done,
    record {
      says = says_kept page card.tables tables' card.live admitted.at keeps _ _ sound managed.says managed.volatile shows.says;
      four = shows.four;
      holds = subst (RepresentsChannels card.sessions) (sym managed.volatile) shows.holds;
      loading = subst (λ (v : Volatile). RepresentsLoading page tables' card.load v.load) (sym managed.volatile)
          (kept_loading page card.tables tables' card.live admitted.at keeps free sound shows.says card.load shows.loading);
    },
    managed.judges,
    managed.does,
    managed.body_is,
    managed.status_is,
  )
  managed_carried tables' body (Err rule) keeps free (judges, same, empty) = (
    refusal_shows page (kept_over card tables') admitted (subst (λ (t : Tables). KeptRepresents page (kept_over card t) admitted.at) (sym same) shows) sound low rule,
    judges,
    empty,
  )

  -- GET STATUS
  pub listing_carried : (live' : Live) (body : List ℕ) (result : Result Status Rule) → Lists admitted page card.tables card.live live' body result
      → CarriesOutBut page admitted (kept_live card live') body result
  listing_carried live' body (Ok status) shown = (
    shown.done,
    record {
      says = shown.says;
      four = shows.four;
      holds = still_held card.sessions admitted.at.volatile admitted.channel sound.fits.channels low shows.holds shown.done.state.volatile shown.volatile;
      loading = still_loading page card.tables card.load admitted.at.volatile admitted.channel shows.loading shown.done.state.volatile shown.volatile;
    },
    shown.judges,
    shown.does,
    shown.body_is,
    shown.status_is,
  )
  listing_carried live' body (Err rule) (judges, same, empty) = (
    refusal_shows page (kept_live card live') admitted (subst (λ (l : Live). KeptRepresents page (kept_live card l) admitted.at) (sym same) shows) sound low rule,
    judges,
    empty,
  )

-- the channel that a command comes on, as the code names it, and the slot that is selected there
module _ (page : ℕ → List ℕ) (card : Kept) (admitted : Admitted) (shows : KeptRepresents page card admitted.at) (sound : IsSound admitted.at)
    (channel slot : ℕ) (below : channel < CHANNELS) (here : channel ≡ admitted.channel) (selected : slice_index_or card.live.selected channel None ≡ Some slot) where
  pub low : admitted.channel < CHANNELS
  low = subst (λ (n : ℕ). n < CHANNELS) here below

  pub opened : slice_index_or card.live.selected admitted.channel None ≡ Some slot
  opened = subst (λ (n : ℕ). slice_index_or card.live.selected n None ≡ Some slot) here selected

  pub held_there : (place : ℕ) (other : ChannelSession) → place ≡ channel → slice_index_or card.sessions place other ≡ held_on card.sessions admitted.channel
  held_there place other is =
      ap (λ (n : ℕ). slice_index_or card.sessions n other) (is ∙ here)
      ∙ get_or_default card.sessions admitted.channel other held.Nothing (subst (λ (n : ℕ). admitted.channel < n) (sym shows.four) low)

  -- what is held there stands for what the channel holds in the model
  pub holds_for : (place : ℕ) (other : ChannelSession) → place ≡ channel → HoldsFor (slice_index_or card.sessions place other) admitted
  holds_for place other is = subst (λ (h : ChannelSession). RepresentsSecureChannel h (secure_channel_for admitted)) (sym (held_there place other is)) (shows.holds admitted.channel low)

  -- the slot is that of the domain that the command acts for
  pub acts_for : ActsIn page card.tables slot admitted
  acts_for = selected_acts page card.tables card.live admitted admitted.channel slot shows.says sound low opened refl

  pub managed_done : (tables' : Tables) (body : List ℕ) (result : Result Status Rule) → KeepsSelected card.live card.tables.entries.items tables'.entries.items
      → KeepsFree card.tables tables' → Manages admitted page card.tables tables' body result → CarriesOutBut page admitted (kept_over card tables') body result
  managed_done = managed_carried page card admitted shows sound low

  -- what the commands of the secure channel, GET STATUS, INSTALL [for load] and LOAD do for this domain
  module _ (place : ℕ) (other : ChannelSession) (is : place ≡ channel) (now : ChannelSession) where
    pub answer_done : (result : Result Status Rule) → TakesCommand external_authenticate admitted.command
        → (HoldsFor (slice_index_or card.sessions place other) admitted → AnswersAs admitted (slice_index_or card.sessions place other) now result)
        → CarriesOutBut page admitted (kept_set card card.live place now) [] result
    answer_done result takes answers =
        subst (λ (n : ℕ). CarriesOutBut page admitted (kept_set card card.live n now) [] result) (sym (is ∙ here))
        (answer_carried page card admitted shows sound low slot now result takes opened
        (subst (λ (h : ChannelSession). AnswersAs admitted h now result) (held_there place other is) (answers (holds_for place other is))))

    pub offer_done : (tables' : Tables) (body : List ℕ) (result : Result Status Rule) → TakesCommand initialize_update admitted.command
        → tables'.entries.items ≡ card.tables.entries.items → tables'.files.items ≡ card.tables.files.items
        → (ActsIn page card.tables slot admitted → OffersAs admitted page card.tables tables' (slice_index_or card.sessions place other) now body result)
        → CarriesOutBut page admitted (kept_set (kept_over card tables') card.live place now) body result
    offer_done tables' body result takes entries files offers =
        subst (λ (n : ℕ). CarriesOutBut page admitted (kept_set (kept_over card tables') card.live n now) body result) (sym (is ∙ here))
        (offer_carried page card admitted shows sound low slot tables' now body result takes opened entries files
        (subst (λ (h : ChannelSession). OffersAs admitted page card.tables tables' h now body result) (held_there place other is) (offers acts_for)))

  pub listing_done : (live' : Live) (body : List ℕ) (result : Result Status Rule) → (ActsIn page card.tables slot admitted → Lists admitted page card.tables card.live live' body result)
      → CarriesOutBut page admitted (kept_live card live') body result
  listing_done live' body result lists = listing_carried page card admitted shows sound low live' body result (lists acts_for)

  pub loading_done : (after : ℕ → List ℕ) (left : Kept) (body : List ℕ) (result : Result Status Rule) → left.sessions ≡ card.sessions → OnErr result ((after ≡ page) × (left ≡ card))
      → (ActsIn page card.tables slot admitted → LoadsAs admitted after left.tables left.live left.load body result) → CarriesOutBut after admitted left body result
  loading_done after left body result sessions same loads = loaded_carried page after card left admitted shows sound low body sessions result same (loads acts_for)
