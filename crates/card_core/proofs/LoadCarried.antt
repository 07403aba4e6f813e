-- What a command that loads does to a card.
use Rattle.std.proofs.Common.{◌≡◌, ℕ, ◌<◌, List, [], Option, Result, Ok, Err, length, refl, sym, ap, subst, ◌∙◌}
use Rattle.std.specs.Prelude.{None, OnErr, slice_index_or}
use Rattle.apdu_core.specs.declared.reply.Status.{Status}
use Rattle.card_types.specs.declared.tables.Tables.{Tables}
use Rattle.card_core.specs.Prelude.{Admitted, CarriesOutBut, Channel, Contents, IsSound, Kept, KeptRepresents, LoadsAs, RepresentsSecureChannel, held_on, kept_of, pages_after, secure_channel_of}
use Rattle.policy_machine.specs.declared.channels.TheConstants.{CHANNELS}
use Rattle.policy_machine.specs.declared.rule.Rule.{Rule}
use Rattle.card_core.proofs.Carrying.{refusal_shows}
use Rattle.card_core.specs.declared.channel_session.ChannelSession.{ChannelSession}
use Rattle.card_core.specs.declared.channels.Channels.{Channels}

-- a refusal has left the load pages, and what is kept
pub begin_left : (page : ℕ → List ℕ) (tables : Tables) (channels channels' : Channels) (result : Result Status Rule) → OnErr result (channels' ≡ channels)
    → OnErr result ((page ≡ page) × (kept_of tables channels' ≡ kept_of tables channels))
begin_left page tables channels channels' (Ok status) same = same
begin_left page tables channels channels' (Err rule) same = (refl, ap (kept_of tables) same)

pub load_left : {F : Type 0} (page : ℕ → List ℕ) (records records' : Contents F) (channels channels' : Channels) (result : Result Status Rule) → channels.loading.writes.items ≡ []
    → OnErr result ((records' ≡ records) × (channels' ≡ channels))
    → OnErr result ((pages_after page channels'.loading.writes.items ≡ page) × (kept_of records'.tables channels' ≡ kept_of records.tables channels))
load_left page records records' channels channels' (Ok status) unwritten same = same
load_left {F} page records records' channels channels' (Err rule) unwritten same = (
  ap (λ (c : Channels). pages_after page c.loading.writes.items) same.1 ∙ ap (pages_after page) unwritten,
  ap (λ (r : Contents F). kept_of r.tables channels') same.0 ∙ ap (kept_of records.tables) same.1,
)

module _ (page after : ℕ → List ℕ) (card left : Kept) (admitted : Admitted) (shows : KeptRepresents page card admitted.at) (sound : IsSound admitted.at) (low : admitted.channel < CHANNELS)
    (body : List ℕ) (sessions : left.sessions ≡ card.sessions) where
  pub loaded_carried : (result : Result Status Rule) → OnErr result ((after ≡ page) × (left ≡ card)) → LoadsAs admitted after left.tables left.live left.load body result
      → CarriesOutBut after admitted left body result
  loaded_carried (Ok status) same loads = (
    loads.done,
    record {
      says = loads.says;
      four = ap (λ (all : List ChannelSession). length all) sessions ∙ shows.four;
      holds = subst (λ (all : List ChannelSession). (number : ℕ) → number < CHANNELS
          → RepresentsSecureChannel (held_on all number) (secure_channel_of (slice_index_or loads.done.state.volatile.channels number None))) (sym sessions)
          (subst (λ (channels : List (Option Channel)). (number : ℕ) → number < CHANNELS
          → RepresentsSecureChannel (held_on card.sessions number) (secure_channel_of (slice_index_or channels number None))) (sym loads.channels) shows.holds);
      loading = loads.kept;
    },
    loads.judges,
    loads.does,
    loads.body_is,
    loads.status_is,
  )
  loaded_carried (Err rule) same (judges, empty) = (
    refusal_shows after left admitted
        (subst (λ (p : ℕ → List ℕ). KeptRepresents p left admitted.at) (sym same.0) (subst (λ (k : Kept). KeptRepresents page k admitted.at) (sym same.1) shows)) sound low rule,
    judges,
    empty,
  )
