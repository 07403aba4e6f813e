-- What a refusal leaves.
use Rattle.std.proofs.Common.{◌≡◌, ℕ, ◌<◌, List, [], Bool, true, false, Some, Result, Ok, Err, refl, sym, subst}
use Rattle.std.specs.Prelude.{if◌then◌else◌}
use Rattle.std.specs.Result.{IsErrAnd}
use Rattle.apdu_core.specs.declared.reply.Status.{Status}
use Rattle.card_core.specs.Prelude.{Admitted, CarriesOut, CarriesOutBut, IsSound, Judges, Kept, KeptRepresents, Volatile, channels_refused, held_on, keeps_load, kept_live, kept_of, kept_set, live_without_load, refusal_leaves, refused_at, with_due, with_offer_dropped, without_load, without_offer_held}
use Rattle.card_types.specs.declared.tables.Tables.{Tables}
use Rattle.policy_machine.specs.declared.channels.TheConstants.{CHANNELS}
use Rattle.policy_machine.specs.declared.rule.Rule.{Rule}
use Rattle.card_core.proofs.ChannelChanges.{load_ended_shows, lost_shows}
use Rattle.card_core.specs.declared.channels.Channels.{Channels}

module _ (page : ℕ → List ℕ) (card : Kept) (admitted : Admitted) (shows : KeptRepresents page card admitted.at) (sound : IsSound admitted.at) (low : admitted.channel < CHANNELS) where
  -- it leaves no offer, and no load session that the rule does not keep
  pub refusal_shows : (rule : Rule) → KeptRepresents page (refused_at card admitted.channel rule) (record { registry = admitted.at.registry; volatile = refusal_leaves admitted rule })
  refusal_shows rule = by (keeps_load rule)
    where
      left : Volatile
      left = with_offer_dropped admitted.at.volatile admitted.channel

      lost : Kept
      lost = kept_set card card.live admitted.channel (without_offer_held (held_on card.sessions admitted.channel))

      dropped : KeptRepresents page lost (record { registry = admitted.at.registry; volatile = left })
      dropped = lost_shows page card admitted.at shows sound.fits.channels admitted.channel low

      by : (keeps : Bool)
          → KeptRepresents page (kept_live lost (if keeps then card.live else live_without_load card.live admitted.channel))
          (record { registry = admitted.at.registry; volatile = if keeps then left else without_load left admitted.channel })
      by true = dropped
      by false = load_ended_shows page lost admitted.at.registry left admitted.channel dropped

  -- a refusal that is handed on
  pub refusal_carried : (body : List ℕ) (result : Result Status Rule) (found : Rule) → IsErrAnd result (λ rule. rule ≡ found) → Judges admitted (Some found) → body ≡ []
      → CarriesOutBut page admitted card body result
  refusal_carried body (Ok status) found given judges empty = absurd given
  refusal_carried body (Err rule) found given judges empty = (refusal_shows rule, subst (λ (r : Rule). Judges admitted (Some r)) (sym given) judges, empty)

-- what a refusal ends has ended
pub refused_carried : (page : ℕ → List ℕ) (tables : Tables) (channels channels' : Channels) (admitted : Admitted) (body : List ℕ) (rule : Rule) (number : ℕ)
    → number ≡ admitted.channel → channels' ≡ channels_refused channels number rule
    → CarriesOutBut (with_due page channels.loading) admitted (kept_of tables channels) body (Err rule)
    → CarriesOut (with_due page channels'.loading) admitted (kept_of tables channels') body (Err rule)
refused_carried page tables channels channels' admitted body rule number on ended carried =
    subst (λ (k : Channels). CarriesOut (with_due page k.loading) admitted (kept_of tables k) body (Err rule)) (sym ended)
    (subst (λ (n : ℕ). CarriesOut (with_due page channels.loading) admitted (refused_at (kept_of tables channels) n rule) body (Err rule)) (sym on) carried)

-- where no rule refuses it, nothing is still to end
pub done_carried : (page : ℕ → List ℕ) (card : Kept) (admitted : Admitted) (body : List ℕ) (result : Result Status Rule) → ((rule : Rule) → result ≡ Err rule → ⊥)
    → CarriesOutBut page admitted card body result → CarriesOut page admitted card body result
done_carried page card admitted body (Ok status) passed carried = carried
done_carried page card admitted body (Err rule) passed carried = absurd (passed rule refl)
