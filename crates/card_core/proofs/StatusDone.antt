-- A GET STATUS was done.
use Rattle.std.proofs.Common.{◌≡◌, ℕ, ◌<◌, ◌≤◌, List, [], ◌∷◌, Option, None, Some, length, inl, inr, refl, sym, subst, ◌∙◌}
use Rattle.apdu_core.specs.declared.reply.Status.{Status}
use Rattle.card_types.specs.declared.tables.Tables.{Tables}
use Rattle.policy_machine.proofs.Judging.{does_so, judged}
use Rattle.card_core.specs.Prelude.{ActsIn, Admitted, Effect, GetStatusFails, HasEffect, IsFirst, IsLastShown, IsLeftAt, IsPart, IsRequestOf, IsShown, Judges, RepresentsState, Thing, Volatile, get_status, get_status_rules, last_aid, live_with_place, part_limit, place_after, place_of, with_place}
use Rattle.policy_machine.specs.declared.channels.TheConstants.{CHANNELS}
use Rattle.policy_machine.specs.declared.rule.Rule.{Rule}
use Rattle.policy_rules.specs.declared.get_status.ListRequest.{ListRequest}
use Rattle.policy_rules.specs.declared.request.Request.TheVariants.{List as ListStatus}
use Rattle.policy_slots.specs.declared.live.Live.{Live}
use Rattle.policy_slots.specs.declared.live.Place.{Place}
use Rattle.card_core.proofs.PlaceSet.{placed_shows}

module _ (admitted : Admitted) where
  abbrev leaves : Volatile → List ℕ → ℕ → Effect
  leaves volatile body status = record { state = record { registry = admitted.at.registry; volatile = volatile }; body = body; status = status }

  whole_left : (bytes : List ℕ) (shown left : List Thing) → IsLastShown None shown left → IsLeftAt admitted (leaves admitted.at.volatile bytes 0x9000) shown left
  whole_left bytes shown [] ends = (refl, refl)
  whole_left bytes shown (next ∷ left) ends = absurd ends

  more_left : (bytes last : List ℕ) (shown left : List Thing) → IsLastShown (Some last) shown left
      → IsLeftAt admitted (leaves (with_place admitted.at.volatile admitted.channel (place_after admitted shown)) bytes 0x6310) shown left
  more_left bytes last shown [] ends = absurd ends
  more_left bytes last shown (next ∷ left) ends = (refl, refl)

  last_is : (last : List ℕ) (shown left : List Thing) → IsLastShown (Some last) shown left → last_aid [] shown ≡ last
  last_is last shown [] ends = absurd ends
  last_is last shown (next ∷ left) ends = ends

  module _ (request : ListRequest) (of : IsRequestOf (ListStatus request) admitted.command) where
    -- it was refused
    pub listing_refused : (rule : Rule) → IsFirst (GetStatusFails admitted) get_status_rules (Some rule) → Judges admitted (Some rule)
    listing_refused rule first = judged get_status (λ holds here. inl here) admitted of.form refl (Some rule) first

    module _ (first : IsFirst (GetStatusFails admitted) get_status_rules None) (page : ℕ → List ℕ) (tables : Tables) (bytes : List ℕ)
        (room : length bytes ≤ part_limit) (status : Status) where
      judges : Judges admitted None
      judges = judged get_status (λ holds here. inl here) admitted of.form refl None first

      shows_part : (volatile : Volatile) (word : ℕ) (ends : Option (List ℕ)) (part : IsPart admitted bytes ends) → IsLeftAt admitted (leaves volatile bytes word) part.shown part.left
          → HasEffect admitted (leaves volatile bytes word)
      shows_part volatile word ends part left_at = does_so get_status (λ holds here. inl here) admitted of.form _ (record {
        shown = part.shown;
        left = part.left;
        listing = part.listing;
        body = part.body;
        fits = room;
        full = part.full;
        registry = refl;
        left_at = left_at;
      })

      -- nothing is left
      pub whole_done : (live : Live) → RepresentsState page tables live admitted.at → IsPart admitted bytes None → status.0 ≡ 0x9000
          → IsShown admitted page tables live bytes status
      whole_done live says part word = record {
        judges = judges;
        done = leaves admitted.at.volatile bytes 0x9000;
        does = shows_part admitted.at.volatile 0x9000 None part (whole_left bytes part.shown part.left part.ends);
        registry = refl;
        volatile = inl refl;
        says = says;
        body_is = refl;
        status_is = word;
      }

      -- the channel has a place then
      pub placed_done : (domain : ℕ) → ActsIn page tables domain admitted → (live after : Live) (channel : ℕ) (kept : Place) (last : List ℕ)
          → RepresentsState page tables live admitted.at → channel < CHANNELS → length live.places ≡ CHANNELS → channel ≡ admitted.channel
          → after ≡ live_with_place live channel kept → kept.kind ≡ request.kind → kept.body.items ≡ request.body.now → kept.last ≡ last
          → IsPart admitted bytes (Some last) → status.0 ≡ 0x6310 → IsShown admitted page tables after bytes status
      placed_done domain acts live after channel kept last says low four here set kind body is_last part word =
          let below = subst (λ (n : ℕ). n < CHANNELS) here low in
          let place = place_after admitted part.shown in
          let same : place_of kept ≡ place =
          (λ i. record {
            kind = (kind ∙ of.means.kind) i;
            body = (body ∙ of.means.whole) i;
            last = (is_last ∙ sym (last_is last part.shown part.left part.ends)) i;
          }) in
          let set_here : after ≡ live_with_place live admitted.channel kept = subst (λ (n : ℕ). after ≡ live_with_place live n kept) here set in
          record {
            judges = judges;
            done = leaves (with_place admitted.at.volatile admitted.channel place) bytes 0x6310;
            does = shows_part (with_place admitted.at.volatile admitted.channel place) 0x6310 (Some last) part (more_left bytes last part.shown part.left part.ends);
            registry = refl;
            volatile = inr (place, refl);
            says = subst (λ (l : Live). RepresentsState page tables l (record { registry = admitted.at.registry; volatile = with_place admitted.at.volatile admitted.channel place }))
                (sym set_here)
                (placed_shows page tables domain admitted acts live says below (subst (λ (n : ℕ). admitted.channel < n) (sym four) below) kept place same);
            body_is = refl;
            status_is = word;
          }
