-- The offer that a channel holds.
use Rattle.std.proofs.Common.{◌≡◌, None, Some, refl, subst}
use Rattle.card_core.specs.Prelude.{Admitted, IsOffered, KeptOffer, Nothing, Offer, Offered, RepresentsOffer, RepresentsSecureChannel, SecureChannel, Secured, offer_in, offer_on, secure_channel_for}
use Rattle.card_core.specs.declared.channel_session.ChannelSession.{ChannelSession}
use Rattle.card_core.specs.declared.channel_session.ChannelSession.TheVariants as held

held_offer : (kept : KeptOffer) (secure_channel : SecureChannel) → RepresentsSecureChannel (held.Offered kept) secure_channel
    → (offer : Offer) × (offer_in secure_channel ≡ Some offer) × RepresentsOffer kept offer
held_offer kept Nothing holds = absurd holds
held_offer kept (Offered offer) holds = (offer, refl, holds)
held_offer kept (Secured session) holds = absurd holds

-- what the code holds stands for an offer of the model
pub offer_here : (now : ChannelSession) (kept : KeptOffer) → now ≡ held.Offered kept → (admitted : Admitted) → RepresentsSecureChannel now (secure_channel_for admitted)
    → (offer : Offer) × (offer_on admitted.at.volatile admitted.channel ≡ Some offer) × RepresentsOffer kept offer
offer_here now kept is admitted holds =
    held_offer kept (secure_channel_for admitted) (subst (λ (h : ChannelSession). RepresentsSecureChannel h (secure_channel_for admitted)) is holds)

none_held : (now : ChannelSession) (secure_channel : SecureChannel) → RepresentsSecureChannel now secure_channel → (IsOffered now → ⊥) → offer_in secure_channel ≡ None
none_held held.Nothing Nothing holds none = refl
none_held held.Nothing (Offered offer) holds none = absurd holds
none_held held.Nothing (Secured session) holds none = refl
none_held (held.Offered kept) secure_channel holds none = absurd (none tt)
none_held (held.Secured kept) Nothing holds none = refl
none_held (held.Secured kept) (Offered offer) holds none = absurd holds
none_held (held.Secured kept) (Secured session) holds none = refl

-- where none is held, the channel has none
pub no_offer : (now : ChannelSession) (admitted : Admitted) → RepresentsSecureChannel now (secure_channel_for admitted) → (IsOffered now → ⊥)
    → offer_on admitted.at.volatile admitted.channel ≡ None
no_offer now admitted holds none = none_held now (secure_channel_for admitted) holds none

some_held : (now : ChannelSession) (secure_channel : SecureChannel) → RepresentsSecureChannel now secure_channel → IsOffered now → offer_in secure_channel ≡ None → ⊥
some_held held.Nothing secure_channel holds some = absurd some
some_held (held.Offered kept) Nothing holds some = absurd holds
some_held (held.Offered kept) (Offered offer) holds some = λ none. (let clash = none in cc)
some_held (held.Offered kept) (Secured session) holds some = absurd holds
some_held (held.Secured kept) secure_channel holds some = absurd some

pub is_offer : (now : ChannelSession) (admitted : Admitted) → RepresentsSecureChannel now (secure_channel_for admitted) → IsOffered now
    → offer_on admitted.at.volatile admitted.channel ≡ None → ⊥
is_offer now admitted holds some = some_held now (secure_channel_for admitted) holds some
