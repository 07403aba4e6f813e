-- For the code inside. What comes of INITIALIZE UPDATE and EXTERNAL AUTHENTICATE on the channel that they come on.
use Rattle.std.specs.Prelude.{◌≡◌, ℕ, List, [], Result, Ok, Err, Some, None}
use Rattle.apdu_core.specs.declared.reply.Status.{Status}
use Rattle.card_types.specs.Counters.{with_counter_raised}
use Rattle.card_types.specs.Registry.{Counter}
use Rattle.card_types.specs.Represents.{Represents}
use Rattle.card_types.specs.Well.{Well}
use Rattle.card_types.specs.declared.level.Level.{Level}
use Rattle.card_types.specs.declared.tables.Tables.{Tables}
use Rattle.scp03_card.specs.Offer.{Offer}
use Rattle.scp03_card.specs.Session.{session_from}
use Rattle.policy_machine.specs.Admission.{Admitted}
use Rattle.policy_machine.specs.Commands.{Judges}
use Rattle.policy_machine.specs.ExternalAuthenticate.{AnswersOffer}
use Rattle.policy_machine.specs.InitializeUpdate.{AsksForSet, IsOfferOf, offer_body}
use Rattle.policy_machine.specs.State.{Offered, Secured, SecureChannel, channel_at, secure_channel_of}
use Rattle.policy_machine.specs.declared.rule.Rule.{Rule}
use Rattle.card_core.specs.Kept.{RepresentsSecureChannel, without_offer_held}
use Rattle.card_core.specs.declared.channel_session.ChannelSession.{ChannelSession}

-- what the command's channel holds
abbrev pub secure_channel_for : Admitted → SecureChannel
secure_channel_for admitted = secure_channel_of (channel_at admitted.at.volatile admitted.channel)

-- a channel holds what the command's channel does
abbrev pub HoldsFor : ChannelSession → Admitted → Type 0
HoldsFor held admitted = RepresentsSecureChannel held (secure_channel_for admitted)

-- a session was offered: the channel holds the offer, and the tables say the registry with the next counter
pub record IsMade (admitted : Admitted) (page : ℕ → List ℕ) (tables : Tables) (new : ChannelSession) (body : List ℕ) : Type 0 where
  pub owner : List ℕ
  pub counter : Counter
  pub offer : Offer
  pub asked : AsksForSet admitted owner counter
  pub is_offer : IsOfferOf admitted owner counter offer
  pub says : Represents page tables (with_counter_raised admitted.at.registry owner counter.version)
  pub well : Well (with_counter_raised admitted.at.registry owner counter.version)
  pub holds : RepresentsSecureChannel new (Offered offer)
  pub is : body ≡ offer_body admitted.at.registry owner counter offer

abbrev pub OffersAs : Admitted → (ℕ → List ℕ) → Tables → Tables → ChannelSession → ChannelSession → List ℕ → Result Status Rule → Type 0
OffersAs admitted page tables tables' old new body (Ok status) = Judges admitted None × IsMade admitted page tables' new body × (status.0 ≡ 0x9000)
OffersAs admitted page tables tables' old new body (Err rule) =
    Judges admitted (Some rule) × (tables' ≡ tables) × (new ≡ old) × (body ≡ [])

-- the offer became a session, or was lost: but for an offer the channel holds what it held
abbrev pub AnswersAs : Admitted → ChannelSession → ChannelSession → Result Status Rule → Type 0
AnswersAs admitted old new (Ok status) =
    (offer : Offer) × (level : Level) × AnswersOffer admitted offer level × Judges admitted None
    × RepresentsSecureChannel new (Secured (session_from offer level)) × (status.0 ≡ 0x9000)
AnswersAs admitted old new (Err rule) = Judges admitted (Some rule) × (without_offer_held new ≡ without_offer_held old)
