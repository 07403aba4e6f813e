-- MANAGE CHANNEL (ISO/IEC 7816-4:2013, 11.1.2; GlobalPlatform Card Specification 2.3.1, 11.7): opens a logical channel, with
-- the Issuer Security Domain selected, or closes one.
use Rattle.std.specs.Prelude.{◌≡◌, ◌⊎◌, ℕ, ◌<◌, ◌≤◌, List, [], ◌∷◌, Bool, true, false, Option, None, Some, MatchOption, position, codes}
use Rattle.card_types.specs.declared.factory.TheConstants.{ISSUER}
use Rattle.policy_machine.specs.Admission.{Admitted}
use Rattle.policy_machine.specs.CommandForm.{CommandForm, unreceipted_form}
use Rattle.policy_machine.specs.State.{Effect, Channel, channel_at, fresh, with_channel, without_channel}
use Rattle.policy_machine.specs.Refusal.{Refusal, refusal}
use Rattle.policy_machine.specs.declared.channels.TheConstants.{CHANNELS}
use Rattle.policy_machine.specs.declared.rule.Rule.{Rule}
use Rattle.policy_machine.specs.declared.rule.Rule.TheVariants.{MC}
use Rattle.policy_machine.specs.declared.manage_channel.RuleMC.{RuleMC}
use Rattle.policy_machine.specs.declared.manage_channel.RuleMC.TheVariants.{MC1}

-- 00 00 opens a channel, 80 and the number of one closes it, but for channel 0
abbrev pub ManageChannelParameters : ℕ → ℕ → Type 0
ManageChannelParameters p1 p2 = ((p1 ≡ 0x00) × (p2 ≡ 0x00)) ⊎ ((p1 ≡ 0x80) × (1 ≤ p2) × (p2 < CHANNELS))

abbrev pub ManageChannelField : List ℕ → Type 0
ManageChannelField body = body ≡ []

abbrev pub is_closed : Option Channel → Bool
is_closed None = true
is_closed (Some channel) = false

abbrev pub lowest_closed : List (Option Channel) → Option ℕ
lowest_closed channels = position is_closed channels

abbrev pub manage_channel_refusal : RuleMC → Refusal
manage_channel_refusal MC1 = refusal (codes "MC1") 0x6A81

abbrev pub manage_channel_rules : List Rule
manage_channel_rules = MC MC1 ∷ []

abbrev pub ManageChannelFails : Admitted → Rule → Type 0
-- a channel is to be opened, and none is closed
ManageChannelFails admitted (MC MC1) = (admitted.command.p1 ≡ 0x00) × (lowest_closed admitted.at.volatile.channels ≡ None)
ManageChannelFails admitted rule = ⊥

-- The channel is opened, and its number answered.
abbrev pub IsOpened : Admitted → Effect → ℕ → Type 0
IsOpened admitted done number = done ≡ record {
  state = record { registry = admitted.at.registry; volatile = with_channel admitted.at.volatile number (Some (fresh ISSUER)) };
  body = number ∷ [];
  status = 0x9000;
}

-- A warning says that the channel was closed already.
abbrev pub IsClosedAlready : Admitted → Effect → Type 0
IsClosedAlready admitted done = done ≡ record { state = admitted.at; body = []; status = 0x6200 }

-- The channel is closed, with all that it has.
abbrev pub IsClosed : Admitted → Effect → Type 0
IsClosed admitted done = done ≡ record {
  state = record { registry = admitted.at.registry; volatile = without_channel admitted.at.volatile admitted.command.p2 };
  body = [];
  status = 0x9000;
}

-- MANAGE CHANNEL opens the lowest closed channel, or closes the one named
abbrev pub ManageChannelEffect : Admitted → Effect → Type 0
ManageChannelEffect admitted done =
    ((admitted.command.p1 ≡ 0x00) × MatchOption (lowest_closed admitted.at.volatile.channels) ⊥ (IsOpened admitted done))
    ⊎ ((admitted.command.p1 ≡ 0x80)
    × MatchOption (channel_at admitted.at.volatile admitted.command.p2) (IsClosedAlready admitted done) (λ channel. IsClosed admitted done))

-- MANAGE CHANNEL
abbrev pub manage_channel : CommandForm
manage_channel = unreceipted_form 0x70 ManageChannelParameters (λ p1 p2. ManageChannelField) manage_channel_rules ManageChannelFails ManageChannelEffect
