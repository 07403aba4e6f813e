-- MANAGE CHANNEL: what the laws over all commands need of the form.
use Rattle.std.proofs.Common.{◌≡◌, ◌+◌, List, [], ◌∷◌, Option, None, Some, ap, inl, refl, sym, ◌∙◌}
use Rattle.std.proofs.lemmas.List.{length-map}
use Rattle.std.specs.List.{position_or_len}
use Rattle.std.specs.Prelude.{cond, is_none, map, nat_lt, not, position}
use Rattle.policy_machine.specs.Prelude.{Channel, is_closed, lowest_closed, manage_channel, selection_of}
use Rattle.policy_machine.specs.declared.manage_channel.RuleMC.TheVariants.{MC1}
use Rattle.policy_machine.specs.declared.rule.Rule.TheVariants.{MC}
use Rattle.policy_machine.proofs.Alike.{IsAlikeForm}
use Rattle.policy_machine.proofs.ChangingBytes.{other_byte}
use Rattle.policy_machine.proofs.FormLaws.{FormLaws, plain_laws}
use Rattle.policy_machine.proofs.ManageChannelLaws.{manage_channel_lawful}

-- the lowest closed channel, by the selections
closed_so : (channel : Option Channel) → is_closed channel ≡ is_none (selection_of channel)
closed_so None = refl
closed_so (Some channel) = refl

first_so : (channels : List (Option Channel)) → position_or_len is_closed channels ≡ position_or_len is_none (map selection_of channels)
first_so [] = refl
first_so (channel ∷ channels) =
    let first = closed_so channel in
    let rest = first_so channels in
    (λ i. cond (not (first i)) (1 + rest i) 0)

lowest_so : (channels : List (Option Channel)) → lowest_closed channels ≡ position is_none (map selection_of channels)
lowest_so channels =
    let first = first_so channels in
    let long = sym (length-map channels selection_of) in
    (λ i. cond (nat_lt (first i) (long i)) (Some (first i)) None)

manage_channel_alike : IsAlikeForm manage_channel
manage_channel_alike (MC MC1) a b alike fails = (
  sym alike.p1 ∙ fails.0,
  lowest_so b.at.volatile.channels ∙ sym (ap (position is_none) alike.selected) ∙ sym (lowest_so a.at.volatile.channels) ∙ fails.1,
)
manage_channel_alike rule a b alike fails = absurd fails

pub manage_channel_laws : FormLaws manage_channel
manage_channel_laws = plain_laws manage_channel manage_channel_lawful (λ admitted aids so. so) (other_byte 0x70 refl) (inl manage_channel_alike)
