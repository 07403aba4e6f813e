-- For the code inside. What comes of a protected command before its own rules are judged.
use Rattle.std.specs.Prelude.{◌≡◌, ℕ, List, Result, Ok, Err, None, MatchOption, take}
use Rattle.apdu_core.specs.Apdu.{Apdu}
use Rattle.scp03_card.specs.Opens.{Gives, IsAuthentic, Opens, accepting, field_of}
use Rattle.policy_machine.specs.State.{Secured, SecureChannel, session_in}
use Rattle.policy_machine.specs.declared.rule.RuleG.{RuleG}
use Rattle.policy_machine.specs.declared.rule.RuleG.TheVariants.{G1, G2, G3, G4, G5, G6, G7, G8}
use Rattle.card_core.specs.Kept.{RepresentsSecureChannel}
use Rattle.card_core.specs.declared.channel_session.ChannelSession.{ChannelSession}
use Rattle.card_core.specs.declared.channel_session.ChannelSession.TheVariants as held

-- on a channel that holds this, the command opens to the first of these bytes, or is refused by one of the rules on secure
-- messaging
abbrev pub OpensAs : Apdu → SecureChannel → ChannelSession → ChannelSession → List ℕ → Result ℕ RuleG → Type 0
OpensAs command secure_channel old new plain (Ok count) =
    MatchOption (session_in secure_channel) ⊥ (λ session. Opens session command (take count plain) × RepresentsSecureChannel new (Secured (accepting session command)))
OpensAs command secure_channel old new plain (Err G6) = (session_in secure_channel ≡ None) × (new ≡ old)
OpensAs command secure_channel old new plain (Err G7) =
    (new ≡ held.Nothing) × MatchOption (session_in secure_channel) ⊥ (λ session. IsAuthentic session command → ⊥)
OpensAs command secure_channel old new plain (Err G8) =
    (new ≡ held.Nothing)
    × MatchOption (session_in secure_channel) ⊥ (λ session.
    IsAuthentic session command × ((bytes : List ℕ) → Gives (accepting session command) (field_of command) bytes → ⊥))
OpensAs command secure_channel old new plain (Err G1) = ⊥
OpensAs command secure_channel old new plain (Err G2) = ⊥
OpensAs command secure_channel old new plain (Err G3) = ⊥
OpensAs command secure_channel old new plain (Err G4) = ⊥
OpensAs command secure_channel old new plain (Err G5) = ⊥
