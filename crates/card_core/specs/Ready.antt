-- For the code inside. What stands when a command's own rules are to be judged.
use Rattle.std.specs.Prelude.{◌≡◌, ◌≢◌, ◌<◌, ℕ, List, [], None, Some, Contains, slice_index_or, true}
use Rattle.policy_machine.specs.Classes.{managing}
use Rattle.policy_machine.specs.declared.instruction.TheConstants.{MANAGE_CHANNEL, SELECT}
use Rattle.policy_machine.specs.declared.channels.TheConstants.{CHANNELS}
use Rattle.rec_store.specs.Contents.{Contents}
use Rattle.card_core.specs.Domains.{is_domain_in}
use Rattle.card_core.specs.Kept.{AreCards, IsInSession, held_on}
use Rattle.card_core.specs.declared.admit.Received.{Received}
use Rattle.card_core.specs.declared.channels.Channels.{Channels}

-- Nothing is staged or to be written, and nothing is answered yet. What is selected on the command's channel takes the instruction,
-- and one of card content management comes in a session.
pub record IsReady {F : Type 0} (ins : ℕ) (records : Contents F) (channels : Channels)
    (received : Received) (reply : List ℕ) : Type 0 where
  pub live : records.live ≡ true
  pub clean : records.staged ≡ []
  pub cards : AreCards records.tables
  pub channel : received.channel < CHANNELS
  pub selected : slice_index_or channels.live.selected received.channel None ≡ Some received.selected
  pub domain : ins ≢ SELECT → ins ≢ MANAGE_CHANNEL → is_domain_in records.tables.entries.items received.selected ≡ true
  pub secured : Contains managing ins → IsInSession (held_on channels.sessions received.channel)
  pub unwritten : channels.loading.writes.items ≡ []
  pub empty : reply ≡ []
