-- Where commands lead that a host sends in the session of a channel.
use Rattle.std.proofs.Common.{◌≡◌, ◌≢◌, ℕ, List, [], ◌∷◌, None, Some, refl, sym, subst, inr}
use Rattle.std.specs.Prelude.{MatchOption, true}
use Rattle.apdu_core.specs.Apdu.{Apdu}
use Rattle.apdu_core.specs.ClassBytes.{channel_of, on_channel}
use Rattle.card_types.specs.Privileges.{authorized_management, delegated_management}
use Rattle.card_types.specs.Registry.{LoadFile, Registry, entry_named}
use Rattle.card_types.specs.RegistryChange.{IsFileAdded}
use Rattle.card_types.specs.declared.card_life.CardLife.TheVariants.{Terminated}
use Rattle.policy_machine.specs.Charge.{HoldsPrivilege}
use Rattle.policy_machine.specs.Commands.{HasEffect, Judges}
use Rattle.policy_machine.specs.Run.{Run}
use Rattle.policy_machine.specs.Select.{is_card_locked}
use Rattle.policy_machine.specs.State.{Effect, State, session_on}
use Rattle.policy_machine.specs.Step.{Outcome, Step, outcome_of_effect}
use Rattle.policy_machine.proofs.KeepsSound.{steps_keep_sound}
use Rattle.scp03_card.specs.Protected.{session_reply}
use Rattle.scp03_card.specs.Session.{Session}
use Rattle.scp03_host.specs.Wrapped.{having_sent, wrapped_command}
use Rattle.script_tool.specs.Command.{command_bytes}
use Rattle.cap_pack.specs.Loads.{AreAccepted, sent_in}
use Rattle.cap_pack.proofs.Admitting.{HasOpen, IsSendable, sent_admitted, taken}

-- the card is not locked, and the domain is not locked, manages content in its own right, and is no delegate
pub record MayLoadInto (registry : Registry) (domain : List ℕ) : Type 0 where
  pub card : is_card_locked registry.life ≡ true → ⊥
  pub unlocked : MatchOption (entry_named registry domain) ⊥ (λ entry. entry.life.locked ≡ true) → ⊥
  pub manages : HoldsPrivilege registry authorized_management domain
  pub alone : HoldsPrivilege registry delegated_management domain → ⊥

-- the commands are accepted, and leave the registry with one more file
abbrev pub Leads : ℕ → LoadFile → State → Session → List Apdu → Type 0
Leads channel file state session commands =
    (outcomes : List Outcome) × (last : State) × Run state (sent_in session channel commands) outcomes last
    × AreAccepted session commands outcomes × IsFileAdded file state.registry last.registry

-- a command that is accepted
module _ (state : State) (channel : ℕ) (session : Session) (has : HasOpen state channel session) (command : Apdu) (sendable : IsSendable command)
    (done : Effect) (judges : Judges (taken state channel session has command sendable) None)
    (does : HasEffect (taken state channel session has command sendable) done) where
  abbrev after : Outcome
  after = outcome_of_effect (taken state channel session has command sendable) done

  step : Step state (command_bytes (wrapped_command session command channel)) after
  step = inr (inr (record {
    admitted = taken state channel session has command sendable;
    done = done;
    admits = sent_admitted state channel session has command sendable;
    judges = judges;
    does = does;
    outcome_is = refl;
  }))

  -- leaves the session open
  pub open_after : session_on done.state.volatile (channel_of (on_channel 0x84 channel)) ≡ Some (having_sent session command) → done.state.registry ≡ state.registry
      → HasOpen done.state channel (having_sent session command)
  open_after on same = record {
    sound = steps_keep_sound state (command_bytes (wrapped_command session command channel)) after has.sound step;
    alive = subst (λ (r : Registry). r.life ≢ Terminated) (sym same) has.alive;
    low = has.low;
    on = on;
  }

  module _ (file : LoadFile) (body : done.body ≡ 0x00 ∷ []) (status : done.status ≡ 0x9000) where
    reply : after.reply ≡ session_reply (having_sent session command) (0x00 ∷ []) 0x9000
    reply = (λ i. session_reply (having_sent session command) (body i) (status i))

    -- the others go on from the state after the command
    pub leads_on : (others : List Apdu) → done.state.registry ≡ state.registry → Leads channel file done.state (having_sent session command) others
        → Leads channel file state session (command ∷ others)
    leads_on others same rest =
        (after ∷ rest.0, rest.1, (step, rest.2), (refl, reply, rest.3), subst (λ (r : Registry). IsFileAdded file r rest.1.registry) same rest.4)

    -- the command is the last one
    pub leads_there : IsFileAdded file state.registry done.state.registry → Leads channel file state session (command ∷ [])
    leads_there added = (after ∷ [], done.state, (step, (refl, refl)), (refl, reply, tt), added)
