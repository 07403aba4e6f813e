-- Changes of a registry, and the commands that may make them.
use Rattle.std.specs.Prelude.{◌≡◌, ℕ, List, map}
use Rattle.card_types.specs.Registry.{Counter, Registry}
use Rattle.policy_machine.specs.Admission.{InSession, Of}
use Rattle.policy_machine.specs.State.{State}
use Rattle.scp03_card.specs.Opens.{Opens}

-- a sequence counter but for its number
abbrev pub without_number : Counter → Counter
without_number counter = record { owner = counter.owner; version = counter.version; number = 0 }

-- they are the same but for the numbers of sequence counters
pub record IsSameButCounters (before after : Registry) : Type 0 where
  pub life : after.life ≡ before.life
  pub entries : after.entries ≡ before.entries
  pub files : after.files ≡ before.files
  pub keys : after.keys ≡ before.keys
  pub counters : map without_number after.counters ≡ map without_number before.counters
  pub objects : after.objects ≡ before.objects

abbrev pub Changes : Registry → Registry → Type 0
Changes before after = IsSameButCounters before after → ⊥

-- the bytes are a command with secure messaging, which opens in the session of its channel: its C-MAC is the next of the chain
abbrev pub OpensInSession : State → List ℕ → Type 0
OpensInSession state bytes = Of bytes (λ command. InSession state command (λ session. (plain : List ℕ) × Opens session command plain))
