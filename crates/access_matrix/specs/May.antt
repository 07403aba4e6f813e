-- When a security domain may do a deed: a card that is powered on lets its host select the domain and open a session, and accepts the
-- command there.
use Rattle.std.specs.Prelude.{◌≡◌, ◌≢◌, ℕ, List, None, MatchOption, replicate}
use Rattle.apdu_core.specs.Apdu.{Apdu}
use Rattle.card_types.specs.Registry.{Registry}
use Rattle.card_types.specs.declared.card_life.CardLife.TheVariants.{Terminated}
use Rattle.policy_machine.specs.CommandForm.{FailsFirst}
use Rattle.policy_machine.specs.InitializeUpdate.{initialize_update}
use Rattle.policy_machine.specs.Select.{least_fitting}
use Rattle.access_matrix.specs.Commands.{IsCommandOf, form_of}
use Rattle.access_matrix.specs.There.{judged_there, plain}
use Rattle.access_matrix.specs.declared.deed.Deed.{Deed}

-- SELECT of the whole AID selects this domain, and none with a longer AID
abbrev pub IsSelectable : Registry → List ℕ → Type 0
IsSelectable registry domain = MatchOption (least_fitting registry domain) ⊥ (λ entry. entry.aid ≡ domain)

-- INITIALIZE UPDATE with the lowest key version number, whatever the challenge
abbrev pub initialize : Apdu
initialize = plain 0x50 0x00 0x00 (replicate 8 0x00)

pub record May (registry : Registry) (domain : List ℕ) (deed : Deed) : Type 0 where
  pub living : registry.life ≢ Terminated
  pub selectable : IsSelectable registry domain
  pub offers : FailsFirst initialize_update (judged_there registry domain initialize) None
  pub command : Apdu
  pub is_command : IsCommandOf registry domain deed command
  pub accepted : FailsFirst (form_of deed) (judged_there registry domain command) None
