-- For the code inside. The load session that an INSTALL [for load] begins, and the one that a LOAD is for, as the code names it.
use Rattle.std.specs.Prelude.{◌≡◌, ◌≢◌, ℕ, ◌==◌, List, [], ◌∷◌, Option, None, Some, if◌then◌else◌, length}
use Rattle.card_types.specs.Search.{NoneFree}
use Rattle.card_types.specs.Found.{aid_of}
use Rattle.card_types.specs.declared.found.Found.{Found}
use Rattle.card_types.specs.declared.found.Found.TheVariants.{Entry}
use Rattle.card_types.specs.declared.tables.Tables.{Tables}
use Rattle.policy_machine.specs.Admission.{Admitted}
use Rattle.policy_machine.specs.InstallLoad.{file_domain_for}
use Rattle.policy_machine.specs.Sound.{IsHashLength, IsSound}
use Rattle.policy_machine.specs.declared.load.RuleLO.{RuleLO}
use Rattle.policy_machine.specs.declared.load.RuleLO.TheVariants.{LO1, LO2}
use Rattle.content_rules.specs.InstallLoadRequests.{IsLoadInstallOf}
use Rattle.content_rules.specs.declared.install_load.LoadInstallRequest.{LoadInstallRequest}
use Rattle.policy_slots.specs.StateShown.{ForActing, IsLoadNamed}
use Rattle.policy_slots.specs.declared.live.LoadName.{LoadName}

-- The domain of the Executable Load File is in the slot, nothing has the file's AID, and there is room for another file.
pub record FindsDomain (request : LoadInstallRequest) (tables : Tables) (domain slot : ℕ) : Type 0 where
  pub found : ForActing tables domain (λ page admitted. (is : IsLoadInstallOf request admitted.command)
      → aid_of tables (Entry slot) ≡ Some (file_domain_for admitted is.given))
  pub hash : IsHashLength (length request.hash.now)
  pub free : (thing : Found) → aid_of tables thing ≢ Some request.file
  pub room : NoneFree tables.files.items → ⊥

-- the load session of a channel, as it is named
abbrev pub named_on : ℕ → Option LoadName → Option LoadName
named_on number None = None
named_on number (Some load) = if load.channel == number then Some load else None

-- The command is judged by a load session that is named so, and acts on its channel.
pub record IsForLoad (tables : Tables) (load : Option LoadName) (channel : ℕ) (admitted : Admitted) : Type 0 where
  pub named : IsLoadNamed tables.entries.items load admitted.at.volatile.load
  pub on : channel ≡ admitted.channel

-- It is for the last block of the load session with this name.
pub record IsForLast (tables : Tables) (name : LoadName) (admitted : Admitted) : Type 0 where
  pub load : IsForLoad tables (Some name) name.channel admitted
  pub sound : IsSound admitted.at
  pub last : admitted.command.p1 ≡ 0x80

-- its own rules on the number of the block
abbrev pub number_rules : List RuleLO
number_rules = LO1 ∷ LO2 ∷ []
