-- For the code inside. What a request of the code stands for.
use Rattle.std.specs.Prelude.{◌≡◌, ◌≢◌, ℕ, ◌<◌, ◌≤◌, List, [], ◌∷◌, Result, Ok, Err, length}
use Rattle.apdu_core.specs.Apdu.{Apdu}
use Rattle.card_types.specs.Level.{code_of}
use Rattle.policy_machine.specs.CardStatus.{managed_card_status}
use Rattle.policy_machine.specs.CommandForm.{CommandForm}
use Rattle.policy_machine.specs.Commands.{TakesCommand, Takes}
use Rattle.policy_machine.specs.DeleteKey.{Chooses, managed_delete_key}
use Rattle.policy_machine.specs.DeleteObject.{managed_delete_object}
use Rattle.policy_machine.specs.EntryStatus.{managed_entry_status}
use Rattle.policy_machine.specs.ExternalAuthenticate.{external_authenticate}
use Rattle.policy_machine.specs.Extradition.{managed_extradition}
use Rattle.policy_machine.specs.GetData.{get_data, tag_of}
use Rattle.policy_machine.specs.GetStatus.{get_status}
use Rattle.policy_machine.specs.InitializeUpdate.{initialize_update}
use Rattle.policy_machine.specs.InstallApplication.{managed_install}
use Rattle.policy_machine.specs.InstallLoad.{install_load}
use Rattle.policy_machine.specs.Load.{loading}
use Rattle.policy_machine.specs.MakeSelectable.{managed_selectable}
use Rattle.policy_machine.specs.ManageChannel.{manage_channel}
use Rattle.policy_machine.specs.PutKey.{HasKeyFields, SentKey, managed_put_key}
use Rattle.policy_machine.specs.Select.{select}
use Rattle.policy_machine.specs.StoreData.{managed_store_data}
use Rattle.policy_machine.specs.declared.channels.TheConstants.{CHANNELS}
use Rattle.policy_machine.specs.declared.instruction.TheConstants.{EXTERNAL_AUTHENTICATE, GET_STATUS, LOAD}
use Rattle.policy_machine.specs.declared.rule.Rule.{Rule}
use Rattle.policy_machine.specs.ManagedForm.{command_form}
use Rattle.policy_machine.specs.Malformed.{IsMalformed}
use Rattle.content_rules.specs.DeleteObjectRequests.{IsDeletionRequest}
use Rattle.content_rules.specs.ExtraditionRequests.{IsExtraditionRequest}
use Rattle.content_rules.specs.InstallApplicationRequests.{IsInstallRequest}
use Rattle.content_rules.specs.InstallLoadRequests.{IsLoadInstallRequest}
use Rattle.content_rules.specs.LoadRequests.{IsLoadRequest}
use Rattle.content_rules.specs.MakeSelectableRequests.{IsSelectableRequest}
use Rattle.policy_rules.specs.GetStatusRequests.{IsListRequest}
use Rattle.policy_rules.specs.SetStatusRequests.{IsEntryStatusRequest}
use Rattle.policy_rules.specs.declared.put_key.PutKeys.{PutKeys}
use Rattle.policy_rules.specs.declared.put_key.PutKeys.TheVariants.{One, Three}
use Rattle.policy_rules.specs.declared.put_key.SealedKey.{SealedKey}
use Rattle.policy_rules.specs.declared.request.Request.{Request}
use Rattle.policy_rules.specs.declared.request.Request.TheVariants.{Select, MoreChannel, LessChannel, Get, Initialize, Authenticate, PutKey, Store, DeleteKey, DeleteObject, Install, MakeSelectable, Extradite, InstallLoad, CardStatus, EntryStatus, Load, List as ListStatus}

-- a key as it is sent, and the keys of PUT KEY
abbrev pub sent_key : SealedKey → SentKey
sent_key key = record { size = key.len; sealed = key.sealed.now; check = key.check.now }

abbrev pub sent_keys : PutKeys → List SentKey
sent_keys (One key) = sent_key key ∷ []
sent_keys (Three enc mac dek) = sent_key enc ∷ sent_key mac ∷ sent_key dek ∷ []

-- the form of the commands with this request
abbrev pub form_in : Request → CommandForm
form_in (Select partial) = select
form_in MoreChannel = manage_channel
form_in (LessChannel number) = manage_channel
form_in (Get tag) = get_data
form_in (Initialize version challenge) = initialize_update
form_in (Authenticate level proof) = external_authenticate
form_in (PutKey replaced version keys) = command_form managed_put_key
form_in (Store objects) = command_form managed_store_data
form_in (DeleteKey version identifier) = command_form managed_delete_key
form_in (DeleteObject request) = command_form managed_delete_object
form_in (Install request) = command_form managed_install
form_in (MakeSelectable request) = command_form managed_selectable
form_in (Extradite request) = command_form managed_extradition
form_in (InstallLoad request) = install_load
form_in (CardStatus code) = command_form managed_card_status
form_in (EntryStatus request) = command_form managed_entry_status
form_in (Load request) = loading
form_in (ListStatus request) = get_status

-- the request is that of a command of its form with this P1, P2 and data field
abbrev pub Decodes : Request → ℕ → ℕ → List ℕ → Type 0
Decodes (Select partial) p1 p2 body = partial.now ≡ body
Decodes MoreChannel p1 p2 body = p1 ≡ 0x00
Decodes (LessChannel number) p1 p2 body = (p1 ≡ 0x80) × (p2 ≡ number) × (1 ≤ number) × (number < CHANNELS)
Decodes (Get tag) p1 p2 body = tag ≡ tag_of p1 p2
Decodes (Initialize version challenge) p1 p2 body = (version ≡ p1) × (challenge.now ≡ body)
Decodes (Authenticate level proof) p1 p2 body = (code_of level ≡ p1) × (proof.now ≡ body)
Decodes (PutKey replaced version keys) p1 p2 body = (replaced ≡ p1) × HasKeyFields p2 body version (sent_keys keys)
Decodes (Store objects) p1 p2 body = objects.now ≡ body
Decodes (DeleteKey version identifier) p1 p2 body = Chooses body version identifier
Decodes (DeleteObject request) p1 p2 body = IsDeletionRequest request p1 p2 body
Decodes (Install request) p1 p2 body = IsInstallRequest request p1 p2 body
Decodes (MakeSelectable request) p1 p2 body = IsSelectableRequest request p1 p2 body
Decodes (Extradite request) p1 p2 body = IsExtraditionRequest request p1 p2 body
Decodes (InstallLoad request) p1 p2 body = IsLoadInstallRequest request p1 p2 body
Decodes (CardStatus code) p1 p2 body = code ≡ p2
Decodes (EntryStatus request) p1 p2 body = IsEntryStatusRequest request p1 p2 body
Decodes (Load request) p1 p2 body = IsLoadRequest request p1 p2 body
Decodes (ListStatus request) p1 p2 body = IsListRequest request p1 p2 body

-- the request of a well-formed command, or the rule that a malformed one breaks
abbrev pub Parses : ℕ → ℕ → ℕ → List ℕ → Result Request Rule → Type 0
Parses ins p1 p2 body (Ok request) = Takes (form_in request) ins p1 p2 body × Decodes request p1 p2 body
Parses ins p1 p2 body (Err found) = IsMalformed ins p1 p2 body found

-- the request is that of this command, which its form takes
pub record IsRequestOf (request : Request) (command : Apdu) : Type 0 where
  pub form : TakesCommand (form_in request) command
  pub means : Decodes request command.p1 command.p2 command.body

-- the request is that of some short command
abbrev pub IsWellFormed : Request → Type 0
IsWellFormed request = (command : Apdu) × IsRequestOf request command × (length command.body ≤ 255)

-- the request is that of some P1, P2 and data field of a short command
abbrev pub IsMeant : Request → Type 0
IsMeant request = (p1 p2 : ℕ) × (body : List ℕ) × Decodes request p1 p2 body × (length body ≤ 255)

-- the command is judged whole by what the card has once it has passed: all but EXTERNAL AUTHENTICATE, which needs the keys of the offer,
-- GET STATUS, which goes on at the place that the channel had before, and LOAD, whose block is judged where its bytes are kept
abbrev pub IsJudgedAfter : ℕ → Type 0
IsJudgedAfter ins = (ins ≢ EXTERNAL_AUTHENTICATE) × (ins ≢ GET_STATUS) × (ins ≢ LOAD)
