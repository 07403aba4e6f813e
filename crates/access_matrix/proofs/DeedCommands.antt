-- What the code makes of a deed is its command.
use Rattle.std.proofs.Common.{◌≡◌, ◌⊎◌, inl, inr, ℕ, ◌≤◌, List, [], ◌∷◌, ◌++◌, ◌==◌, Bool, true, false, length, Option, None, Some, refl, sym, ap, subst, ◌∙◌, arith, length-append}
use Rattle.std.specs.Prelude.{◌↔◌, replicate}
use Rattle.std.specs.List.{flat_map}
use Rattle.std.proofs.lemmas.List.{append-nil}
use Rattle.apdu_core.specs.Apdu.{Apdu}
use Rattle.card_types.specs.Aid.{IsAid}
use Rattle.card_types.specs.LifeMark.{life_mark_code}
use Rattle.card_types.specs.Privileges.{ArePrivilegeBytes, delegated_management}
use Rattle.card_types.specs.Registry.{Entry, Registry, entry_named}
use Rattle.policy_machine.specs.CommandForm.{FailsFirst}
use Rattle.policy_machine.specs.DeleteKey.{DeleteParameters}
use Rattle.policy_machine.specs.DeleteObject.{IsDelegated, managed_delete_object}
use Rattle.policy_machine.specs.Delegation.{Approval, Holds}
use Rattle.policy_machine.specs.EntryStatus.{managed_entry_status}
use Rattle.policy_machine.specs.Extradition.{managed_extradition}
use Rattle.policy_machine.specs.InstallApplication.{managed_install}
use Rattle.policy_machine.specs.InstallFields.{approval_in}
use Rattle.policy_machine.specs.InstallLoad.{install_load, load_approval}
use Rattle.policy_machine.specs.ManagedForm.{command_form}
use Rattle.content_rules.specs.DeleteObjectRequests.{IsDeletionRequest}
use Rattle.content_rules.specs.ExtraditionRequests.{IsExtraditionRequest}
use Rattle.content_rules.specs.InstallApplicationRequests.{IsInstallRequest}
use Rattle.content_rules.specs.InstallLoadRequests.{IsLoadInstallRequest, NamesDomain}
use Rattle.content_rules.specs.declared.delete_object.DeletionRequest.{DeletionRequest}
use Rattle.content_rules.specs.declared.extradition.ExtraditionRequest.{ExtraditionRequest}
use Rattle.content_rules.specs.declared.install_application.InstallRequest.{InstallRequest}
use Rattle.content_rules.specs.declared.install_load.LoadInstallRequest.{LoadInstallRequest}
use Rattle.policy_rules.specs.SetStatusRequests.{IsEntryStatusRequest}
use Rattle.policy_rules.specs.declared.entry_status.EntryStatusRequest.{EntryStatusRequest}
use Rattle.policy_slots.specs.HoldersFound.{approval_of}
use Rattle.policy_slots.specs.declared.delegation.Signed.{Signed}
use Rattle.tokens_receipts.specs.Receipt.{with_length}
use Rattle.tokens_receipts.specs.Token.{object_named_by, token_element, token_field}
use Rattle.access_matrix.specs.Commands.{IsCommandOf, IsFirstFreeAid, IsTokenFor, module_for, privileges_for, with_other_lock}
use Rattle.access_matrix.specs.Passing.{IsDeedAccepted, deletion_of}
use Rattle.access_matrix.specs.There.{judged_there, plain}
use Rattle.access_matrix.specs.declared.deed.Deed.TheVariants.{Delete, Related, Lock, Move, Install, Load}
use Rattle.access_matrix.proofs.OneCommand.{accepted_by}
use Rattle.access_matrix.proofs.RequestsMade.{HasTokenSize, asks_to_delete, asks_to_install, asks_to_load, asks_to_move, deletion_asked, install_given, load_asked, move_asked}

-- the token of a command is the one wanted, where the code tells whether the command is delegated
pub told_token : (registry : Registry) (domain : List ℕ) (told delegated : Type 0) (p1 p2 : ℕ) (front shown : List ℕ) (given : Option (List ℕ))
    → told ↔ delegated → shown ≡ front → IsTokenFor registry domain told p1 p2 shown given → IsTokenFor registry domain delegated p1 p2 front given
told_token registry domain told delegated p1 p2 front shown given tells same approved =
    by given (subst (λ (bytes : List ℕ). IsTokenFor registry domain told p1 p2 bytes given) same approved)
  where
    by : (o : Option (List ℕ)) → IsTokenFor registry domain told p1 p2 front o → IsTokenFor registry domain delegated p1 p2 front o
    by None none = λ is. none (tells.1 is)
    by (Some token) some = (tells.0 some.0, some.1)

-- what approves a command, as the code has it
approval_is : (signed : Signed) (approval : Approval) → signed.before.now ≡ approval.before → signed.token.now ≡ approval.token → approval_of signed ≡ approval
approval_is signed approval befores tokens = λ i. record { before = befores i; token = tokens i }

within_body : (shown front end : List ℕ) → shown ≡ front → length shown ≤ length (front ++ end)
within_body shown front end same =
    let whole = length-append front end in
    let alike : length shown ≡ length front = ap length same in
    omega (arith, whole, alike)

-- P2 of a DELETE says whether what comes from the Executable Load File goes with it
abbrev pub IsDeletionP2 : Bool → ℕ → Type 0
IsDeletionP2 related p2 = ((related ≡ true) × (p2 ≡ 0x80)) ⊎ ((related ≡ false) × (p2 ≡ 0x00))

deletion_parameters : (related : Bool) (p2 : ℕ) → IsDeletionP2 related p2 → DeleteParameters 0x00 p2
deletion_parameters related p2 (inl with_all) = (refl, inr with_all.1)
deletion_parameters related p2 (inr alone) = (refl, inl alone.1)

related_told : (related : Bool) (p2 : ℕ) → IsDeletionP2 related p2 → related ≡ (p2 == 0x80)
related_told related p2 (inl with_all) = with_all.0 ∙ sym (ap (λ n. n == 0x80) with_all.1)
related_told related p2 (inr alone) = alone.0 ∙ sym (ap (λ n. n == 0x80) alone.1)

module _ (aid : List ℕ) (given : Option (List ℕ)) (related : Bool) (p2 : ℕ) (told : IsDeletionP2 related p2) where
  abbrev pub deletion_command : Apdu
  deletion_command = plain 0xE4 0x00 p2 (object_named_by aid ++ token_element given)

  pub deletion_request : (request : DeletionRequest) → IsAid aid → HasTokenSize given → request.aid ≡ aid → request.related ≡ related
      → request.signed.p1 ≡ 0x00 → request.signed.p2 ≡ p2 → request.signed.before.now ≡ object_named_by aid → request.signed.token.now ≡ token_field given
      → IsDeletionRequest request 0x00 p2 (object_named_by aid ++ token_element given)
  deletion_request request is size named same first second before token = record {
    asked = deletion_asked aid given;
    asks = asks_to_delete aid given is size;
    form = deletion_parameters related p2 told;
    aid = named;
    related = same ∙ related_told related p2 told;
    parameters = (first, second);
    approval = approval_is request.signed (deletion_asked aid given).approval before token;
    short = within_body request.signed.before.now (object_named_by aid) (token_element given) before;
  }

  deletion_is : (registry : Registry) (domain : List ℕ) → IsTokenFor registry domain (IsDelegated (judged_there registry domain deletion_command)) 0x00 p2 (object_named_by aid) given
      → (b : Bool) → IsDeletionP2 b p2 → IsCommandOf registry domain (deletion_of b aid) deletion_command
  deletion_is registry domain approved true (inl is) = record { p2 = p2; front = object_named_by aid; given = given; has_p2 = is.1; has_front = refl; approved = approved; is = refl }
  deletion_is registry domain approved true (inr is) = (let clash = is.0 in cc)
  deletion_is registry domain approved false (inl is) = (let clash = is.0 in cc)
  deletion_is registry domain approved false (inr is) = record { p2 = p2; front = object_named_by aid; given = given; has_p2 = is.1; has_front = refl; approved = approved; is = refl }

  deletion_told : (registry : Registry) (domain : List ℕ) (b : Bool) → IsCommandOf registry domain (deletion_of b aid) deletion_command → {passes : Type 0}
      → passes ↔ FailsFirst (command_form managed_delete_object) (judged_there registry domain deletion_command) None → passes ↔ IsDeedAccepted registry domain (deletion_of b aid)
  deletion_told registry domain true is tells = accepted_by registry domain (Related aid) deletion_command is tells
  deletion_told registry domain false is tells = accepted_by registry domain (Delete aid) deletion_command is tells

  pub deletion_accepted : (registry : Registry) (domain : List ℕ)
      → IsTokenFor registry domain (IsDelegated (judged_there registry domain deletion_command)) 0x00 p2 (object_named_by aid) given → {passes : Type 0}
      → passes ↔ FailsFirst (command_form managed_delete_object) (judged_there registry domain deletion_command) None → passes ↔ IsDeedAccepted registry domain (deletion_of related aid)
  deletion_accepted registry domain approved tells = deletion_told registry domain related (deletion_is registry domain approved related told) tells

-- INSTALL [for extradition]
module _ (to aid : List ℕ) (given : Option (List ℕ)) where
  abbrev pub move_front : List ℕ
  move_front = flat_map with_length (to ∷ [] ∷ aid ∷ [] ∷ [] ∷ [])

  abbrev pub move_command : Apdu
  move_command = plain 0xE6 0x10 0x00 (move_front ++ with_length (token_field given))

  pub move_request : (request : ExtraditionRequest) → IsAid to → IsAid aid → HasTokenSize given → request.to ≡ to → request.aid ≡ aid
      → request.signed.p1 ≡ 0x10 → request.signed.p2 ≡ 0x00 → request.signed.before.now ≡ move_front → request.signed.token.now ≡ token_field given
      → IsExtraditionRequest request 0x10 0x00 (move_front ++ with_length (token_field given))
  move_request request domain is size first named p1 p2 before token = record {
    given = move_asked to aid given;
    asks = asks_to_move to aid given domain is size;
    to = first;
    aid = named;
    parameters = (p1, p2);
    approval = approval_is request.signed (approval_in (move_asked to aid given)) before token;
    short = within_body request.signed.before.now move_front (with_length (token_field given)) before;
  }

  pub move_accepted : (registry : Registry) (domain : List ℕ)
      → IsTokenFor registry domain (Holds (judged_there registry domain move_command) delegated_management) 0x10 0x00 move_front given → {passes : Type 0}
      → passes ↔ FailsFirst (command_form managed_extradition) (judged_there registry domain move_command) None → passes ↔ IsDeedAccepted registry domain (Move aid to)
  move_accepted registry domain approved tells =
      accepted_by registry domain (Move aid to) move_command
      (record { p2 = 0x00; front = move_front; given = given; has_p2 = refl; has_front = refl; approved = approved; is = refl }) tells

-- INSTALL [for install and make selectable]
module _ (file aid : List ℕ) (given : Option (List ℕ)) where
  abbrev pub install_front : List ℕ
  install_front = flat_map with_length (file ∷ module_for file aid ∷ aid ∷ privileges_for file ∷ (0xC9 ∷ 0x00 ∷ []) ∷ [])

  abbrev pub install_command : Apdu
  install_command = plain 0xE6 0x0C 0x00 (install_front ++ with_length (token_field given))

  pub install_request : (request : InstallRequest) → IsAid file → IsAid (module_for file aid) → IsAid aid → length (privileges_for file) ≤ 0x7F
      → ArePrivilegeBytes request.privileges (privileges_for file) → HasTokenSize given → request.selectable ≡ true → request.file ≡ file
      → request.«module» ≡ module_for file aid → request.aid ≡ aid
      → request.signed.p1 ≡ 0x0C → request.signed.p2 ≡ 0x00 → request.signed.before.now ≡ install_front → request.signed.token.now ≡ token_field given
      → IsInstallRequest request 0x0C 0x00 (install_front ++ with_length (token_field given))
  install_request request from of is few spelled size selectable source part named p1 p2 before token = record {
    asked = record { given = install_given file (module_for file aid) aid (privileges_for file) given; privileges = request.privileges };
    asks = asks_to_install file (module_for file aid) aid (privileges_for file) given request.privileges from of is few spelled size;
    selectable = selectable;
    file = source;
    module_ = part;
    aid = named;
    privileges = refl;
    parameters = (p1, p2);
    approval = approval_is request.signed (approval_in (install_given file (module_for file aid) aid (privileges_for file) given)) before token;
    short = within_body request.signed.before.now install_front (with_length (token_field given)) before;
  }

  pub install_accepted : (registry : Registry) (domain : List ℕ) → IsFirstFreeAid registry aid
      → IsTokenFor registry domain (Holds (judged_there registry domain install_command) delegated_management) 0x0C 0x00 install_front given → {passes : Type 0}
      → passes ↔ FailsFirst (command_form managed_install) (judged_there registry domain install_command) None → passes ↔ IsDeedAccepted registry domain (Install file)
  install_accepted registry domain free approved tells =
      accepted_by registry domain (Install file) install_command
      (record { p2 = 0x00; front = install_front; given = given; has_p2 = refl; has_front = (aid, free, refl); approved = approved; is = refl }) tells

-- INSTALL [for load]
module _ (file : List ℕ) (given : Option (List ℕ)) where
  abbrev pub load_front : List ℕ
  load_front = flat_map with_length (file ∷ [] ∷ replicate 32 0 ∷ [] ∷ [])

  abbrev pub load_command : Apdu
  load_command = plain 0xE6 0x02 0x00 (load_front ++ with_length (token_field given))

  pub load_request : (request : LoadInstallRequest) → IsAid file → HasTokenSize given → request.file ≡ file → request.domain ≡ None → request.hash.now ≡ replicate 32 0
      → request.signed.p1 ≡ 0x02 → request.signed.p2 ≡ 0x00 → request.signed.before.now ≡ load_front → request.signed.token.now ≡ token_field given
      → IsLoadInstallRequest request 0x02 0x00 (load_front ++ with_length (token_field given))
  load_request request is size named none hash p1 p2 before token = record {
    given = load_asked file given;
    asks = asks_to_load file given is size;
    file = named;
    domain = subst (λ (o : Option (List ℕ)). NamesDomain o []) (sym none) refl;
    hash = hash;
    parameters = (p1, p2);
    approval = approval_is request.signed (load_approval (load_asked file given)) before token;
    short = within_body request.signed.before.now load_front (with_length (token_field given)) before;
  }

  pub load_accepted : (registry : Registry) (domain : List ℕ) → IsFirstFreeAid registry file
      → IsTokenFor registry domain (Holds (judged_there registry domain load_command) delegated_management) 0x02 0x00 load_front given → {passes : Type 0}
      → passes ↔ FailsFirst install_load (judged_there registry domain load_command) None → passes ↔ IsDeedAccepted registry domain Load
  load_accepted registry domain free approved tells =
      accepted_by registry domain Load load_command
      (record { p2 = 0x00; front = load_front; given = given; has_p2 = refl; has_front = (file, free, refl); approved = approved; is = refl }) tells

-- SET STATUS of an entry
module _ (aid : List ℕ) (p2 : ℕ) where
  abbrev pub lock_command : Apdu
  lock_command = plain 0xF0 0x40 p2 aid

  pub lock_request : (request : EntryStatusRequest) → IsAid aid → request.tree ≡ false → request.life ≡ p2 → request.aid ≡ aid → IsEntryStatusRequest request 0x40 p2 aid
  lock_request request is one life named = record { parameters = inl refl; field = is; tree = one; life = life; aid = named }

  pub lock_accepted : (registry : Registry) (domain : List ℕ) (entry : Entry) → entry_named registry aid ≡ Some entry → p2 ≡ life_mark_code (with_other_lock entry.life) → {passes : Type 0}
      → passes ↔ FailsFirst (command_form managed_entry_status) (judged_there registry domain lock_command) None → passes ↔ IsDeedAccepted registry domain (Lock aid)
  lock_accepted registry domain entry named life tells =
      accepted_by registry domain (Lock aid) lock_command (record {
        p2 = p2;
        front = aid;
        given = None;
        has_p2 = rw named life;
        has_front = refl;
        approved = λ never. absurd never;
        is = ap (plain 0xF0 0x40 p2) (sym (append-nil aid));
      }) tells
