-- The form of a deed takes its command.
use Rattle.std.proofs.Common.{◌≡◌, inl, inr, ℕ, ◌≤◌, List, [], ◌∷◌, ◌++◌, Bool, true, false, length, Option, None, Some, refl, sym, ap, subst, ◌∙◌, arith}
use Rattle.std.specs.Prelude.{IsSome, MatchOption, if◌then◌else◌}
use Rattle.std.proofs.lemmas.List.{append-nil}
use Rattle.std.proofs.lemmas.List.Elements.{All-contains}
use Rattle.apdu_core.specs.Apdu.{Apdu}
use Rattle.card_types.proofs.LeastOfList.{found_some}
use Rattle.card_types.proofs.SameAid.{same_aid_decides}
use Rattle.card_types.specs.Aid.{IsAid, same_aid}
use Rattle.card_types.specs.Privileges.{ArePrivilegeBytes}
use Rattle.card_types.specs.Registry.{Registry, entry_named, file_named, is_domain}
use Rattle.card_types.specs.Well.{IsDomainNamed, IsWellEntry, IsWellFile, Well}
use Rattle.card_types.specs.declared.factory.TheConstants.{FACTORY_FILE, FACTORY_MODULE}
use Rattle.card_types.specs.declared.privileges.Privileges.{Privileges}
use Rattle.cmac_kdf.proofs.CmacLemmas.{cmac_is_block}
use Rattle.policy_machine.proofs.Judging.{IsListed}
use Rattle.policy_machine.specs.Commands.{TakesCommand}
use Rattle.policy_machine.specs.ExternalAuthenticate.{rules_before_form}
use Rattle.tokens_receipts.specs.Token.{signed_by_token}
use Rattle.access_matrix.specs.Commands.{IsCommandOf, IsFirstFreeAid, IsTokenFor, end_of, form_of, judged_as, module_for, p1_of, privileges_for}
use Rattle.access_matrix.specs.Deeds.{IsThere, IsThing}
use Rattle.access_matrix.specs.There.{plain}
use Rattle.access_matrix.specs.declared.deed.Deed.{Deed}
use Rattle.access_matrix.specs.declared.deed.Deed.TheVariants.{Delete, Related, Lock, Move, Install, Load}
use Rattle.access_matrix.proofs.RequestsMade.{HasTokenSize, asks_to_delete, asks_to_install, asks_to_load, asks_to_move, deletion_asked, install_given, load_asked, move_asked}

-- a token is as long as a block
token_size : (registry : Registry) (domain : List ℕ) (delegated : Type 0) (p1 p2 : ℕ) (front : List ℕ) (given : Option (List ℕ))
    → IsTokenFor registry domain delegated p1 p2 front given → HasTokenSize given
token_size registry domain delegated p1 p2 front None approved = tt
token_size registry domain delegated p1 p2 front (Some given) approved =
    ap length approved.1.3 ∙ (cmac_is_block approved.1.1.bytes (signed_by_token p1 p2 front)).sixteen

module _ (registry : Registry) (well : Well registry) where
  entry_aid : (aid : List ℕ) → IsSome (entry_named registry aid) → IsAid aid
  entry_aid aid some =
      let entry = found_some (λ e. same_aid e.aid aid) registry.entries some in
      subst IsAid ((same_aid_decides entry.0.aid aid).0 entry.2) (All-contains (IsWellEntry registry) registry.entries entry.0 well.entries entry.1).proper.aid

  file_aid : (aid : List ℕ) → IsSome (file_named registry aid) → IsAid aid
  file_aid aid some =
      let file = found_some (λ f. same_aid f.aid aid) registry.files some in
      subst IsAid ((same_aid_decides file.0.aid aid).0 file.2) (All-contains (IsWellFile registry) registry.files file.0 well.files file.1).aid

  thing_aid : (aid : List ℕ) → IsThing registry aid → IsAid aid
  thing_aid aid (inl entry) = entry_aid aid entry
  thing_aid aid (inr file) = file_aid aid file

  domain_named_aid : (aid : List ℕ) → IsDomainNamed registry aid → IsAid aid
  domain_named_aid aid is = entry_aid aid (by (entry_named registry aid) is)
    where
      by : (o : Option _) → MatchOption o ⊥ (λ entry. is_domain entry ≡ true) → IsSome o
      by None domain = absurd domain
      by (Some entry) domain = refl

free_is_aid : (registry : Registry) (aid : List ℕ) → IsFirstFreeAid registry aid → IsAid aid
free_is_aid registry aid free = subst IsAid (sym free.is) (omega arith, omega arith)

module_is_aid : (file aid : List ℕ) → IsAid aid → IsAid (module_for file aid)
module_is_aid file aid is = by (same_aid file FACTORY_FILE)
  where
    by : (b : Bool) → IsAid (if b then FACTORY_MODULE else aid)
    by true = (omega arith, omega arith)
    by false = is

-- the privileges of what comes from a file, and how many bytes spell them
pub record AreGranted (bytes : List ℕ) : Type 0 where
  pub granted : Privileges
  pub spelled : ArePrivilegeBytes granted bytes
  pub few : length bytes ≤ 0x7F

granted_for : (file : List ℕ) → AreGranted (privileges_for file)
granted_for file = by (same_aid file FACTORY_FILE)
  where
    by : (b : Bool) → AreGranted (if b then 0x80 ∷ [] else 0x00 ∷ [])
    by true = record { granted = record { 0 = 0x800000 }; spelled = record { named = refl; spelling = inr refl }; few = omega arith }
    by false = record { granted = record { 0 = 0 }; spelled = record { named = refl; spelling = inr refl }; few = omega arith }

module _ (registry : Registry) (well : Well registry) (domain : List ℕ) where
  -- P1, P2 and the data field of the command are such as its form takes
  taken : (deed : Deed) (command : Apdu) → IsThere registry deed → (is : IsCommandOf registry domain deed command) → HasTokenSize is.given
      → TakesCommand (form_of deed) (plain (judged_as deed).instruction (p1_of deed) is.p2 (is.front ++ end_of deed is.given))
  taken (Delete aid) command there is size =
      (refl, (refl, inl is.has_p2), (deletion_asked aid is.given, rw is.has_front (asks_to_delete aid is.given (thing_aid registry well aid there) size)))
  taken (Related file) command there is size =
      (refl, (refl, inr is.has_p2), (deletion_asked file is.given, rw is.has_front (asks_to_delete file is.given (file_aid registry well file there) size)))
  taken (Lock aid) command there is size =
      (refl, inl refl, (tt, subst IsAid (sym is.has_front ∙ sym (append-nil is.front)) (entry_aid registry well aid there)))
  taken (Move aid to) command there is size = (
    refl,
    (refl, is.has_p2),
    (move_asked to aid is.given, rw is.has_front (asks_to_move to aid is.given (domain_named_aid registry well to there.1) (thing_aid registry well aid there.0) size)),
  )
  taken (Install file) command there is size =
      let new = is.has_front.0 in
      let named = free_is_aid registry new is.has_front.1 in
      let grants = granted_for file in (
        refl,
        (inr refl, is.has_p2),
        (
          record { given = install_given file (module_for file new) new (privileges_for file) is.given; privileges = grants.granted },
          rw is.has_front.2
              (asks_to_install file (module_for file new) new (privileges_for file) is.given grants.granted (file_aid registry well file there)
              (module_is_aid file new named) named grants.few grants.spelled size),
        ),
      )
  taken Load command there is size =
      let new = is.has_front.0 in
      (refl, (refl, is.has_p2), (load_asked new is.given, rw is.has_front.2 (asks_to_load new is.given (free_is_aid registry new is.has_front.1) size)))

  pub command_taken : (deed : Deed) (command : Apdu) → IsThere registry deed → IsCommandOf registry domain deed command → TakesCommand (form_of deed) command
  command_taken deed command there is =
      subst (TakesCommand (form_of deed)) (sym is.is)
      (taken deed command there is (token_size registry domain _ (p1_of deed) is.p2 is.front is.given is.approved))

-- the form is one of those of its instruction, and no rule stands before those on it
pub form_listed : (deed : Deed) → IsListed (form_of deed)
form_listed (Move aid to) P is = inr (inr (inl is))
form_listed (Install file) P is = inl is
form_listed Load P is = inr (inr (inr (inl is)))
form_listed _ P is = inr (inl is)

pub none_before : (deed : Deed) → rules_before_form (form_of deed).instruction ≡ []
none_before (Delete aid) = refl
none_before _ = refl
