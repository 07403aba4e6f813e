-- What a domain may do rests on the AIDs and domains of Executable Load Files, and on nothing else of them.
use Rattle.std.proofs.Common.{◌≡◌, inl, inr, ℕ, ◌≤◌, List, [], ◌∷◌, length, Option, None, Some, refl, sym, subst, ◌∙◌}
use Rattle.std.specs.Prelude.{Contains, IsSome, MatchOption, find}
use Rattle.apdu_core.specs.Apdu.{Apdu}
use Rattle.card_types.specs.Aid.{same_aid}
use Rattle.card_types.specs.Registry.{Counter, Entry, Key, LoadFile, Object, Registry, file_named}
use Rattle.card_types.specs.declared.card_life.CardLife.{CardLife}
use Rattle.card_types.specs.declared.limits.TheConstants.{FILES}
use Rattle.policy_machine.specs.Admission.{Admitted}
use Rattle.policy_machine.specs.Charge.{IsAtOrAbove, IsInCharge}
use Rattle.policy_machine.specs.CommandForm.{FailsFirst}
use Rattle.policy_machine.specs.DeleteObject.{DeletingFails, DeletionAsked, HasOthers, IsInUse, managed_delete_object}
use Rattle.policy_machine.specs.EntryStatus.{SettingStatusFails, managed_entry_status}
use Rattle.policy_machine.specs.declared.entry_status.RuleSS.{RuleSS}
use Rattle.policy_machine.specs.declared.entry_status.RuleSS.TheVariants.{SS3}
use Rattle.policy_machine.specs.Extradition.{ExtraditingFails, managed_extradition}
use Rattle.policy_machine.specs.Refusal.{IsFirst}
use Rattle.policy_machine.specs.InitializeUpdate.{InitializeUpdateFails, initialize_update, offer_rules}
use Rattle.policy_machine.specs.KeySets.{OwnsSets}
use Rattle.policy_machine.specs.InstallApplication.{InstallAsked, InstallingFails, managed_install}
use Rattle.policy_machine.specs.InstallFields.{InstallData}
use Rattle.policy_machine.specs.InstallLoad.{InstallingLoadFails, LoadData, judged_install_load}
use Rattle.policy_machine.specs.ManagedForm.{CommandAsks, JudgedForm, JudgedFails, command_form}
use Rattle.policy_machine.specs.declared.delete_object.RuleDO.{RuleDO}
use Rattle.policy_machine.specs.declared.delete_object.RuleDO.TheVariants.{DO1, DO2, DO3, DO4}
use Rattle.policy_machine.specs.declared.extradition.RuleEX.{RuleEX}
use Rattle.policy_machine.specs.declared.extradition.RuleEX.TheVariants.{EX2, EX4, EX7}
use Rattle.policy_machine.specs.declared.install_application.RuleII.{RuleII}
use Rattle.policy_machine.specs.declared.install_application.RuleII.TheVariants.{II1, II2, II3, II4}
use Rattle.policy_machine.specs.declared.install_load.RuleIL.{RuleIL}
use Rattle.policy_machine.specs.declared.install_load.RuleIL.TheVariants.{IL3, IL7}
use Rattle.policy_machine.specs.Delegation.{IsNearestHolder}
use Rattle.policy_machine.specs.declared.delegation.RuleRC.TheVariants.{RC1}
use Rattle.policy_machine.specs.declared.delegation.RuleTK.TheVariants.{TK3}
use Rattle.policy_machine.specs.declared.rule.Rule.{Rule}
use Rattle.policy_machine.specs.declared.rule.Rule.TheVariants.{RC, TK}
use Rattle.access_matrix.specs.Commands.{HasFront, HasP2, IsCommandOf, IsFirstFreeAid, IsTokenFor, form_of, judged_as, numbered_aid, p1_of}
use Rattle.access_matrix.specs.Deeds.{IsThing}
use Rattle.access_matrix.specs.May.{May, initialize}
use Rattle.access_matrix.specs.There.{judged_there}
use Rattle.access_matrix.specs.declared.deed.Deed.{Deed}
use Rattle.access_matrix.specs.declared.deed.Deed.TheVariants.{Delete, Related, Lock, Move, Install, Load}

-- two files in one domain, or none
abbrev pub AlikeFile : Option LoadFile → Option LoadFile → Type 0
AlikeFile None None = Unit {0}
AlikeFile None (Some g) = ⊥
AlikeFile (Some f) None = ⊥
AlikeFile (Some f) (Some g) = f.domain ≡ g.domain

pub record AreAlikeFiles (fs gs : List LoadFile) : Type 0 where
  pub named : (aid : List ℕ) → AlikeFile (find (λ f. same_aid f.aid aid) fs) (find (λ g. same_aid g.aid aid) gs)
  pub members : (g : LoadFile) → Contains gs g → (f : LoadFile) × Contains fs f × (f.domain ≡ g.domain)
  pub size : length fs ≡ length gs

none_back : (o p : Option LoadFile) → AlikeFile o p → p ≡ None → o ≡ None
none_back None p alike none = refl
none_back (Some f) None alike none = absurd alike
none_back (Some f) (Some g) alike none = cc

some_back : (o p : Option LoadFile) → AlikeFile o p → IsSome p → IsSome o
some_back None None alike some = some
some_back None (Some g) alike some = absurd alike
some_back (Some f) p alike some = refl

match_forth : (P : List ℕ → Type 0) (o p : Option LoadFile) → AlikeFile o p → MatchOption o ⊥ (λ f. P f.domain) → MatchOption p ⊥ (λ g. P g.domain)
match_forth P None p alike is = absurd is
match_forth P (Some f) None alike is = absurd alike
match_forth P (Some f) (Some g) alike is = subst P alike is

match_back : (P : List ℕ → Type 0) (o p : Option LoadFile) → AlikeFile o p → MatchOption p ⊥ (λ g. P g.domain) → MatchOption o ⊥ (λ f. P f.domain)
match_back P o None alike is = absurd is
match_back P None (Some g) alike is = absurd alike
match_back P (Some f) (Some g) alike is = subst P (sym alike) is

-- each of these rules fails in the one case where it does so in the other
abbrev Back : {R : Type 0} → (R → Type 0) → (R → Type 0) → List R → Type 0
Back P Q [] = Unit {0}
Back P Q (rule ∷ rules) = (Q rule → P rule) × Back P Q rules

none_fails : {R : Type 0} (P Q : R → Type 0) (rules : List R) → Back P Q rules → IsFirst P rules None → IsFirst Q rules None
none_fails P Q [] back none = none
none_fails P Q (rule ∷ rules) back (inl fails) = (let clash = fails.1 in cc)
none_fails P Q (rule ∷ rules) back (inr passes) = inr (λ fails. passes.0 (back.0 fails), none_fails P Q rules back.1 passes.1)

module _ (life : CardLife) (entries : List Entry) (keys : List Key) (counters : List Counter) (objects : List Object) where
  abbrev pub with_files : List LoadFile → Registry
  with_files files = record { life = life; entries = entries; files = files; keys = keys; counters = counters; objects = objects }

  module _ (fs gs : List LoadFile) (alike : AreAlikeFiles fs gs) (domain : List ℕ) (command : Apdu) where
    abbrev A : Admitted
    A = judged_there (with_files fs) domain command

    abbrev B : Admitted
    B = judged_there (with_files gs) domain command

    charge_forth : (aid : List ℕ) → IsInCharge (with_files fs) domain aid → IsInCharge (with_files gs) domain aid
    charge_forth aid (inl is) = inl is
    charge_forth aid (inr is) = inr (match_forth (IsAtOrAbove (with_files fs) domain) (file_named (with_files fs) aid) (file_named (with_files gs) aid) (alike.named aid) is)

    others_back : (aid : List ℕ) → HasOthers (with_files gs) aid → HasOthers (with_files fs) aid
    others_back aid (inl is) = inl is
    others_back aid (inr is) = (let file = alike.members is.0 is.1 in inr (file.0, file.1, file.2 ∙ is.2))

    used_back : (aid : List ℕ) → IsInUse B aid → IsInUse A aid
    used_back aid (inl is) = inl is
    used_back aid (inr (inl is)) = inr (inl is)
    used_back aid (inr (inr is)) = inr (inr (others_back aid is))

    holder_back : (privilege version : ℕ) (below holder : List ℕ) (key : Key) → IsNearestHolder (with_files gs) privilege version below holder key
        → IsNearestHolder (with_files fs) privilege version below holder key
    holder_back privilege version below holder key is = record { above = is.above; key_is = is.key_is }

    deleting_back : (asked : DeletionAsked) (rule : RuleDO) → DeletingFails B asked rule → DeletingFails A asked rule
    deleting_back asked DO1 fails = (fails.0, none_back (file_named (with_files fs) asked.aid) (file_named (with_files gs) asked.aid) (alike.named asked.aid) fails.1)
    deleting_back asked DO2 fails = fails
    deleting_back asked DO3 (lacks, inl no_manager) = (lacks, inl no_manager)
    deleting_back asked DO3 (lacks, inr part) = (lacks, inr (part.0, part.1, λ charge. part.2 (charge_forth part.0 charge)))
    deleting_back asked DO4 (inl part) = inl (part.0, part.1, used_back part.0 part.2)
    deleting_back asked DO4 (inr from) = inr from

    installing_back : (asked : InstallAsked) (rule : RuleII) → InstallingFails B asked rule → InstallingFails A asked rule
    installing_back asked II1 fails = fails
    installing_back asked II2 (inl none) = inl (none_back (file_named (with_files fs) asked.given.first) (file_named (with_files gs) asked.given.first) (alike.named asked.given.first) none)
    installing_back asked II2 (inr other) = inr other
    installing_back asked II3 fails = (
      fails.0,
      match_back (λ owner. IsAtOrAbove (with_files fs) domain owner → ⊥) (file_named (with_files fs) asked.given.first) (file_named (with_files gs) asked.given.first)
          (alike.named asked.given.first) fails.1,
    )
    installing_back asked II4 (inl entry) = inl entry
    installing_back asked II4 (inr (inl file)) = inr (inl (some_back (file_named (with_files fs) asked.given.third) (file_named (with_files gs) asked.given.third) (alike.named asked.given.third) file))
    installing_back asked II4 (inr (inr load)) = inr (inr load)
    installing_back asked _ fails = fails

    moving_back : (given : InstallData) (rule : RuleEX) → ExtraditingFails B given rule → ExtraditingFails A given rule
    moving_back given EX2 (inl none) = inl (none.0, none_back (file_named (with_files fs) given.third) (file_named (with_files gs) given.third) (alike.named given.third) none.1)
    moving_back given EX2 (inr other) = inr other
    moving_back given EX4 fails = λ charge. fails (charge_forth given.third charge)
    moving_back given EX7 (inl own) = inl own
    moving_back given EX7 (inr (holds, inl root)) = inr (holds, inl root)
    moving_back given EX7 (inr (holds, inr (inl none))) = inr (holds, inr (inl none))
    moving_back given EX7 (inr (holds, inr (inr far))) = inr (holds, inr (inr (far.0, far.1, holder_back _ _ domain far.0 far.1 far.2, far.3)))
    moving_back given _ fails = fails

    loading_back : (given : LoadData) (rule : RuleIL) → InstallingLoadFails B given rule → InstallingLoadFails A given rule
    loading_back given IL3 (inl entry) = inl entry
    loading_back given IL3 (inr file) = inr (some_back (file_named (with_files fs) given.file) (file_named (with_files gs) given.file) (alike.named given.file) file)
    loading_back given IL7 fails = subst (λ count. FILES ≤ count) (sym alike.size) fails
    loading_back given _ fails = fails

    setting_back : (asked : Unit {0}) (rule : RuleSS) → SettingStatusFails B rule → SettingStatusFails A rule
    setting_back asked SS3 fails = (fails.0, fails.1, λ itself. fails.2 (record { itself = itself.itself; one = itself.one; code = itself.code }))
    setting_back asked _ fails = fails

    -- whatever was asked for, a rule of the form's own fails alike
    own_back : (form : JudgedForm) → ((asked : form.Asked) (own : form.own.One) → form.own.fails B asked own → form.own.fails A asked own) → (rule : Rule)
        → ((asked : form.Asked) × CommandAsks form B asked × ((own : form.own.One) × (form.own.group own ≡ rule) × form.own.fails B asked own))
        → ((asked : form.Asked) × CommandAsks form A asked × ((own : form.own.One) × (form.own.group own ≡ rule) × form.own.fails A asked own))
    own_back form back rule fails = (fails.0, fails.1, (fails.2.0, fails.2.1, back fails.0 fails.2.0 fails.2.2))

    token_back : (form : JudgedForm) → (form.delegation.is_delegated B → form.delegation.is_delegated A) → JudgedFails form B (TK TK3) → JudgedFails form A (TK TK3)
    token_back form delegated fails =
        (fails.0, fails.1, (delegated fails.2.0, (fails.2.1.0, fails.2.1.1, holder_back _ _ domain fails.2.1.0 fails.2.1.1 fails.2.1.2, fails.2.1.3)))

    receipt_back : (form : JudgedForm) → (form.delegation.is_delegated B → form.delegation.is_delegated A) → JudgedFails form B (RC RC1) → JudgedFails form A (RC RC1)
    receipt_back form delegated fails =
        (fails.0, fails.1, (delegated fails.2.0, (fails.2.1.0, fails.2.1.1, holder_back _ _ domain fails.2.1.0 fails.2.1.1 fails.2.1.2, fails.2.1.3)))

    deletion_alike : FailsFirst (command_form managed_delete_object) A None → FailsFirst (command_form managed_delete_object) B None
    deletion_alike none =
        none_fails (JudgedFails managed_delete_object.judged A) (JudgedFails managed_delete_object.judged B) (command_form managed_delete_object).rules (
          λ f. f,
          (
            λ f. f,
            (
              own_back managed_delete_object.judged deleting_back _,
              (
                own_back managed_delete_object.judged deleting_back _,
                (
                  own_back managed_delete_object.judged deleting_back _,
                  (
                    own_back managed_delete_object.judged deleting_back _,
                    (λ f. f, (λ f. f, (token_back managed_delete_object.judged (λ is. is), (receipt_back managed_delete_object.judged (λ is. is), tt)))),
                  ),
                ),
              ),
            ),
          ),
        ) none

    pub passes_alike : (deed : Deed) → FailsFirst (form_of deed) A None → FailsFirst (form_of deed) B None
    passes_alike (Delete aid) none = deletion_alike none
    passes_alike (Related aid) none = deletion_alike none
    passes_alike (Lock aid) none =
        none_fails (JudgedFails managed_entry_status.judged A) (JudgedFails managed_entry_status.judged B) (form_of (Lock aid)).rules (
          λ f. f,
          (
            λ f. f,
            (
              own_back managed_entry_status.judged setting_back _,
              (
                own_back managed_entry_status.judged setting_back _,
                (own_back managed_entry_status.judged setting_back _, (own_back managed_entry_status.judged setting_back _, tt)),
              ),
            ),
          ),
        ) none
    passes_alike (Move aid to) none =
        none_fails (JudgedFails managed_extradition.judged A) (JudgedFails managed_extradition.judged B) (form_of (Move aid to)).rules (
          λ f. f,
          (
            λ f. f,
            (
              own_back managed_extradition.judged moving_back _,
              (
                own_back managed_extradition.judged moving_back _,
                (
                  own_back managed_extradition.judged moving_back _,
                  (
                    own_back managed_extradition.judged moving_back _,
                    (
                      own_back managed_extradition.judged moving_back _,
                      (
                        own_back managed_extradition.judged moving_back _,
                        (own_back managed_extradition.judged moving_back _, (λ f. f, (λ f. f, (token_back managed_extradition.judged (λ is. is), (receipt_back managed_extradition.judged (λ is. is), tt))))),
                      ),
                    ),
                  ),
                ),
              ),
            ),
          ),
        ) none
    passes_alike (Install file) none =
        none_fails (JudgedFails managed_install.judged A) (JudgedFails managed_install.judged B) (form_of (Install file)).rules (
          λ f. f,
          (
            λ f. f,
            (
              own_back managed_install.judged installing_back _,
              (
                own_back managed_install.judged installing_back _,
                (
                  own_back managed_install.judged installing_back _,
                  (
                    own_back managed_install.judged installing_back _,
                    (
                      own_back managed_install.judged installing_back _,
                      (
                        own_back managed_install.judged installing_back _,
                        (own_back managed_install.judged installing_back _, (λ f. f, (λ f. f, (token_back managed_install.judged (λ is. is), (receipt_back managed_install.judged (λ is. is), tt))))),
                      ),
                    ),
                  ),
                ),
              ),
            ),
          ),
        ) none
    passes_alike Load none =
        none_fails (JudgedFails judged_install_load A) (JudgedFails judged_install_load B) (form_of Load).rules (
          λ f. f,
          (
            λ f. f,
            (
              own_back judged_install_load loading_back _,
              (
                own_back judged_install_load loading_back _,
                (
                  own_back judged_install_load loading_back _,
                  (
                    own_back judged_install_load loading_back _,
                    (
                      own_back judged_install_load loading_back _,
                      (
                        own_back judged_install_load loading_back _,
                        (own_back judged_install_load loading_back _, (λ f. f, (λ f. f, (token_back judged_install_load (λ is. is), tt)))),
                      ),
                    ),
                  ),
                ),
              ),
            ),
          ),
        ) none

    owns_forth : (below owner : List ℕ) → OwnsSets (with_files fs) below owner → OwnsSets (with_files gs) below owner
    owns_forth below owner owns = record { line = owns.line; is_line = owns.is_line; first = owns.first }

    owns_back : (below owner : List ℕ) → OwnsSets (with_files gs) below owner → OwnsSets (with_files fs) below owner
    owns_back below owner owns = record { line = owns.line; is_line = owns.is_line; first = owns.first }

    pub offers_alike : FailsFirst initialize_update A None → FailsFirst initialize_update B None
    offers_alike none =
        none_fails (InitializeUpdateFails A) (InitializeUpdateFails B) offer_rules (
          λ f. f,
          (
            λ f. f,
            (
              (λ f owner counter asks. f owner counter (owns_forth domain owner asks.0, asks.1)),
              ((λ f. (f.0, f.1, (owns_back domain f.0 f.2.0, f.2.1), f.3)), tt),
            ),
          ),
        ) none

    some_forth : (o p : Option LoadFile) → AlikeFile o p → IsSome o → IsSome p
    some_forth None p same some = cc
    some_forth (Some f) None same some = absurd same
    some_forth (Some f) (Some g) same some = refl

    thing_forth : (aid : List ℕ) → IsThing (with_files fs) aid → IsThing (with_files gs) aid
    thing_forth aid (inl entry) = inl entry
    thing_forth aid (inr file) = inr (some_forth (file_named (with_files fs) aid) (file_named (with_files gs) aid) (alike.named aid) file)

    thing_back : (aid : List ℕ) → IsThing (with_files gs) aid → IsThing (with_files fs) aid
    thing_back aid (inl entry) = inl entry
    thing_back aid (inr file) = inr (some_back (file_named (with_files fs) aid) (file_named (with_files gs) aid) (alike.named aid) file)

    free_forth : (new : List ℕ) → IsFirstFreeAid (with_files fs) new → IsFirstFreeAid (with_files gs) new
    free_forth new free = record {
      number = free.number;
      is = free.is;
      free = λ thing. free.free (thing_back new thing);
      first = λ lower below. thing_forth (numbered_aid lower) (free.first lower below);
    }

    token_forth : (D E : Type 0) → (D → E) → (E → D) → (p1 p2 : ℕ) (front : List ℕ) (given : Option (List ℕ))
        → IsTokenFor (with_files fs) domain D p1 p2 front given → IsTokenFor (with_files gs) domain E p1 p2 front given
    token_forth D E to from p1 p2 front None none = λ is. none (from is)
    token_forth D E to from p1 p2 front (Some given) is =
        (to is.0, (is.1.0, is.1.1, record { above = is.1.2.above; key_is = is.1.2.key_is }, is.1.3))

    command_with : (deed : Deed) → ((p2 : ℕ) → HasP2 (with_files fs) deed p2 → HasP2 (with_files gs) deed p2)
        → ((front : List ℕ) → HasFront (with_files fs) deed front → HasFront (with_files gs) deed front)
        → ((judged_as deed).delegation.is_delegated A → (judged_as deed).delegation.is_delegated B)
        → ((judged_as deed).delegation.is_delegated B → (judged_as deed).delegation.is_delegated A)
        → IsCommandOf (with_files fs) domain deed command → IsCommandOf (with_files gs) domain deed command
    command_with deed second front to from is = record {
      p2 = is.p2;
      front = is.front;
      given = is.given;
      has_p2 = second is.p2 is.has_p2;
      has_front = front is.front is.has_front;
      approved = token_forth ((judged_as deed).delegation.is_delegated A) ((judged_as deed).delegation.is_delegated B) to from (p1_of deed) is.p2 is.front is.given is.approved;
      is = is.is;
    }

    pub command_forth : (deed : Deed) → IsCommandOf (with_files fs) domain deed command → IsCommandOf (with_files gs) domain deed command
    command_forth (Delete aid) = command_with (Delete aid) (λ p2 is. is) (λ front is. is) (λ is. is) (λ is. is)
    command_forth (Related file) = command_with (Related file) (λ p2 is. is) (λ front is. is) (λ is. is) (λ is. is)
    command_forth (Lock aid) = command_with (Lock aid) (λ p2 is. is) (λ front is. is) (λ is. is) (λ is. is)
    command_forth (Move aid to) = command_with (Move aid to) (λ p2 is. is) (λ front is. is) (λ is. is) (λ is. is)
    command_forth (Install file) = command_with (Install file) (λ p2 is. is) (λ front is. (is.0, free_forth is.0 is.1, is.2)) (λ is. is) (λ is. is)
    command_forth Load = command_with Load (λ p2 is. is) (λ front is. (is.0, free_forth is.0 is.1, is.2)) (λ is. is) (λ is. is)

  pub may_forth : (fs gs : List LoadFile) → AreAlikeFiles fs gs → (domain : List ℕ) (deed : Deed) → May (with_files fs) domain deed → May (with_files gs) domain deed
  may_forth fs gs alike domain deed may = record {
    living = may.living;
    selectable = may.selectable;
    offers = offers_alike fs gs alike domain initialize may.offers;
    command = may.command;
    is_command = command_forth fs gs alike domain may.command deed may.is_command;
    accepted = passes_alike fs gs alike domain may.command deed may.accepted;
  }
