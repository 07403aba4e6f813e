-- SET STATUS of an application or a security domain (GlobalPlatform Card Specification 2.3.1, 5.3 and 11.10): it is locked or unlocked,
-- a domain also with all that is below it, or a domain is personalized. Who may do so is this profile's own.
use Rattle.std.specs.Prelude.{◌≡◌, ◌⊎◌, ℕ, ◌<◌, ◌≤◌, List, [], ◌∷◌, Bool, true, false, MatchOption, None, Some, codes}
use Rattle.card_types.specs.Aid.{IsAid}
use Rattle.card_types.specs.Registry.{Entry, Registry, entry_named, is_domain}
use Rattle.card_types.specs.RegistryChange.{with_life, with_locks}
use Rattle.card_types.specs.Well.{IsDomainNamed}
use Rattle.card_types.specs.declared.factory.TheConstants.{ISSUER}
use Rattle.card_types.specs.declared.life.Life.TheVariants.{Selectable}
use Rattle.card_types.specs.declared.life.LifeMark.{LifeMark}
use Rattle.domain_tree.specs.Above.{IsAboveIn, IsTreeOf}
use Rattle.policy_machine.specs.Admission.{Admitted}
use Rattle.policy_machine.specs.Delegation.{Holds}
use Rattle.policy_machine.specs.Extradition.{is_personalized}
use Rattle.policy_machine.specs.Management.{acting}
use Rattle.policy_machine.specs.Refusal.{Refusal, refusal}
use Rattle.policy_machine.specs.declared.entry_status.RuleSS.{RuleSS}
use Rattle.policy_machine.specs.declared.entry_status.RuleSS.TheVariants.{SS1, SS2, SS3, SS4}
use Rattle.policy_machine.specs.declared.rule.Rule.TheVariants.{SS}
use Rattle.policy_machine.specs.ManagedForm.{ManagedForm, content_form, ordered_rules}
use Rattle.policy_machine.specs.declared.management.RuleM.TheVariants.{M2, M3}

-- P1 names one entry (40), or a security domain with all entries below it (60), and the data field is its AID; P2 says what it
-- becomes
abbrev pub EntryStatusParameters : ℕ → ℕ → Type 0
EntryStatusParameters p1 p2 = (p1 ≡ 0x40) ⊎ (p1 ≡ 0x60)

-- the privilege Global Lock (11.1.2)
abbrev pub global_lock : ℕ
global_lock = 0x000800

-- the high bit of P2 is the lock mark
abbrev pub Marks : ℕ → Bool → Type 0
Marks p2 locked = ((0x80 ≤ p2) × (locked ≡ true)) ⊎ ((p2 < 0x80) × (locked ≡ false))

-- it is locked where it is not, or unlocked where it is, and its life cycle state stays
pub record IsMarked (p2 : ℕ) (entry : Entry) (life : LifeMark) : Type 0 where
  pub mark : Marks p2 life.locked
  pub other : (entry.life.locked ≡ life.locked) → ⊥
  pub stays : life.life ≡ entry.life.life

-- a security domain that is selectable, and not locked, is personalized
pub record IsPersonalizing (p1 p2 : ℕ) (entry : Entry) (life : LifeMark) : Type 0 where
  pub one : p1 ≡ 0x40
  pub code : p2 ≡ 0x0F
  pub domain : is_domain entry ≡ true
  pub selectable : entry.life ≡ record { life = Selectable; locked = false }
  pub becomes : life ≡ is_personalized

-- the steps of an entry
abbrev pub IsEntryStep : ℕ → ℕ → Entry → LifeMark → Type 0
IsEntryStep p1 p2 entry life = IsMarked p2 entry life ⊎ IsPersonalizing p1 p2 entry life

abbrev pub entry_status_refusal : RuleSS → Refusal
entry_status_refusal SS1 = refusal (codes "SS1") 0x6A88
entry_status_refusal SS2 = refusal (codes "SS2") 0x6985
entry_status_refusal SS3 = refusal (codes "SS3") 0x6982
entry_status_refusal SS4 = refusal (codes "SS4") 0x6985

-- a domain that asks to be personalized itself
pub record PersonalizesItself (admitted : Admitted) : Type 0 where
  pub itself : admitted.command.body ≡ acting admitted
  pub one : admitted.command.p1 ≡ 0x40
  pub code : admitted.command.p2 ≡ 0x0F

abbrev pub SettingStatusFails : Admitted → RuleSS → Type 0
-- no entry has the AID, or with P1 60 no security domain
SettingStatusFails admitted SS1 =
    (entry_named admitted.at.registry admitted.command.body ≡ None)
    ⊎ ((admitted.command.p1 ≡ 0x60) × (IsDomainNamed admitted.at.registry admitted.command.body → ⊥))
-- it is the Issuer Security Domain
SettingStatusFails admitted SS2 = admitted.command.body ≡ ISSUER
-- the acting domain is not above it, holds no Global Lock, and does not just personalize itself
SettingStatusFails admitted SS3 =
    (IsAboveIn admitted.at.registry (acting admitted) admitted.command.body → ⊥) × (Holds admitted global_lock → ⊥) × (PersonalizesItself admitted → ⊥)
-- there is no such step
SettingStatusFails admitted SS4 =
    MatchOption (entry_named admitted.at.registry admitted.command.body) ⊥ (λ entry. (life : LifeMark) → IsEntryStep admitted.command.p1 admitted.command.p2 entry life → ⊥)

-- the entry has taken the step
pub record OneIsSet (admitted : Admitted) (left : Registry) : Type 0 where
  pub one : admitted.command.p1 ≡ 0x40
  pub entry : Entry
  pub named : entry_named admitted.at.registry admitted.command.body ≡ Some entry
  pub life : LifeMark
  pub step : IsEntryStep admitted.command.p1 admitted.command.p2 entry life
  pub registry : left ≡ with_life admitted.at.registry admitted.command.body life

-- the domain and each entry below it have the lock mark, whichever each had
pub record TreeIsSet (admitted : Admitted) (left : Registry) : Type 0 where
  pub all : admitted.command.p1 ≡ 0x60
  pub locked : Bool
  pub mark : Marks admitted.command.p2 locked
  pub these : List ℕ → Bool
  pub tree : IsTreeOf admitted.at.registry admitted.command.body these
  pub registry : left ≡ with_locks admitted.at.registry these locked

-- what is asked for stands in P1, P2 and the data field as they are
abbrev pub managed_entry_status : ManagedForm
managed_entry_status = record {
  judged = record (content_form {Asked = Unit {0}} 0xF0 EntryStatusParameters (λ p1 p2 body asked. IsAid body)) {
    first_rules = M2 ∷ M3 ∷ [];
    own = ordered_rules SS (SS1 ∷ SS2 ∷ SS3 ∷ SS4 ∷ []) (λ admitted asked. SettingStatusFails admitted);
  };
  becomes = λ admitted asked changed. OneIsSet admitted changed ⊎ TreeIsSet admitted changed;
  reply = λ asked. [];
}
