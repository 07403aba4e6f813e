-- What the data field of an INSTALL [for install] asks for, and that it is one thing.
use Rattle.std.proofs.Common.{◌≡◌, ◌⊎◌, inl, inr, ◌/◌, ◌%◌, ℕ, ◌<◌, List, [], ◌∷◌, ◌++◌, Bool, true, length, length-append, refl, sym, ap, subst, ◌∙◌, arith}
use Rattle.std.specs.Prelude.{Contains, ◌==◌}
use Rattle.std.proofs.lemmas.Bool.{eq-eqb, eqb-true}
use Rattle.policy_machine.specs.Prelude.{AreElements, AreInstallParameters, ArePrivilegeBytes, AsksToInstall, BeginsWith, Element, InstallAsked, InstallData, IsInstallData, IsJudgeable, IsNamed, Spelling, bits_of, has_tag_in, managed_install, privilege_bytes}
use Rattle.card_types.proofs.PrivilegeFacts.{bits_of-bytes}
use Rattle.card_types.specs.declared.privileges.Privileges.{Privileges}
use Rattle.policy_machine.proofs.Filtered.{any_there, there_any}
use Rattle.policy_machine.proofs.LengthFields.{one_data}
use Rattle.policy_machine.proofs.StoreDataElements.{elements_after, elements_with, none_left, one_list}
use Rattle.policy_machine.proofs.ManagedJudging.{delegation_asked}

abbrev pub AreSome : List ℕ → Type 0
AreSome bytes = (elements : List Element) × AreElements elements bytes

-- elements after an element are elements, and with it
pub some_with : (tag : ℕ) (value rest bytes : List ℕ) → BeginsWith tag value rest bytes → AreSome rest → AreSome bytes
some_with tag value rest bytes begins (others, are) = (record { tag = tag; value = value } ∷ others, elements_with others tag value rest bytes begins are)

pub some_after : (tag : ℕ) (value rest bytes : List ℕ) → BeginsWith tag value rest bytes → AreSome bytes → AreSome rest
some_after tag value rest bytes begins (elements, are) =
    (let behind = elements_after elements tag value rest bytes are begins in (behind.0, behind.2))

-- some bytes of which no element can be read are none
pub no_elements : (bytes : List ℕ) → 0 < length bytes
    → ((tag : ℕ) (value front rest : List ℕ) → Spelling tag value front → bytes ≡ front ++ rest → ⊥) → AreSome bytes → ⊥
no_elements bytes some refused (elements, are) =
    let none = subst (λ (es : List Element). AreElements es bytes) (none_left elements bytes are refused) are in
    omega (arith, some, ap length none)

abbrev pub is_tagged : ℕ → Element → Bool
is_tagged tag element = element.tag == tag

-- the install parameters
pub parameters_from : (bytes : List ℕ) (elements : List Element) → AreElements elements bytes → has_tag_in elements 0xC9 ≡ true → AreInstallParameters bytes
parameters_from bytes elements are has = (let there = there_any (is_tagged 0xC9) elements has in (elements, are, there.0, there.1, eqb-true there.0.tag 0xC9 there.2))

pub has_application : (bytes : List ℕ) (elements : List Element) → AreElements elements bytes → AreInstallParameters bytes → has_tag_in elements 0xC9 ≡ true
has_application bytes elements are (others, other, element, there, tag) =
    any_there (is_tagged 0xC9) elements element (subst (λ (es : List Element). Contains es element) (one_list others elements bytes other are) there) (eq-eqb element.tag 0xC9 tag)

-- the fields that were read are those asked for
pub same_given : (given : InstallData) (asked : InstallAsked) (body : List ℕ) → IsInstallData given body → AsksToInstall body asked → asked.given ≡ given
same_given given asked body is asks = one_data asked.given given body asks.fields is

-- privileges are spelled by their bytes alone
same_privileges : (p q : Privileges) → IsNamed p → IsNamed q → privilege_bytes p ≡ privilege_bytes q → p ≡ q
same_privileges p q named other alike =
    let bits : bits_of p ≡ bits_of q =
    bits_of-bytes p (bits_of p / 65536 % 256) (bits_of p / 256 % 256) (bits_of p % 256) named refl
    ∙ sym (bits_of-bytes q (bits_of p / 65536 % 256) (bits_of p / 256 % 256) (bits_of p % 256) other (sym alike)) in
    (λ i. record { 0 = bits i })

pub one_privileges : (p q : Privileges) (bytes : List ℕ) → ArePrivilegeBytes p bytes → ArePrivilegeBytes q bytes → p ≡ q
one_privileges p q bytes one other = by one.spelling other.spelling
  where
    by : (bytes ≡ privilege_bytes p) ⊎ (bytes ++ 0 ∷ 0 ∷ [] ≡ privilege_bytes p) → (bytes ≡ privilege_bytes q) ⊎ (bytes ++ 0 ∷ 0 ∷ [] ≡ privilege_bytes q) → p ≡ q
    by (inl whole) (inl all) = same_privileges p q one.named other.named (sym whole ∙ all)
    by (inl whole) (inr front) = absurd (omega (arith, ap length whole, ap length front, length-append bytes (0 ∷ 0 ∷ [])))
    by (inr front) (inl whole) = absurd (omega (arith, ap length whole, ap length front, length-append bytes (0 ∷ 0 ∷ [])))
    by (inr front) (inr all) = same_privileges p q one.named other.named (sym front ∙ all)

-- a data field asks for one thing
pub one_asked : (a b : InstallAsked) (body : List ℕ) → AsksToInstall body a → AsksToInstall body b → a ≡ b
one_asked a b body one other =
    let given = one_data a.given b.given body one.fields other.fields in
    let privileges = one_privileges a.privileges b.privileges b.given.privileges (subst (λ (g : InstallData). ArePrivilegeBytes a.privileges g.privileges) given one.privileges) other.privileges in
    (λ i. record { given = given i; privileges = privileges i })

pub install_judgeable : IsJudgeable managed_install.judged
install_judgeable = record { one_asked = λ p1 p2 body a b one other. one_asked a b body one other; own = λ rule. tt; one_rule = λ a b same. cc; approving = delegation_asked }
