-- Privileges that the data field of a command gives.
use Rattle.std.proofs.Common.{◌≡◌, ◌≢◌, ◌⊎◌, ℕ, List, [], length, Option, None, Some, ap, ◌∙◌, inl, inr, arith}
use Rattle.std.specs.Prelude.{MatchOption}
use Rattle.card_types.proofs.PrivilegeFacts.{length-ArePrivilegeBytes}
use Rattle.content_rules.specs.Prelude.{AreGiven, ArePrivilegeBytes}
use Rattle.card_types.specs.declared.privileges.Privileges.{Privileges}
use Rattle.policy_machine.proofs.InstallApplicationAsking.{one_privileges}

-- no bytes spell privileges
no_bytes : (privileges : Privileges) (bytes : List ℕ) → bytes ≡ [] → ArePrivilegeBytes privileges bytes → ⊥
no_bytes privileges bytes none are = omega (arith, ap length none, length-ArePrivilegeBytes privileges bytes are)

module _ (held : Privileges) (bytes : List ℕ) where
  -- others are given than those held
  pub others_given : (given : Option Privileges) → AreGiven given bytes → MatchOption given ⊥ (λ these. held ≢ these)
      → (privileges : Privileges) × ArePrivilegeBytes privileges bytes × (held ≢ privileges)
  others_given None are differ = absurd differ
  others_given (Some these) are differ = (these, are, differ)

  pub same_given : (given : Option Privileges) → AreGiven given bytes → (MatchOption given ⊥ (λ these. held ≢ these) → ⊥) → (privileges : Privileges)
      → ArePrivilegeBytes privileges bytes → (held ≢ privileges) → ⊥
  same_given None none alike privileges are differ = no_bytes privileges bytes none are
  same_given (Some these) given alike privileges are differ = alike (λ same. differ (same ∙ one_privileges these privileges bytes given are))

-- the data field gives no privileges, or some
abbrev pub GivesPrivileges : List ℕ → Type 0
GivesPrivileges bytes = (bytes ≡ []) ⊎ ((privileges : Privileges) × ArePrivilegeBytes privileges bytes)

pub gives_privileges : (given : Option Privileges) (bytes : List ℕ) → AreGiven given bytes → GivesPrivileges bytes
gives_privileges None bytes are = inl are
gives_privileges (Some these) bytes are = inr (these, are)

pub unreadable : (bytes : List ℕ) → ((given : Option Privileges) → AreGiven given bytes → ⊥) → GivesPrivileges bytes → ⊥
unreadable bytes none (inl are) = none None are
unreadable bytes none (inr some) = none (Some some.0) some.1
