-- What bits and bytes of privileges say of each other.
use Rattle.std.proofs.Common.{◌≡◌, ℕ, ◌+◌, ◌*◌, ◌/◌, ◌%◌, ◌<◌, List, [], ◌∷◌, ◌⊎◌, inl, inr, length, length-append, Option, Some, None, IfSome, IsSome, refl, ap, sym, ◌∙◌, bit_and, arith}
use Rattle.std.proofs.lemmas.Nat.{and_le_r}
use Rattle.bitflags.specs.Sets.{known_bits, known_from}
use Rattle.card_types.specs.declared.privileges.Privileges.{Privileges}
use Rattle.card_types.specs.Privileges.{IsNamed, ArePrivilegeBytes, bits_of, named_bits, privilege_bytes, privilege_table}

-- the table names the bits that have names
pub known_bits-privilege_table : known_bits privilege_table ≡ named_bits
unfolding known_from
known_bits-privilege_table = refl

pub IfSome-IsNamed : (o : Option Privileges) (bits : ℕ)
    → IfSome o (λ privileges. bits_of privileges ≡ bits)
    → (IsSome o → bit_and bits (known_bits privilege_table) ≡ bits)
    → IfSome o IsNamed
IfSome-IsNamed None bits value known = tt
IfSome-IsNamed (Some privileges) bits value known =
    rw value (rw (← known_bits-privilege_table) (known refl))

-- the number is that of the three bytes
pub bits_of-bytes : (privileges : Privileges) (first second third : ℕ)
    → IsNamed privileges → privilege_bytes privileges ≡ first ∷ second ∷ third ∷ []
    → bits_of privileges ≡ first * 65536 + second * 256 + third
bits_of-bytes privileges first second third named spelled =
    let high : bits_of privileges / 65536 % 256 ≡ first = cc in
    let middle : bits_of privileges / 256 % 256 ≡ second = cc in
    let low : bits_of privileges % 256 ≡ third = cc in
    let fits : bits_of privileges < 0x1000000 =
    omega (arith, named, and_le_r (bits_of privileges) named_bits) in
    omega arith

-- the answer for the bytes of named privileges
pub answer-named : (o : Option Privileges) (bits first second third : ℕ)
    → bits ≡ first * 65536 + second * 256 + third
    → IfSome o (λ privileges. bits_of privileges ≡ bits)
    → (bit_and bits (known_bits privilege_table) ≡ bits → IsSome o)
    → (privileges : Privileges) → IsNamed privileges
    → privilege_bytes privileges ≡ first ∷ second ∷ third ∷ [] → o ≡ Some privileges
answer-named None bits first second third number value known privileges named spelled =
    let same : bits_of privileges ≡ bits =
    bits_of-bytes privileges first second third named spelled ∙ sym number in
    let kept : bit_and bits named_bits ≡ bits = rw same at named in
    let some : IsSome {T = Privileges} None = known (rw known_bits-privilege_table kept) in
    cc
answer-named (Some other) bits first second third number value known privileges named spelled =
    let same : bits_of other ≡ bits_of privileges =
    value ∙ number ∙ sym (bits_of-bytes privileges first second third named spelled) in
    ap Some (λ i. record { 0 = same i })

pub length-ArePrivilegeBytes : (privileges : Privileges) (bytes : List ℕ) → ArePrivilegeBytes privileges bytes
    → (length bytes ≡ 1) ⊎ (length bytes ≡ 3)
length-ArePrivilegeBytes privileges bytes s =
    elim s.spelling [
      | inl whole ↦ inr (ap length whole)
      | inr front ↦ inl (omega (arith, ap length front, length-append bytes (0 ∷ 0 ∷ [])))
    ]
