use Rattle.std.proofs.Common.{◌≡◌, ℕ, Bool, Option, bit_and, sym, subst, ◌∙◌}
use Rattle.std.specs.Prelude.{IsSome, IsTrue}
use Rattle.std.specs.Option.{is_some}
use Rattle.bitflags.specs.Sets.{known_bits}
use Rattle.card_types.specs.Privileges.{IsNamed, bits_of, named_bits, privilege_table}
use Rattle.card_types.specs.declared.privileges.Privileges.{Privileges}
use Rattle.card_types.proofs.PrivilegeFacts.{known_bits-privilege_table}
use Rattle.card_check.proofs.entries.is_named.Goals as goal

by_known : (o : Option Privileges) (is : Bool) (bits : ℕ) (privileges : Privileges) → is ≡ is_some o → bits ≡ bits_of privileges
    → (IsSome o → bit_and bits (known_bits privilege_table) ≡ bits) → (bit_and bits (known_bits privilege_table) ≡ bits → IsSome o)
    → (IsTrue is → IsNamed privileges) × (IsNamed privileges → IsTrue is)
by_known o is bits privileges same whole some named =
    let Kept : ℕ → Type 0 = λ n. bit_and n named_bits ≡ n in (
      λ yes. subst Kept whole (subst (λ (k : ℕ). bit_and bits k ≡ bits) known_bits-privilege_table (some (sym same ∙ yes))),
      λ kept. same ∙ named (subst (λ (k : ℕ). bit_and bits k ≡ bits) (sym known_bits-privilege_table) (subst Kept (sym whole) kept)),
    )

pub returns : goal.returns
returns c =
    by_known c.from_bits.result c.is_some.result c.bits.result c.args.privileges c.is_some.ensures (c.bits.ensures tt)
    (c.from_bits.ensures.known tt).0 (c.from_bits.ensures.known tt).1
