-- The instruction bytes that may change the registry, and others.
use Rattle.std.proofs.Common.{◌≡◌, ℕ, [], ◌∷◌, false, sym, ◌∙◌}
use Rattle.std.specs.List.{list_any}
use Rattle.std.specs.Prelude.{Contains, ◌==◌}
use Rattle.std.proofs.lemmas.Bool.{true≢false}
use Rattle.std.proofs.lemmas.List.Elements.{Contains-append_left}
use Rattle.policy_machine.specs.Classes.{changing, managing}
use Rattle.policy_machine.proofs.Instructed.{found_among}

-- a byte that manages no content
pub other_byte : (byte : ℕ) → list_any (λ one. one == byte) managing ≡ false → Contains managing byte → ⊥
other_byte byte none there = true≢false (sym (found_among managing byte there) ∙ none)

-- one that may change the registry manages content
pub manages : (byte : ℕ) → Contains changing byte → Contains managing byte
manages byte there = Contains-append_left changing (0xF2 ∷ []) byte there
