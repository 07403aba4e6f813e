-- Where the deeds of a security domain are judged.
use Rattle.std.specs.Prelude.{ℕ, List, None}
use Rattle.apdu_core.specs.Apdu.{Apdu}
use Rattle.card_types.specs.Registry.{Registry}
use Rattle.policy_machine.specs.Admission.{Admitted}
use Rattle.policy_machine.specs.State.{State, first_volatile, with_selected}

-- a card that was just powered on, with the domain selected on the basic channel
abbrev pub with_domain : Registry → List ℕ → State
with_domain registry domain = record { registry = registry; volatile = with_selected first_volatile 0 domain }

-- a command there, as its own rules judge it
abbrev pub judged_there : Registry → List ℕ → Apdu → Admitted
judged_there registry domain command =
    record { before = with_domain registry domain; at = with_domain registry domain; channel = 0; command = command; session = None }

-- a plain command of class 80, without Le
abbrev pub plain : (ins p1 p2 : ℕ) → List ℕ → Apdu
plain ins p1 p2 body = record { class = 0x80; ins = ins; p1 = p1; p2 = p2; body = body; le = None }
