-- `select [AID]` is SELECT (GlobalPlatform Card Specification 2.3.1, 11.9).
use Rattle.std.specs.Prelude.{ℕ, List, Option, None}
use Rattle.apdu_core.specs.Apdu.{Apdu}
use Rattle.script_lines.specs.Life.{aid_or_none}

-- SELECT by AID on a channel, or of the Issuer Security Domain (GlobalPlatform Card Specification 2.3.1, 11.9.2)
abbrev pub selecting : ℕ → Option (List ℕ) → Apdu
selecting channel aid = record { class = channel; ins = 0xA4; p1 = 0x04; p2 = 0x00; body = aid_or_none aid; le = None }
