-- Security levels of a session (GlobalPlatform Amendment D, 7.1.2): C-MAC, with or without
-- C-DECRYPTION, R-MAC and R-ENCRYPTION.
use Rattle.std.specs.Prelude.{ℕ}
use Rattle.card_types.specs.declared.level.Level.{Level}
use Rattle.card_types.specs.declared.level.Level.TheVariants.{Mac, EncMac, MacR, EncMacR, Full}

abbrev pub code_of : Level → ℕ
code_of Mac = 0x01
code_of EncMac = 0x03
code_of MacR = 0x11
code_of EncMacR = 0x13
code_of Full = 0x33
