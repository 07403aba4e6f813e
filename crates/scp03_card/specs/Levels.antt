-- What each security level has besides C-MAC (GlobalPlatform Amendment D, 7.1.2).
use Rattle.std.specs.Prelude.{Bool, true, false}
use Rattle.card_types.specs.declared.level.Level.{Level}
use Rattle.card_types.specs.declared.level.Level.TheVariants.{Mac, EncMac, MacR, Full}

abbrev pub has_c_decryption : Level → Bool
has_c_decryption Mac = false
has_c_decryption MacR = false
has_c_decryption level = true

abbrev pub has_r_mac : Level → Bool
has_r_mac Mac = false
has_r_mac EncMac = false
has_r_mac level = true

abbrev pub has_r_encryption : Level → Bool
has_r_encryption Full = true
has_r_encryption level = false
