-- For the code inside. What is kept under keys of one of the three lengths.
use Rattle.card_core.specs.declared.aes_kind.AesKind.{AesKind}
use Rattle.card_core.specs.declared.aes_kind.AesKind.TheVariants.{Aes128, Aes192, Aes256}

-- the value, whichever the kind
abbrev pub kept_under : {A : Type 0} → AesKind A A A → A
kept_under (Aes128 kept) = kept
kept_under (Aes192 kept) = kept
kept_under (Aes256 kept) = kept
