-- Life cycle states of the card (GlobalPlatform Card Specification 2.3.1, 11.1.1).
use Rattle.std.specs.Prelude.{ℕ}
use Rattle.card_types.specs.declared.card_life.CardLife.{CardLife}
use Rattle.card_types.specs.declared.card_life.CardLife.TheVariants.{OpReady, Initialized, Secured, Locked, Terminated}

abbrev pub card_life_code : CardLife → ℕ
card_life_code OpReady = 0x01
card_life_code Initialized = 0x07
card_life_code Secured = 0x0F
card_life_code Locked = 0x7F
card_life_code Terminated = 0xFF
