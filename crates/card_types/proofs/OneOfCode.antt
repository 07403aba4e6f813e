-- A code of a life cycle state or a security level is that of one.
use Rattle.std.proofs.Common.{◌≡◌, ℕ, ◌==◌, if◌then◌else◌, refl, sym, ap, ◌∙◌}
use Rattle.card_types.specs.CardLife.{card_life_code}
use Rattle.card_types.specs.Level.{code_of}
use Rattle.card_types.specs.declared.card_life.CardLife.{CardLife}
use Rattle.card_types.specs.declared.card_life.CardLife.TheVariants.{OpReady, Initialized, Secured, Locked, Terminated}
use Rattle.card_types.specs.declared.level.Level.{Level}
use Rattle.card_types.specs.declared.level.Level.TheVariants.{Mac, EncMac, MacR, EncMacR, Full}

-- what is told by its code
told_by : {A : Type 0} (code : A → ℕ) (back : ℕ → A) → ((a : A) → back (code a) ≡ a) → (a b : A) → code a ≡ code b → a ≡ b
told_by code back is a b same = sym (is a) ∙ ap back same ∙ is b

abbrev life_of : ℕ → CardLife
life_of n = if n == 0x01 then OpReady else (if n == 0x07 then Initialized else (if n == 0x0F then Secured else (if n == 0x7F then Locked else Terminated)))

life_back : (life : CardLife) → life_of (card_life_code life) ≡ life
life_back OpReady = refl
life_back Initialized = refl
life_back Secured = refl
life_back Locked = refl
life_back Terminated = refl

pub card_life_by_code : (a b : CardLife) → card_life_code a ≡ card_life_code b → a ≡ b
card_life_by_code = told_by card_life_code life_of life_back

abbrev level_of : ℕ → Level
level_of n = if n == 0x01 then Mac else (if n == 0x03 then EncMac else (if n == 0x11 then MacR else (if n == 0x13 then EncMacR else Full)))

level_back : (level : Level) → level_of (code_of level) ≡ level
level_back Mac = refl
level_back EncMac = refl
level_back MacR = refl
level_back EncMacR = refl
level_back Full = refl

pub level_by_code : (a b : Level) → code_of a ≡ code_of b → a ≡ b
level_by_code = told_by code_of level_of level_back
