-- Life cycle states of applications and security domains, and the mark of a locked one
-- (GlobalPlatform Card Specification 2.3.1, 11.1.1).
use Rattle.std.specs.Prelude.{ℕ, ◌+◌, if◌then◌else◌}
use Rattle.card_types.specs.declared.life.Life.{Life}
use Rattle.card_types.specs.declared.life.Life.TheVariants.{Installed, Selectable, Personalized}
use Rattle.card_types.specs.declared.life.LifeMark.{LifeMark}

abbrev pub life_code : Life → ℕ
life_code Installed = 0x03
life_code Selectable = 0x07
life_code Personalized = 0x0F

-- the lock adds the high bit
abbrev pub life_mark_code : LifeMark → ℕ
life_mark_code mark = life_code mark.life + (if mark.locked then 0x80 else 0)
