-- For the code inside. The fields of an `Aid`.
use Rattle.std.specs.Prelude.{◌≡◌, ◌-◌, ◌≤◌, ◌++◌, length, take, replicate}
use Rattle.card_types.specs.declared.aid.Aid.TheInside.{Inside}

-- 5 to 16 bytes count, and the rest is 0
pub record IsPadded (a : Inside) : Type 0 where
  pub least : 5 ≤ a.len
  pub most : a.len ≤ 16
  pub whole : length a.padded ≡ 16
  pub rest : a.padded ≡ take a.len a.padded ++ replicate (16 - a.len) 0
