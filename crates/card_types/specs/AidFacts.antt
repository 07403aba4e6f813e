-- For the code inside. The bytes of an identifier give its fields back.
use Rattle.std.proofs.Common.{◌≡◌, ◌-◌, ◌++◌, length, take, ap, sym, ◌∙◌, arith, length-take-le}
use Rattle.std.specs.Prelude.{replicate}
use Rattle.card_types.specs.declared.aid.Aid.TheInside.{Inside}
use Rattle.card_types.specs.AidFields.{IsPadded}

pub length-view : (a : Inside) → IsPadded a → length (take a.len a.padded) ≡ a.len
length-view a h = length-take-le a.len a.padded (omega (arith, h.most, h.whole))

pub padded-view : (a : Inside) → IsPadded a
    → take a.len a.padded ++ replicate (16 - length (take a.len a.padded)) 0 ≡ a.padded
padded-view a h = ap (λ n. take a.len a.padded ++ replicate (16 - n) 0) (length-view a h) ∙ sym h.rest
