use Rattle.std.proofs.Common.{refl}
use Rattle.cmac_kdf.proofs.PaddingLemmas.{padded_in_place, past_padding}
use Rattle.cmac_kdf.proofs.padding.pad.Goals as goal

pub returns-clause-padded : goal.returns-clause-padded
returns-clause-padded c = padded_in_place c.args.bytes.now _ c.args.len _ _ c.requires c.padded_len-end.ensures refl (c.fill.ensures.after (λ y h. h))

pub returns-clause-after : goal.returns-clause-after
returns-clause-after c = past_padding c.args.bytes.now _ c.args.len _ _ c.requires c.padded_len-end.ensures refl (c.fill.ensures.after (λ y h. h))
