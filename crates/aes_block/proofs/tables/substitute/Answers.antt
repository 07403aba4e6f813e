use Rattle.aes_block.proofs.TableRules.{sbox_entry}
use Rattle.aes_block.proofs.tables.substitute.Goals as goal

pub returns : goal.returns
returns c = sbox_entry c.args.x c.requires
