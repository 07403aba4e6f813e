use Rattle.aes_block.proofs.TableRules.{seal_first_entry}
use Rattle.aes_block.proofs.seal_table.sealing_first.Goals as goal

pub returns : goal.returns
returns c = seal_first_entry c.args.x c.requires
