use Rattle.aes_block.proofs.TableRules.{seal_fourth_entry}
use Rattle.aes_block.proofs.seal_table.sealing_fourth.Goals as goal

pub returns : goal.returns
returns c = seal_fourth_entry c.args.x c.requires
