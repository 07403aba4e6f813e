use Rattle.aes_block.proofs.TableRules.{unseal_fourth_entry}
use Rattle.aes_block.proofs.unseal_table.unsealing_fourth.Goals as goal

pub returns : goal.returns
returns c = unseal_fourth_entry c.args.x c.requires
