use Rattle.aes_block.proofs.TableRules.{unseal_second_entry}
use Rattle.aes_block.proofs.unseal_table.unsealing_second.Goals as goal

pub returns : goal.returns
returns c = unseal_second_entry c.args.x c.requires
