use Rattle.aes_block.proofs.TableRules.{unseal_first_entry}
use Rattle.aes_block.proofs.unseal_table.unsealing_first.Goals as goal

pub returns : goal.returns
returns c = unseal_first_entry c.args.x c.requires
