use Rattle.aes_block.proofs.TableRules.{unseal_third_entry}
use Rattle.aes_block.proofs.unseal_table.unsealing_third.Goals as goal

pub returns : goal.returns
returns c = unseal_third_entry c.args.x c.requires
