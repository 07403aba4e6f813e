use Rattle.aes_block.proofs.TableRules.{seal_second_entry}
use Rattle.aes_block.proofs.seal_table.sealing_second.Goals as goal

pub returns : goal.returns
returns c = seal_second_entry c.args.x c.requires
