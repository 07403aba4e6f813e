use Rattle.aes_block.proofs.TableRules.{seal_third_entry}
use Rattle.aes_block.proofs.seal_table.sealing_third.Goals as goal

pub returns : goal.returns
returns c = seal_third_entry c.args.x c.requires
