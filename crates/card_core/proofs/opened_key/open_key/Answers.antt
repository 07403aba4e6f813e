use Rattle.std.proofs.Common.{◌∙◌, ap, length}
use Rattle.card_core.proofs.KeySent.{front_sent}
use Rattle.policy_rules.specs.Requests.{sent_key}
use Rattle.card_core.proofs.opened_key.open_key.Goals as goal

pub returns-clause-key : goal.returns-clause-key
returns-clause-key g c =
    front_sent _ (sent_key c.args.sent.now) c.cbc_unseal_blocks.new.buf c.opened.result.bytes.items c.requires.size c.opened.ensures.bytes
    (c.cbc_unseal_blocks.auto.buf ∙ ap length c.copy_from_slice.ensures.after) c.requires.sealed
    (c.cbc_unseal_blocks.ensures.gives_back ∙ c.copy_from_slice.ensures.after) c.opened.ensures.key
