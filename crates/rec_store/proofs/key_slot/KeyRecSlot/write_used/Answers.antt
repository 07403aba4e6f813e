use Rattle.std.proofs.Common.{◌∙◌, subst, rules, arith}
use Rattle.std.proofs.lemmas.Grind.{common_steps}
use Rattle.rec_store.proofs.key_slot.KeyRecSlot.write_used.Goals as goal
use Rattle.rec_store.proofs.Kept.{bytes_kept, counted}
use Rattle.rec_store.specs.Bytes.{HasBytesAt}
use Rattle.card_types.specs.Represents.{keeps_counter}

pub returns : goal.returns
returns c =
    let key = c.args.self.now in
    let put = c.put_bytes.ensures in
    let last = c.put_u24.ensures in
    let e = c.deref.ensures.0 in
    record {
      mark = last.below 0 (omega arith) ∙ put.below 0 (omega arith) ∙ grind (arith, common_steps);
      owner = last.below 1 (omega arith) ∙ put.below 1 (omega arith) ∙ grind (arith, common_steps);
      version = last.below 2 (omega arith) ∙ put.below 2 (omega arith) ∙ grind (arith, common_steps);
      identifier = last.below 3 (omega arith) ∙ put.below 3 (omega arith) ∙ grind (arith, common_steps);
      size = search rules;
      bytes = subst (HasBytesAt c.put_u24.new.slot 4) e (bytes_kept c.put_bytes.new.slot c.put_u24.new.slot 4 37 c.deref.result.now (omega arith) (omega arith) last.below put.put);
      counter = counted (keeps_counter key) key.counter _ 0xFFFFFF last.put c.requires.roomy;
    }
