use Rattle.std.proofs.Common.{◌≡◌, ◌<◌, ℕ, ◌∙◌, ap, get_or, length, length-set, subst, arith}
use Rattle.std.proofs.lemmas.Grind.{common_steps}
use Rattle.rec_store.proofs.entry_slot.EntrySlot.write_used.Goals as goal
use Rattle.rec_store.proofs.Kept.{bytes_kept}
use Rattle.rec_store.specs.Bytes.{HasBytesAt}

pub returns : goal.returns
returns c =
    let end = c.put_u16.new.slot in
    let aid = c.put_bytes.ensures in
    let module_ = c.put_bytes-2.ensures in
    let privileges = c.put_u24.ensures in
    let receipts = c.put_u16.ensures in
    let n3 : length end ≡ length c.put_u24.new.slot = c.put_u16.auto.slot in
    let n2 : length c.put_u24.new.slot ≡ length c.put_bytes-2.new.slot = c.put_u24.auto.slot ∙ length-set _ _ _ in
    let n1 : length c.put_bytes-2.new.slot ≡ length c.put_bytes.new.slot = c.put_bytes-2.auto.slot ∙ length-set _ _ _ ∙ length-set _ _ _ in
    -- what each write leaves is kept by those after it
    let from_privileges : (i : ℕ) → i < 41 → get_or end i 0 ≡ get_or c.put_u24.new.slot i 0 = receipts.below in
    let from_module : (i : ℕ) → i < 37 → get_or end i 0 ≡ get_or c.put_bytes-2.new.slot i 0 = λ i lt. from_privileges i (omega (arith, lt)) ∙ privileges.below i (omega (arith, lt)) ∙ grind (arith, common_steps) in
    let from_aid : (i : ℕ) → i < 18 → get_or end i 0 ≡ get_or c.put_bytes.new.slot i 0 = λ i lt. from_module i (omega (arith, lt)) ∙ module_.below i (omega (arith, lt)) ∙ grind (arith, common_steps) in
    record {
      mark = from_aid 0 (omega arith) ∙ aid.below 0 (omega arith) ∙ grind (arith, common_steps);
      aid = (c.as_bytes.ensures.length, subst (HasBytesAt end 1) c.as_bytes.ensures.bytes (bytes_kept c.put_bytes.new.slot end 1 18 c.as_bytes.result.now (n3 ∙ n2 ∙ n1) (omega (arith, c.as_bytes.ensures.length.1, ap length c.as_bytes.ensures.bytes)) from_aid aid.put));
      domain = from_module 18 (omega arith) ∙ module_.below 18 (omega arith) ∙ grind (arith, common_steps);
      file = from_module 19 (omega arith) ∙ module_.below 19 (omega arith) ∙ grind (arith, common_steps);
      module_aid = c.as_bytes-2.ensures.length;
      module_ = subst (HasBytesAt end 20) c.as_bytes-2.ensures.bytes (bytes_kept c.put_bytes-2.new.slot end 20 37 c.as_bytes-2.result.now (n3 ∙ n2) (omega (arith, c.as_bytes-2.ensures.length.1, ap length c.as_bytes-2.ensures.bytes)) from_module module_.put);
      life = from_privileges 37 (omega arith) ∙ privileges.below 37 (omega arith) ∙ grind (arith, common_steps);
      privileges =
          let first = from_privileges 38 (omega arith) in
          let second = from_privileges 39 (omega arith) in
          let third = from_privileges 40 (omega arith) in
          let written = privileges.put in
          let is = c.bits.ensures tt in
          omega arith;
      receipts = receipts.put;
    }
