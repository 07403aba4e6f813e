use Rattle.std.proofs.Common.{◌≡◌, ◌∙◌, ◌/◌, ◌*◌, length, sym}
use Rattle.aes_block.proofs.KeyLaw.{words_of_size, key_of_size}
use Rattle.aes_block.proofs.ScheduleRules.{key_of_schedule, schedule_of_key, words_made}
use Rattle.aes_block.proofs.kept.make_words.Goals as goal

pub returns : goal.returns
returns g c =
    let n = g.S.KeySize.BYTES in
    let standard = g.S.KeySize.standard in
    let len : length c.args.key.now ≡ 4 * (n / 4) = c.requires ∙ sym (words_of_size n standard) in
    record {
      key = key_of_schedule c.args.key.now (λ i. (c.type_inv.key i).fits) _ (n / 4) len
          (rw c.rounds.ensures.value (words_made n c.args.key.now c.expand.new.words _ standard c.requires c.expand.ensures));
      schedule = record {
        whole = key_of_size _ n standard;
        schedule = schedule_of_key c.args.key.now (λ i. (c.type_inv.key i).fits) _ (n / 4) len
            (rw c.rounds.ensures.value (words_made n c.args.key.now c.expand.new.words _ standard c.requires c.expand.ensures));
      };
    }
