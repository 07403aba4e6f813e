use Rattle.std.proofs.Common.{◌≡◌, ◌∙◌, ◌++◌, ap, arith, length}
use Rattle.cmac_kdf.specs.Derivation.{kdf}
use Rattle.scp03_card.specs.Offer.{card_challenge, counter_bytes}
use Rattle.scp03_card.proofs.ListLemmas.{front_after}
use Rattle.scp03_card.proofs.OfferLemmas.{last_three}
use Rattle.scp03_card.proofs.initialize_update.card_challenge.Goals as goal

pub returns : goal.returns
unfolding card_challenge
returns g c =
    let three : c.copy_from_slice.new.self ≡ counter_bytes c.args.counter =
    c.copy_from_slice.ensures.after ∙ last_three c.args.counter c.to_be_bytes.result c.requires c.to_be_bytes.ensures in
    let aid = c.copy_from_slice-2.ensures.after in
    c.derived_eight.ensures
    ∙ ap (kdf c.args.enc.now 2 64)
    (front_after c.copy_from_slice.new.self _ c.copy_from_slice-2.new.self 3 _ _ c.copy_from_slice.ensures.len (omega (arith, ap length aid))
    ∙ (λ i. three i ++ (aid ∙ c.as_bytes-aid.ensures.bytes) i))
