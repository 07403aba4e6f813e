use Rattle.std.proofs.Common.{ℕ, List, sym, ap, subst, ◌∙◌, inl, inr, arith}
use Rattle.hex.specs.Hex.{encode_lower}
use Rattle.card_types.specs.Represents.{domain_aid}
use Rattle.policy_machine.specs.GetData.{IsSequenceCounter}
use Rattle.policy_rules.proofs.DataFound.{counter_data}
use Rattle.scp03_card.proofs.OfferLemmas.{last_three}
use Rattle.scp03_card.specs.Offer.{counter_bytes}
use Rattle.gp_tool.proofs.CounterText.{issuer_held}
use Rattle.gp_tool.proofs.summary.spell_counter.Goals as goal

pub returns-in-Some : goal.returns-in-Some
returns-in-Some c page registry whole says well =
    let tables = c.args.tables.now in
    let issuer = issuer_held tables.entries.items (c.requires.cards page whole).of.layout.issuer in
    let key = c.in-Some.set.thing.now in
    let uses = c.in-Some.ensures.some page registry issuer.0 says well issuer.1 in
    let found = counter_data page tables registry says well 0 issuer.0 issuer.1 key (domain_aid tables.entries.items key.owner, uses.0, uses.1) in
    let few = found.0 in
    inl (
      counter_bytes key.counter,
      subst (λ (aid : List ℕ). IsSequenceCounter registry aid (counter_bytes key.counter)) issuer.2 found.1,
      (rw c.new-text.ensures at c.push_hex.ensures.written) ∙ ap encode_lower (last_three key.counter c.to_be_bytes.result (omega (arith, few)) c.to_be_bytes.ensures),
    )

pub returns-in-None : goal.returns-in-None
returns-in-None c page registry whole says well =
    let issuer = issuer_held c.args.tables.now.entries.items (c.requires.cards page whole).of.layout.issuer in
    let none = c.in-None.ensures.none page registry issuer.0 says well issuer.1 in
    inr (
      λ value sequence.
          (let counter = subst (λ (aid : List ℕ). IsSequenceCounter registry aid value) (sym issuer.2) sequence in
          let uses = counter.1 in
          none uses.0 counter.0 (uses.1, uses.2)),
      rw c.new-text.ensures at c.push_word.ensures.written,
    )
