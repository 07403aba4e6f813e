use Rattle.std.proofs.Common.{◌≡◌, ◌≤◌, ◌+◌, ◌*◌, ℕ, List, [], length, refl, sym, subst, arith}
use Rattle.card_core.specs.Prelude.{IsKeyInformation, domain_aid}
use Rattle.card_core.proofs.Listing.{IsListing, all_listed, first_listing, next_listing, too_many}
use Rattle.card_core.proofs.get_data.write_keys.Goals as goal

none_yet : (value : List ℕ) → value ≡ [] → length value ≤ 0
none_yet value empty = rw empty (omega arith)

pub loop-init : goal.loop-init
loop-init c = record {
  size = none_yet c.args.value.now.items c.requires.empty;
  listing = λ page tables said entry says well keys at least.
      (let first = rw keys at least.1 in
      rw c.requires.empty (first_listing page tables said says well c.args.first.now.owner entry at least.0 c.args.first.now refl first));
}

pub returns-in-None-clause-listed : goal.returns-in-None-clause-listed
returns-in-None-clause-listed c tables keys least page said entry says well at =
    let listing = c.loop.invariant.listing page tables said entry says well keys at least in
    let none = rw keys at c.in-None.ensures.none in
    let written = c.write_key.ensures.written in
    subst (IsKeyInformation said (domain_aid tables.entries.items c.args.first.now.owner)) (sym written.2)
    (all_listed page tables said says well c.args.first.now.owner entry at c.loop.key.now c.loop.counter c.loop.value.items written.0 c.of.result listing written.1
    c.of.ensures.version c.of.ensures.identifier none)

nine_more : (value more : List ℕ) (count : ℕ) → length value ≤ 9 * count → length more ≤ length value + 9 → length more ≤ 9 * (count + 1)
nine_more value more count before step = omega arith

pub loop-preserved : goal.loop-preserved
loop-preserved c = record {
  size = nine_more c.loop.value.items c.write_key.new.value.items c.loop.counter c.loop.invariant.size c.write_key.ensures.size;
  listing = λ page tables said entry says well keys at least.
      (let listing = c.loop.invariant.listing page tables said entry says well keys at least in
      let next = c.in-Some.ensures.some in
      let is = rw keys at next.1 in
      let written = c.write_key.ensures.written in
      subst (IsListing tables said c.args.first.now.owner c.in-Some.next.now (c.loop.counter + 1)) (sym written.2)
      (next_listing page tables said says well c.args.first.now.owner entry at c.loop.key.now c.loop.counter c.loop.value.items written.0 c.of.result next.0 c.in-Some.next.now
      listing written.1 c.of.ensures.version c.of.ensures.identifier is));
}

pub returns-clause-listed : goal.returns-clause-listed
returns-clause-listed c tables keys least page said entry says well at =
    let listing = c.loop.invariant.listing page tables said entry says well keys at least in
    let past = c.loop-test.false in
    too_many page tables said says well c.args.first.now.owner entry at c.loop.key.now c.loop.counter c.loop.value.items listing (omega arith)
