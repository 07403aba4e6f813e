use Rattle.std.proofs.Common.{rules, ◌≡◌, ◌∷◌, ◌∙◌, ℕ, List, [], Option, None, Some, ap, refl, subst, sym}
use Rattle.std.specs.Prelude.{IsSome, unwrap_or}
use Rattle.card_core.proofs.Answered.{aids_selected, numbers_confirmer, thing_room, thing_room_again}
use Rattle.card_core.proofs.EntryCards.{aids_kept, moved_cards, moving_keeps}
use Rattle.card_core.proofs.FreePages.{moved_free}
use Rattle.card_core.proofs.SomeAdmitted.{of_card, some_acts, some_admitted}
use Rattle.card_core.proofs.StatusChanged.{used_by_name}
use Rattle.card_core.specs.Prelude.{ActsIn, Admitted, BecomesAsAsked, FindsMove, IsExtraditionOf, Represents, Well, domain_aid, domain_of_thing, managed_extradition, thing_in, with_thing_in_domain}
use Rattle.policy_machine.proofs.ExtraditionLaws.{moved_of_card}
use Rattle.card_types.proofs.Domains.{domain_aid_is}
use Rattle.card_types.specs.declared.tables.Entry.{Entry}
use Rattle.card_types.specs.declared.tables.Tables.{Tables}
use Rattle.content_rules.specs.declared.extradition.Extradition.{Extradition}
use Rattle.content_rules.specs.declared.extradition.ExtraditionRequest.{ExtraditionRequest}
use Rattle.card_core.proofs.extradition.ExtraditionRequestConfirmedRequest.change.Goals as goal

-- the thing is in its new domain
extradited : (page : ℕ → List ℕ) (before after : Tables) (domain : ℕ) (admitted : Admitted) → ActsIn page before domain admitted
    → (request : ExtraditionRequest) → IsExtraditionOf request admitted.command → (found : Extradition) → FindsMove request before found
    → (from : Entry) → thing_in before.entries.items found.from ≡ Some from
    → Represents page after (with_thing_in_domain admitted.at.registry request.aid (domain_aid before.entries.items found.to))
    → BecomesAsAsked managed_extradition admitted page after (from.aid ∷ request.aid ∷ request.to ∷ [])
extradited page before after domain admitted acts request is found finds from at says =
    let into = ap (λ (o : Option (List ℕ)). unwrap_or o []) finds.to ∙ is.to in
    let old = sym (domain_aid_is before.entries.items found.from from at) ∙ finds.from page admitted.at.registry acts.says acts.well ∙ ap (domain_of_thing admitted.at.registry) is.aid in
    record {
      asked = is.given;
      asks = is.asks;
      changed = with_thing_in_domain admitted.at.registry is.given.third is.given.first;
      becomes = refl;
      says = subst (λ (name : List ℕ). Represents page after (with_thing_in_domain admitted.at.registry is.given.third name)) into
          (subst (λ (name : List ℕ). Represents page after (with_thing_in_domain admitted.at.registry name (domain_aid before.entries.items found.to))) is.aid says);
      about = λ i. old i ∷ is.aid i ∷ is.to i ∷ [];
    }

pub move_to-requires : goal.move_to-requires
move_to-requires g c =
    let found = c.args.found in
    record {
      live = c.requires.live;
      slot = subst IsSome (sym c.requires.found.thing) refl;
      domain = used_by_name c.args.records.now.tables.entries.items found.to c.args.self.now.to c.requires.found.to;
      room = thing_room found.thing c.args.records.now.staged c.requires.clean;
    }

pub returns : goal.returns
returns g c =
    let before = c.args.records.now.tables in
    let after = c.move_to.new.records.tables in
    let found = c.args.found in
    let domain = c.args._acting.now.domain in
    let request = c.args.self.now in
    let asked = c.requires.formed in
    let move = c.move_to.ensures in
    let from = c.unwrap.result.now in
    let at : thing_in before.entries.items found.from ≡ Some from = search rules in
    let keeps = moving_keeps before after found.thing found.to move.slots in
    record {
      becomes = λ page admitted acts is. subst (BecomesAsAsked managed_extradition admitted page after) (sym c.new.ensures)
          (extradited page before after domain admitted acts request is.means found c.requires.found from at
          (move.said page admitted.at.registry request.aid c.requires.found.thing acts.says acts.well));
      confirmer = λ page admitted acts. numbers_confirmer before after admitted keeps;
      selected = aids_selected c.args._acting.now.live.now before.entries.items after.entries.items (aids_kept before after keeps);
      free = moved_free before after found.thing found.to move.slots;
      cards = moved_cards before after found.thing found.to move.slots (λ page said says well.
          (let some = some_admitted page before said says well domain c.requires.domain None asked.0 in
          let acts = some_acts page before said says well domain c.requires.domain None asked.0 in
          let made = extradited page before after domain some acts request asked.1.means found c.requires.found from at (move.said page said request.aid c.requires.found.thing says well) in
          let kept = moved_of_card some made.asked made.asks (of_card page before said says well domain c.requires.domain) (c.requires.passed page some acts tt asked.1.means) in
          (made.changed, made.says, subst Well (sym made.becomes) kept.well))) c.requires.cards;
      same = move.same;
      room = thing_room_again found.thing c.args.records.now.staged c.move_to.new.records.staged c.requires.clean move.staged;
    }
