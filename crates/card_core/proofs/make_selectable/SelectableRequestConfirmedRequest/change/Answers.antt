use Rattle.std.proofs.Common.{◌≡◌, ◌∷◌, ◌∙◌, ℕ, List, [], Option, None, Some, ap, refl, subst, sym}
use Rattle.std.specs.Prelude.{IsSome}
use Rattle.card_core.proofs.Answered.{aids_selected, entry_room, numbers_confirmer, room_again}
use Rattle.card_core.proofs.EntryCards.{aids_kept, changing_keeps, entry_cards}
use Rattle.card_core.proofs.FreePages.{files_free}
use Rattle.card_core.proofs.SomeAdmitted.{of_card, some_acts, some_admitted}
use Rattle.card_core.specs.Prelude.{Admitted, BecomesAsAsked, IsInstalledWith, IsSelectableOf, Represents, Well, domain_aid, managed_selectable, thing_in, with_life}
use Rattle.policy_machine.proofs.MakeSelectableLaws.{selectable_life, selectable_of_card}
use Rattle.card_types.proofs.Domains.{domain_aid_is}
use Rattle.card_types.specs.declared.tables.Entry.{Entry}
use Rattle.card_types.specs.declared.tables.Tables.{Tables}
use Rattle.content_rules.specs.declared.make_selectable.SelectableRequest.{SelectableRequest}
use Rattle.card_core.proofs.make_selectable.SelectableRequestConfirmedRequest.change.Goals as goal

-- the entry that was found is just installed, and has the AID that is asked for
installed_at : (aid : List ℕ) (entries : List (Option Entry)) (slot : ℕ) → IsInstalledWith aid (thing_in entries slot)
    → (entry : Entry) × (thing_in entries slot ≡ Some entry) × (entry.aid ≡ aid)
installed_at aid entries slot is = by (thing_in entries slot) refl is
  where
    by : (o : Option Entry) → thing_in entries slot ≡ o → IsInstalledWith aid o → (entry : Entry) × (thing_in entries slot ≡ Some entry) × (entry.aid ≡ aid)
    by None at is = absurd is
    by (Some entry) at is = (entry, at, is.0)

-- the application is selectable
made_selectable : (page : ℕ → List ℕ) (before after : Tables) (admitted : Admitted) (request : SelectableRequest) → IsSelectableOf request admitted.command → (slot : ℕ) → IsInstalledWith request.aid (thing_in before.entries.items slot)
    → Represents page after (with_life admitted.at.registry (domain_aid before.entries.items slot) selectable_life) → BecomesAsAsked managed_selectable admitted page after (request.aid ∷ [])
made_selectable page before after admitted request is slot found says =
    let at = installed_at request.aid before.entries.items slot found in
    let aid = domain_aid_is before.entries.items slot at.0 at.1 ∙ at.2 ∙ is.aid in
    record {
      asked = is.given;
      asks = is.asks;
      changed = with_life admitted.at.registry is.given.third selectable_life;
      becomes = refl;
      says = subst (λ (name : List ℕ). Represents page after (with_life admitted.at.registry name selectable_life)) aid says;
      about = ap (λ (name : List ℕ). name ∷ []) is.aid;
    }

pub set_life-requires : goal.set_life-requires
set_life-requires g c = record {
  live = c.requires.live;
  slot = subst IsSome (sym (installed_at c.args.self.now.aid c.args.records.now.tables.entries.items c.args.slot c.requires.found).1) refl;
  room = entry_room c.args.records.now.staged c.requires.clean;
}

pub returns : goal.returns
returns g c =
    let before = c.args.records.now.tables in
    let after = c.set_life.new.records.tables in
    let slot = c.args.slot in
    let domain = c.args._acting.now.domain in
    let request = c.args.self.now in
    let asked = c.requires.formed in
    let set = c.set_life.ensures in
    let keeps = changing_keeps before after slot (λ entry. record entry { life = selectable_life }) (λ e. (refl, refl)) set.slots in
    record {
      becomes = λ page admitted acts is. subst (BecomesAsAsked managed_selectable admitted page after) (sym c.new.ensures)
          (made_selectable page before after admitted request is.means slot c.requires.found (set.said page admitted.at.registry acts.says));
      confirmer = λ page admitted acts. numbers_confirmer before after admitted keeps;
      selected = aids_selected c.args._acting.now.live.now before.entries.items after.entries.items (aids_kept before after keeps);
      free = files_free before after set.slots.files;
      cards = entry_cards before after slot _ set.slots (aids_kept before after keeps) (λ page said says well.
          (let some = some_admitted page before said says well domain c.requires.domain None asked.0 in
          let acts = some_acts page before said says well domain c.requires.domain None asked.0 in
          let made = made_selectable page before after some request asked.1.means slot c.requires.found (set.said page said says) in
          let kept = selectable_of_card some made.asked made.asks (of_card page before said says well domain c.requires.domain) (c.requires.passed page some acts tt asked.1.means) in
          (made.changed, made.says, subst Well (sym made.becomes) kept.well))) c.requires.cards;
      same = set.same;
      room = room_again c.args.records.now.staged c.set_life.new.records.staged c.requires.clean set.room;
    }
