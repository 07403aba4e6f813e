use Rattle.std.proofs.Common.{◌∷◌, ℕ, List, [], ap, refl, subst, sym}
use Rattle.std.specs.Prelude.{IsSome}
use Rattle.card_core.proofs.Cards.{in_order}
use Rattle.card_core.proofs.Deleting.{confirmer_stays, deletion_able, deletion_keeps, deletion_selected, issuer_stays}
use Rattle.card_core.specs.Prelude.{Admitted, BecomesAsAsked, IsDeletionOf, Represents, managed_delete_object, without_thing}
use Rattle.card_types.specs.declared.tables.Tables.{Tables}
use Rattle.content_rules.specs.declared.delete_object.DeletionRequest.{DeletionRequest}
use Rattle.card_core.proofs.delete_object.DeletionRequestConfirmedRequest.change.Goals as goal

-- the thing is gone
deleted : (page : ℕ → List ℕ) (after : Tables) (admitted : Admitted) (request : DeletionRequest) → IsDeletionOf request admitted.command → Represents page after (without_thing admitted.at.registry request.aid)
    → BecomesAsAsked managed_delete_object admitted page after (request.aid ∷ [])
deleted page after admitted request is says = record {
  asked = is.asked;
  asks = is.asks;
  changed = without_thing admitted.at.registry is.asked.aid;
  becomes = refl;
  says = subst (λ (name : List ℕ). Represents page after (without_thing admitted.at.registry name)) is.aid says;
  about = ap (λ (name : List ℕ). name ∷ []) is.aid;
}

pub remove-requires : goal.remove-requires
remove-requires g c =
    let found = c.requires.found in
    record {
      live = c.requires.live;
      clean = c.requires.clean;
      cards = c.requires.cards;
      there = subst IsSome (sym found.named) refl;
      alone = found.alone;
      unloaded = found.unloaded;
      lasting = found.lasting;
    }

pub returns : goal.returns
returns g c =
    let before = c.args.records.now.tables in
    let after = c.remove.new.records.tables in
    let domain = c.args._acting.now.domain in
    let request = c.args.self.now in
    let thing = c.args.thing in
    let found = c.requires.found in
    let remove = c.remove.ensures in
    let issuer = (in_order before c.requires.cards).layout.issuer in
    record {
      becomes = λ page admitted acts is. subst (BecomesAsAsked managed_delete_object admitted page after) (sym c.new.ensures)
          (deleted page after admitted request is.means (remove.said page admitted.at.registry acts.says acts.well request.aid found.named));
      confirmer = λ page admitted acts receipter confirms.
          (let stays = confirmer_stays page before domain admitted acts request.related thing found.alone receipter confirms in
          let root = issuer_stays page before admitted.at.registry acts.says acts.well issuer request.related thing found.lasting in (
            deletion_keeps before after request.related thing remove.slots receipter stays root,
            deletion_able before after request.related thing remove.slots receipter stays,
          ));
      selected = deletion_selected before after request.related thing remove.slots c.args._acting.now.live.now found.unselected;
      free = remove.free;
      cards = remove.cards;
      same = remove.same;
      room = remove.room;
    }
