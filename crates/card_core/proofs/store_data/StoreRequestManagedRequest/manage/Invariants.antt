use Rattle.std.proofs.Common.{◌≡◌, true, List, length}
use Rattle.std.specs.Prelude.{All}
use Rattle.card_core.specs.Prelude.{AreElements, Element, HasFramesFor, IsObject, object_pages}
use Rattle.card_core.proofs.ObjectsPut.{ArePut, SameButObjects}
use Rattle.card_core.proofs.store_data.StoreRequestManagedRequest.manage.Given as goal

abbrev pub invariant-loop-element : goal.invariant-loop-element
invariant-loop-element g l = record {
  flash : l.records.flash ≡ l.fn.records.flash;
  live : l.records.live ≡ true;
  frames : HasFramesFor object_pages l.records.staged;
  same : SameButObjects l.fn.records.tables l.records.tables;
  put : (elements : List Element) → AreElements elements l.self.objects.now → All (λ element. IsObject element.tag (length element.value)) elements
      → (behind : List Element) × AreElements behind l.rest × ArePut l.fn.records.tables l.records.tables l.acting.domain elements behind;
}

abbrev pub decreases-loop-element : goal.decreases-loop-element
decreases-loop-element g l = length l.rest
