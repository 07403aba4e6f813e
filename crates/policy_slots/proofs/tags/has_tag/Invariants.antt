use Rattle.std.proofs.Common.{◌≡◌, List, length}
use Rattle.policy_slots.specs.Prelude.{AreElements, Element, has_tag_in}
use Rattle.policy_slots.proofs.tags.has_tag.Given as goal

abbrev pub invariant-loop-element : goal.invariant-loop-element
invariant-loop-element l =
    (are : List Element) → AreElements are l.elements → (behind : List Element) × AreElements behind l.rest × (has_tag_in are l.tag ≡ has_tag_in behind l.tag)

abbrev pub decreases-loop-element : goal.decreases-loop-element
decreases-loop-element l = length l.rest
