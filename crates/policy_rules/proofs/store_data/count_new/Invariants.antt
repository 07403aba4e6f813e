use Rattle.std.proofs.Common.{◌≡◌, ◌+◌, ◌≤◌, List, length}
use Rattle.policy_rules.specs.Prelude.{AreElements, Element, has_object_in, new_tags}
use Rattle.policy_rules.proofs.store_data.count_new.Given as goal

abbrev pub invariant-loop-element : goal.invariant-loop-element
invariant-loop-element l = record {
  most : l.count + length l.rest ≤ length l.elements;
  number : (are : List Element) → AreElements are l.elements
      → (behind : List Element) × AreElements behind l.rest × (l.count + new_tags (has_object_in l.objects l.owner) behind ≡ new_tags (has_object_in l.objects l.owner) are);
}

abbrev pub decreases-loop-element : goal.decreases-loop-element
decreases-loop-element l = length l.rest
