-- The tree of a domain where entries outside of it get another life cycle state or lock mark.
use Rattle.std.proofs.Common.{◌≡◌, ℕ, Bool, false, List}
use Rattle.policy_machine.specs.Prelude.{Admitted, Entry, IsAtOrAbove, with_entries}
use Rattle.domain_tree.proofs.DomainsStay.{domains_after_change}
use Rattle.policy_machine.proofs.TreeKept.{AreApart, SparesTree, spares_left}
use Rattle.policy_machine.proofs.TreesAlike.{entries_leave}

pub marked_spared : (admitted : Admitted) (domain : List ℕ) → AreApart admitted domain → (these : List ℕ → Bool) (change : Entry → Entry)
    → ((entry : Entry) → ((change entry).aid ≡ entry.aid) × ((change entry).domain ≡ entry.domain))
    → ((x : List ℕ) → IsAtOrAbove admitted.at.registry domain x → these x ≡ false)
    → SparesTree admitted (with_entries admitted.at.registry these change) domain
marked_spared admitted domain apart these change keeps outside =
    let before = admitted.at.registry in
    spares_left admitted domain apart (with_entries before these change) (domains_after_change before these change keeps)
    (entries_leave before these change keeps domain outside)
