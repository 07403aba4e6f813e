-- A receipt changes nothing in the tree of a domain that the acting one has no power over: who makes it is above the acting domain.
use Rattle.std.proofs.Common.{◌≡◌, inl, inr, ℕ, ◌+◌, false, List, refl, sym, subst}
use Rattle.card_types.proofs.NamedThings.{aid_differs}
use Rattle.policy_machine.specs.Prelude.{Admitted, Effect, IsAnswered, IsAtOrAbove, IsConfirmed, Registry, same_aid, with_receipts}
use Rattle.policy_machine.proofs.TreeKept.{KeepsTree, SparesTree}
use Rattle.policy_machine.proofs.TreesAlike.{LeavesTree, entries_leave}

module _ (admitted : Admitted) (domain : List ℕ) (changed : Registry) (spares : SparesTree admitted changed domain) (aids : List (List ℕ)) (done : Effect) where
  confirmed_spares : IsConfirmed admitted aids changed done → KeepsTree admitted done.state.registry domain
  confirmed_spares confirmed = subst (λ (r : Registry). KeepsTree admitted r domain) (sym confirmed.registry) (record {
    stays = record {
      members = λ member in_it. left.stays.members member (spares.keeps.stays.members member in_it);
      line = λ line is. left.stays.line line (spares.keeps.stays.line line is);
    };
    new = λ member in_it. spares.keeps.new member (left.back member in_it);
  })
    where
      outside : (x : List ℕ) → IsAtOrAbove changed domain x → same_aid x confirmed.receipter ≡ false
      outside x at =
          aid_differs x confirmed.receipter (λ same. spares.above_out confirmed.receipter confirmed.is_receipter.above.above (subst (IsAtOrAbove changed domain) same at))

      left : LeavesTree changed (with_receipts changed confirmed.receipter (confirmed.entry.receipts + 1)) domain
      left =
          entries_leave changed (λ other. same_aid other confirmed.receipter) (λ entry. record entry { receipts = confirmed.entry.receipts + 1 })
          (λ entry. (refl, refl)) domain outside

  pub answered_spares : (delegated : Type 0) (reply : List ℕ) → IsAnswered delegated admitted aids changed reply done → KeepsTree admitted done.state.registry domain
  answered_spares delegated reply (inl (so, confirmed)) = confirmed_spares confirmed
  answered_spares delegated reply (inr (so, unconfirmed)) = subst (λ (r : Registry). KeepsTree admitted r domain) (sym unconfirmed.registry) spares.keeps
