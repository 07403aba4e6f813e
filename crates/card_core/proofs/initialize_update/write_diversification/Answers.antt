use Rattle.std.proofs.Common.{ℕ, List, ◌++◌, sym, ap, ◌∙◌}
use Rattle.std.specs.Prelude.{replicate}
use Rattle.card_core.proofs.OfferMade.{object_diversifies}
use Rattle.policy_machine.specs.InitializeUpdate.{diversification_of}
use Rattle.card_core.proofs.initialize_update.write_diversification.Goals as goal

pub returns-in-Some-clause-written : goal.returns-in-Some-clause-written
returns-in-Some-clause-written c page said entry says well at =
    (rw c.unwrap.ensures at c.try_extend_from_slice.ensures.ok)
    ∙ (λ i. c.requires.empty i ++ c.deref.ensures.0 i)
    ∙ object_diversifies said _ c.in-Some.object.now.value.items (c.in-Some.ensures.some page said entry says well at)

pub returns-in-None-clause-written : goal.returns-in-None-clause-written
returns-in-None-clause-written c page said entry says well at =
    (rw c.unwrap-in-None.ensures at c.try_extend_from_slice-in-None.ensures.ok)
    ∙ ap (λ (l : List ℕ). l ++ replicate 10 0) c.requires.empty
    ∙ ap diversification_of (sym (c.in-None.ensures.none page said entry says well at))
