use Rattle.std.proofs.Common.{◌≡◌, Some, subst}
use Rattle.std.proofs.lemmas.Bool.{false≢true}
use Rattle.card_types.specs.Found.{aid_of}
use Rattle.card_types.specs.declared.found.Found.{Found}
use Rattle.domain_tree.proofs.AboveNamed.{free_of_loops}
use Rattle.policy_slots.proofs.ChargeNamed.{above_alike, file_above_none}
use Rattle.policy_slots.proofs.charge.is_over.Goals as goal

pub would_loop-requires-clause-no_loops : goal.would_loop-requires-clause-no_loops
would_loop-requires-clause-no_loops c =
    let order = c.requires.in_order in
    rw c.deref.ensures.value (free_of_loops order.page c.args.tables.now order.said order.says order.well)

pub returns-in-Entry : goal.returns-in-Entry
returns-in-Entry c page said x y says well at_thing at_domain =
    let tables = c.args.tables.now in
    let told = rw c.deref.ensures.value at c.would_loop.ensures in
    let alike = above_alike page tables said says well c.in-Entry.slot c.args.domain x y (subst (λ (f : Found). aid_of tables f ≡ Some x) c.in-Entry.is at_thing) at_domain in
    ((λ is. alike.0 (told.0 is)), (λ above. told.1 (alike.1 above)))

pub returns-in-File : goal.returns-in-File
returns-in-File c page said x y says well at_thing at_domain =
    let tables = c.args.tables.now in (
      λ is. absurd (false≢true is),
      λ above. absurd (file_above_none page tables said says well _ c.args.domain x y (subst (λ (f : Found). aid_of tables f ≡ Some x) c.in-File.is at_thing) at_domain above),
    )
