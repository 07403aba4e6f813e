use Rattle.std.proofs.Common.{◌≡◌, inl, inr, Some, sym, subst}
use Rattle.content_rules.specs.Prelude.{HasNoneFrom, HasOthersIn, IsAlone, IsUnselected, aid_of}
use Rattle.card_types.specs.declared.found.Found.{Found}
use Rattle.content_rules.proofs.DeleteObjectJudging.{alone_needed, entry_needed, related_needed}
use Rattle.content_rules.proofs.DeleteObjectSlots.{source_searched, unless}
use Rattle.content_rules.proofs.delete_object.is_needed.Goals as goal

pub returns-in-Entry-clause-told : goal.returns-in-Entry-clause-told
returns-in-Entry-clause-told c domain page admitted acts represents four is =
    let tables = c.args.tables.now in
    let there = subst (λ (f : Found). aid_of tables f ≡ Some c.args.request.now.aid) c.in-Entry.is c.requires.there in
    let alike = entry_needed page tables domain admitted acts c.args.request.now is c.args.live.now represents four c.in-Entry.slot there in
    ((λ so. alike.0 (c.is_in_use.ensures.0 so)), (λ fails. c.is_in_use.ensures.1 (alike.1 fails)))

pub returns-in-Entry-clause-alone : goal.returns-in-Entry-clause-alone
returns-in-Entry-clause-alone c =
    unless c.is_in_use.result c.is_in_use.ensures (λ free. subst (IsAlone c.args.tables.now c.args.request.now.related) (sym c.in-Entry.is)
    (λ slot same others. free (inr (inr (subst (HasOthersIn c.args.tables.now) same others)))))

pub returns-then-request-clause-told : goal.returns-then-request-clause-told
returns-then-request-clause-told c domain page admitted acts represents four is =
    let tables = c.args.tables.now in
    let there = subst (λ (f : Found). aid_of tables f ≡ Some c.args.request.now.aid) c.in-File.is c.requires.there in
    let alike = related_needed page tables domain admitted acts c.args.request.now is c.args.live.now represents four c.in-File.slot there c.if-request.true in
    ((λ so. alike.0 (c.has_user.ensures.0 so)), (λ fails. c.has_user.ensures.1 (alike.1 fails)))

pub returns-then-request-clause-alone : goal.returns-then-request-clause-alone
returns-then-request-clause-alone c =
    unless c.has_user.result c.has_user.ensures (λ free. subst (IsAlone c.args.tables.now c.args.request.now.related) (sym c.in-File.is)
    (λ slot goes others. free (slot, goes.1, inr (inr others))))

pub returns-then-request-clause-unselected : goal.returns-then-request-clause-unselected
returns-then-request-clause-unselected c =
    unless c.has_user.result c.has_user.ensures (λ free. subst (IsUnselected c.args.tables.now c.args.live.now c.args.request.now.related) (sym c.in-File.is)
    (λ slot goes. ((λ selected. free (slot, goes.1, inl selected)), (λ loaded. free (slot, goes.1, inr (inl loaded))))))

pub returns-else-request-clause-told : goal.returns-else-request-clause-told
returns-else-request-clause-told c domain page admitted acts represents four is =
    let tables = c.args.tables.now in
    let there = subst (λ (f : Found). aid_of tables f ≡ Some c.args.request.now.aid) c.in-File.is c.requires.there in
    let alike = alone_needed page tables domain admitted acts c.args.request.now is c.args.live.now represents four c.in-File.slot there c.if-request.false in
    let source = source_searched tables c.in-File.slot c.is_source.result (rw c.deref.ensures.value at c.is_source.ensures) in
    ((λ so. alike.0 (source.0 so)), (λ fails. source.1 (alike.1 fails)))

pub returns-else-request-clause-unloaded : goal.returns-else-request-clause-unloaded
returns-else-request-clause-unloaded c =
    let source = source_searched c.args.tables.now c.in-File.slot c.is_source.result (rw c.deref.ensures.value at c.is_source.ensures) in
    unless c.is_source.result source (λ free. subst (HasNoneFrom c.args.tables.now c.args.request.now.related) (sym c.in-File.is)
    (λ related slot from. free (slot, from)))
