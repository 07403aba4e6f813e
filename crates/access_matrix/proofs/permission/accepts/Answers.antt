use Rattle.std.proofs.Common.{ap, subst, sym, ◌∙◌}
use Rattle.std.specs.Prelude.{◌↔◌, IsTrue}
use Rattle.card_types.specs.Represents.{domain_aid}
use Rattle.access_matrix.specs.Deeds.{deed_of}
use Rattle.access_matrix.specs.Passing.{IsDeedAccepted}
use Rattle.access_matrix.specs.declared.deed.Deed.{Deed}
use Rattle.access_matrix.specs.declared.deed.Deed.TheVariants.{Delete, Related, Move, Install}
use Rattle.access_matrix.proofs.permission.accepts.Goals as goal

pub returns-in-Delete : goal.returns-in-Delete
returns-in-Delete c page said says well =
    let tables = c.args.tables.now in
    subst (λ (deed : Deed). IsTrue c.deletes.result ↔ IsDeedAccepted said (domain_aid tables.entries.items c.args.domain) deed)
    (ap Delete c.thing_aid.ensures.named ∙ sym (ap (deed_of tables) c.in-Delete.is)) (c.deletes.ensures page said says well)

pub returns-in-Related : goal.returns-in-Related
returns-in-Related c page said says well =
    let tables = c.args.tables.now in
    subst (λ (deed : Deed). IsTrue c.deletes-in-Related.result ↔ IsDeedAccepted said (domain_aid tables.entries.items c.args.domain) deed)
    (ap Related c.load_file_aid.ensures.named ∙ sym (ap (deed_of tables) c.in-Related.is)) (c.deletes-in-Related.ensures page said says well)

pub returns-in-Lock : goal.returns-in-Lock
returns-in-Lock c page said says well =
    let tables = c.args.tables.now in
    subst (λ (deed : Deed). IsTrue c.locks.result ↔ IsDeedAccepted said (domain_aid tables.entries.items c.args.domain) deed)
    (sym (ap (deed_of tables) c.in-Lock.is)) (c.locks.ensures page said says well)

pub returns-in-Move : goal.returns-in-Move
returns-in-Move c page said says well =
    let tables = c.args.tables.now in
    subst (λ (deed : Deed). IsTrue c.moves.result ↔ IsDeedAccepted said (domain_aid tables.entries.items c.args.domain) deed)
    ((λ i. Move (c.thing_aid-in-Move.ensures.named i) (c.entry_aid.ensures.named i)) ∙ sym (ap (deed_of tables) c.in-Move.is)) (c.moves.ensures page said says well)

pub returns-in-Install : goal.returns-in-Install
returns-in-Install c page said says well =
    let tables = c.args.tables.now in
    subst (λ (deed : Deed). IsTrue c.installs.result ↔ IsDeedAccepted said (domain_aid tables.entries.items c.args.domain) deed)
    (ap Install c.load_file_aid-in-Install.ensures.named ∙ sym (ap (deed_of tables) c.in-Install.is)) (c.installs.ensures page said says well)

pub returns-in-Load : goal.returns-in-Load
returns-in-Load c page said says well =
    let tables = c.args.tables.now in
    subst (λ (deed : Deed). IsTrue c.loads.result ↔ IsDeedAccepted said (domain_aid tables.entries.items c.args.domain) deed)
    (sym (ap (deed_of tables) c.in-Load.is)) (c.loads.ensures page said says well)
