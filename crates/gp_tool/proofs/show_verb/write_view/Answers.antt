use Rattle.gp_tool.proofs.CardStands.{says_seen}
use Rattle.gp_tool.proofs.ViewWritten.{registry_part, registry_written, rights_part, rights_written}
use Rattle.gp_tool.proofs.show_verb.write_view.Goals as goal

pub returns-in-Registry-clause-written : goal.returns-in-Registry-clause-written
returns-in-Registry-clause-written g c state stands =
    let seen = g.K.Sink.state in
    rw c.in-Registry.is
    (registry_written g.F.Flash.tells g.K.Sink.tells state.registry (seen c.args.sink.now) (seen c.show.new.sink) c.show.result (c.show.ensures.written state stands))

pub returns-in-Registry-clause-part : goal.returns-in-Registry-clause-part
returns-in-Registry-clause-part g c state stands =
    let seen = g.K.Sink.state in
    rw c.in-Registry.is
    (registry_part g.F.Flash.tells g.K.Sink.tells state.registry (seen c.args.sink.now) (seen c.show.new.sink) c.show.result (c.show.ensures.part state stands))

pub returns-in_ok-write_rights-in-Rights-clause-written : goal.returns-in_ok-write_rights-in-Rights-clause-written
returns-in_ok-write_rights-in-Rights-clause-written g c state stands =
    let seen = g.K.Sink.state in
    let says = says_seen g.F.Flash c.args.card.now state stands c.tables.result.now c.tables.ensures.tables in
    rw c.in-Rights.is
    (rights_written g.F.Flash.tells g.K.Sink.tells state.registry (seen c.args.sink.now) (seen c.write_rights.new.sink)
    (c.in_ok-write_rights-in-Rights.ensures.written stands.page state.registry says))

pub returns-in_err-write_rights-in-Rights-clause-part : goal.returns-in_err-write_rights-in-Rights-clause-part
returns-in_err-write_rights-in-Rights-clause-part g c state stands =
    let seen = g.K.Sink.state in
    let says = says_seen g.F.Flash c.args.card.now state stands c.tables.result.now c.tables.ensures.tables in
    rw c.in-Rights.is
    (rights_part g.F.Flash.tells g.K.Sink.tells state.registry (seen c.args.sink.now) (seen c.write_rights.new.sink) c.from_residual.result
    (c.in_err-write_rights-in-Rights.ensures.written stands.page state.registry says))
