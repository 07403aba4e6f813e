use Rattle.std.proofs.Common.{Err, List, Ok, ap, false, sym, ◌∙◌, ℕ}
use Rattle.apdu_core.specs.Apdu.{apdu_of}
use Rattle.scp03_card.specs.Session.{Session}
use Rattle.script_tool.specs.Host.{Host}
use Rattle.script_tool.specs.InSession.{protecting}
use Rattle.script_lines.specs.Load.{beginning_load}
use Rattle.script_tool.specs.Loading.{playing_load}
use Rattle.script_tool.specs.Talk.{Talk}
use Rattle.script_lines.specs.declared.tokens.Tokens.{Tokens}
use Rattle.script_tool.proofs.Blocks.{broken, load_begun}
use Rattle.script_tool.proofs.HostRules.{own_some}
use Rattle.script_tool.proofs.Protecting.{own_goes}
use Rattle.script_tool.proofs.loading.load.Goals as goal

pub returns-in_err-installed-clause-played : goal.returns-in_err-installed-clause-played
returns-in_err-installed-clause-played g c whole represents =
    let one = own_some c.args.host.now whole c.in-Some.session represents (sym c.in-Some.is ∙ c.on.ensures) in
    let command = c.command.ensures ∙ c.install-install.ensures ∙ ap (λ (tokens : Tokens). beginning_load tokens c.args.file.now) represents.tokens in
    broken g.L.CardLink c.args.link.now c.send.new.link (playing_load whole c.args.file.now) c.send.new.host c.from_residual.result c.from_residual.ensures.0
    (load_begun g.L.CardLink c.args.link.now c.send.new.link whole one.0 c.args.file.now (apdu_of c.command.result) c.room-size.result c.send.new.host
    (Err c.in_err-installed.field-0.0) one.1 command (c.room-size.ensures.room one.0 one.2)
    (λ (rest : Host → List ℕ → ℕ → Talk). own_goes g.L.CardLink c.args.link.now c.send.new.link whole one.0
    (λ (s : Session). protecting whole s false (apdu_of c.command.result) rest) rest c.send.new.host (Err c.in_err-installed.field-0.0) one.1
    (c.in_err-installed.ensures.goes_on whole rest represents)))

pub returns-clause-played : goal.returns-clause-played
returns-clause-played g c whole represents =
    let one = own_some c.args.host.now whole c.in-Some.session represents (sym c.in-Some.is ∙ c.on.ensures) in
    let command = c.command.ensures ∙ c.install-install.ensures ∙ ap (λ (tokens : Tokens). beginning_load tokens c.args.file.now) represents.tokens in
    c.send_blocks.ensures.played c.args.link.now (playing_load whole c.args.file.now)
    (load_begun g.L.CardLink c.args.link.now c.send.new.link whole one.0 c.args.file.now (apdu_of c.command.result) c.room-size.result c.send.new.host
    (Ok c.in_ok-installed.installed) one.1 command (c.room-size.ensures.room one.0 one.2)
    (λ (rest : Host → List ℕ → ℕ → Talk). own_goes g.L.CardLink c.args.link.now c.send.new.link whole one.0
    (λ (s : Session). protecting whole s false (apdu_of c.command.result) rest) rest c.send.new.host (Ok c.in_ok-installed.installed) one.1
    (c.in_ok-installed.ensures.goes_on whole rest represents)))
