use Rattle.std.proofs.Common.{ap, ◌∙◌}
use Rattle.script_lines.specs.declared.tokens.Tokens.{Tokens}
use Rattle.script_tool.proofs.commands.send_made.Goals as goal

pub returns-clause-played : goal.returns-clause-played
returns-clause-played g c whole represents =
    c.send_one.ensures.played whole (g.C.ToCommand.apdu whole.tokens c.args.made_of.now) represents (c.to_command-command.ensures ∙ ap (λ (t : Tokens). g.C.ToCommand.apdu t c.args.made_of.now) represents.tokens)
