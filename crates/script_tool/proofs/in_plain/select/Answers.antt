use Rattle.std.proofs.Common.{ℕ, List}
use Rattle.script_tool.specs.InPlain.{send_in_plain}
use Rattle.script_tool.specs.Kept.{printed_of}
use Rattle.std.proofs.Common.{subst, ap, ◌∙◌}
use Rattle.script_lines.specs.declared.channel.Channel.{Channel}
use Rattle.script_tool.specs.Played.{IsPlayed}
use Rattle.script_tool.proofs.Plainly.{select_played}
use Rattle.script_lines.specs.Channel.{channel_number}
use Rattle.script_lines.specs.Command.{command_bytes}
use Rattle.script_lines.specs.Select.{selecting}
use Rattle.script_tool.specs.InPlain.{after_select}
use Rattle.script_tool.proofs.in_plain.select.Goals as goal

pub returns-clause-played : goal.returns-clause-played
returns-clause-played g c whole represents =
    let sent = c.write_select.ensures ∙ ap (λ (channel : Channel). command_bytes (selecting (channel_number channel) c.args.aid.now)) represents.channel in
    subst
    (λ (b : List ℕ). IsPlayed g.L.CardLink c.args.link.now c.send_plain.new.link (send_in_plain whole b after_select) (printed_of c.in_ok-printout.printout) c.end_if_selected.new.host)
    sent
    (select_played g.L.CardLink c.args.link.now c.send_plain.new.link (send_in_plain whole c.write_select.new.out.items after_select) c.args.host.now c.end_if_selected.new.host
    (printed_of c.in_ok-printout.printout) (c.in_ok-printout.ensures.goes_on c.args.host.now whole after_select represents) c.end_if_selected.ensures)
