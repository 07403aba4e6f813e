use Rattle.std.proofs.Common.{◌≡◌, ℕ, List, ◌++◌}
use Rattle.script_tool.specs.InPlain.{send_in_plain}
use Rattle.script_tool.specs.Played.{Plays}
use Rattle.std.proofs.Common.{subst, ap, ◌∙◌}
use Rattle.script_tool.proofs.Plainly.{continues_plays}
use Rattle.script_tool.specs.InSession.{printing}
use Rattle.script_tool.proofs.in_plain.raw.Goals as goal

pub returns-clause-played : goal.returns-clause-played
returns-clause-played g c host whole represents =
    let sent : c.try_extend_from_slice.new.self.items ≡ c.args.bytes.now =
    rw c.unwrap.ensures at c.try_extend_from_slice.ensures.ok ∙ ap (λ (front : List ℕ). front ++ c.args.bytes.now) c.clear.ensures in
    subst (λ (b : List ℕ). Plays g.L.CardLink c.args.link.now c.send_plain.new.link (send_in_plain whole b printing) host c.send_plain.result) sent
    (continues_plays g.L.CardLink c.args.link.now c.send_plain.new.link (send_in_plain whole c.try_extend_from_slice.new.self.items printing) host c.send_plain.result
    (c.send_plain.ensures.goes_on host whole printing represents))
