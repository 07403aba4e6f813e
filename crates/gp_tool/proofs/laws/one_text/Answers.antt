use Rattle.std.proofs.Common.{ap}
use Rattle.gp_tool.proofs.RunsMore.{runs_once}
use Rattle.gp_tool.proofs.laws.one_text.Goals as goal
use Rattle.gp_tool.specs.Effects.{LineEffect, LinePlace}
use Rattle.gp_tool.specs.RunsLines.{Memory, start}

pub returns-clause-text : goal.returns-clause-text
returns-clause-text c verb first lines effect other last another one two =
    let same = runs_once verb 1 lines (start verb first) last another effect other one two in ap (λ (e : LineEffect). e.texts) same.0

pub returns-clause-last : goal.returns-clause-last
returns-clause-last c verb first lines effect other last another one two =
    let same = runs_once verb 1 lines (start verb first) last another effect other one two in ap (λ (place : LinePlace (Memory verb)). place.state) same.1
