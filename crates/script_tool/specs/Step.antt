-- What comes of a line that a host plays.
use Rattle.std.specs.Prelude.{◌≡◌, ℕ, List, Result, Ok, Err}
use Rattle.script_tool.specs.Host.{Host}
use Rattle.script_tool.specs.Kept.{RepresentsHost}
use Rattle.script_tool.specs.Printed.{kind_played, Printed, printed_text, status_printed}
use Rattle.script_tool.specs.Play.{playing, remembering}
use Rattle.script_tool.specs.Played.{IsBroken, Leads}
use Rattle.script_lines.specs.Quiet.{is_quiet}
use Rattle.script_tool.specs.Talk.{Ends}
use Rattle.script_tool.specs.declared.host_state.HostState.{HostState}
use Rattle.script_lines.specs.declared.line.ScriptLine.{ScriptLine}
use Rattle.script_tool.specs.declared.link.CardLink.{Ghosts as CardLink}
use Rattle.script_tool.specs.declared.played.Played as the_played
use Rattle.script_tool.specs.declared.played.StepStop.{StepStop}
use Rattle.script_tool.specs.declared.played.StepStop.TheVariants.{Form, LinkFailed}

-- The host has played the line to its end over the link, remembers the status that it printed, and has written the text.
pub record HasPlayed {L : Type 0} (link : CardLink L) (old new : L) (host : Host) (said : ScriptLine) (kept : HostState) (text : List ℕ) (played : the_played.Played) : Type 0 where
  pub printed : Printed
  pub after : Host
  pub leads : Leads link old new (playing host said) (Ends printed after)
  pub stands : RepresentsHost kept (remembering (status_printed printed) after)
  pub text_is : text ≡ printed_text (is_quiet said) printed
  pub kind : played ≡ kind_played printed

-- The host has played the line, or the link failed in a command of it.
abbrev pub StepPlays : {L : Type 0} → CardLink L → L → L → Host → ScriptLine → HostState → List ℕ → Result the_played.Played StepStop → Type 0
StepPlays link old new host said kept text (Ok played) = HasPlayed link old new host said kept text played
StepPlays link old new host said kept text (Err LinkFailed) = IsBroken link old new (playing host said)
StepPlays link old new host said kept text (Err (Form n)) = ⊥
