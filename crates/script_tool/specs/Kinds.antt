-- For the code inside. What the answer of a line is for the text and the status of a run.
use Rattle.std.specs.Prelude.{Bool, true, false}
use Rattle.script_tool.specs.declared.played.Played as the_played
use Rattle.script_tool.specs.declared.played.Played.TheVariants.{Quiet, WantDiffers}

-- a status differed from the one that the line wants
abbrev pub is_difference_kind : the_played.Played → Bool
is_difference_kind WantDiffers = true
is_difference_kind _ = false

-- the line prints something
abbrev pub prints_kind : the_played.Played → Bool
prints_kind Quiet = false
prints_kind _ = true
