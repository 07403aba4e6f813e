-- For the code inside. What the code keeps of a session under keys of any length.
use Rattle.scp03_card.specs.Kept.{KeptSession}
use Rattle.script_lines.specs.declared.keys.OfSize.{OfSize}
use Rattle.script_lines.specs.declared.keys.OfSize.TheVariants.{Aes128, Aes192, Aes256}

abbrev pub session_inside : OfSize KeptSession KeptSession KeptSession → KeptSession
session_inside (Aes128 session) = session
session_inside (Aes192 session) = session
session_inside (Aes256 session) = session
