-- The text of a stop.
use Rattle.std.specs.Prelude.{ℕ, List, ◌++◌, codes, decimal}
use Rattle.cap_pack.specs.declared.stop.CapStop.{CapStop}
use Rattle.cap_pack.specs.declared.stop.CapStop.TheVariants.{Large, Component, Header, Twice, Applets}

abbrev pub stop_text : CapStop → List ℕ
stop_text Large = codes "cap large"
stop_text (Component n) = codes "cap component " ++ decimal n
stop_text Header = codes "cap header"
stop_text (Twice n) = codes "cap twice " ++ decimal n
stop_text (Applets n) = codes "cap applets " ++ decimal n
