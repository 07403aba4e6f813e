-- What is printed where the card does not answer. This profile's own.
use Rattle.std.specs.Prelude.{ℕ, List, [], ◌∷◌, ◌++◌, codes, decimal}
use Rattle.host_tool.specs.declared.fault.LinkFault.{LinkFault}
use Rattle.host_tool.specs.declared.fault.LinkFault.TheVariants.{WriteFault, BadReply, Ended, ReadFault, TooMany}

abbrev pub no_reply : List ℕ
no_reply = codes "no reply" ++ 10 ∷ []

-- the number of the line that is no reply; nothing where a write was refused
abbrev pub fault_text : LinkFault → List ℕ
fault_text WriteFault = []
fault_text (BadReply number) = codes "reply " ++ decimal number ++ 10 ∷ []
fault_text Ended = no_reply
fault_text ReadFault = no_reply
fault_text TooMany = no_reply
