-- The logical channel in a class byte (ISO/IEC 7816-4:2013, 5.4.1): its two low bits name one of the four basic channels.
use Rattle.std.specs.Prelude.{ℕ, ◌+◌, ◌*◌, ◌/◌, ◌%◌, ◌<◌}

-- a class byte can name the channel
abbrev pub IsBasicChannel : ℕ → Type 0
IsBasicChannel channel = channel < 4

-- the channel that the byte names
abbrev pub channel_of : ℕ → ℕ
channel_of byte = byte % 4

-- the byte of the same class that names channel 0
abbrev pub off_channel : ℕ → ℕ
off_channel byte = byte / 4 * 4

-- the byte that names this channel, where `class` is the one that names channel 0
abbrev pub on_channel : (class channel : ℕ) → ℕ
on_channel class channel = class + channel
