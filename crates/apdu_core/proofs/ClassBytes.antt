-- For the crates above: the byte that names a channel names it, and is of its class.
use Rattle.std.proofs.Common.{◌≡◌, ℕ, ◌+◌, ◌*◌, ◌/◌, ◌%◌, ◌<◌, arith}
use Rattle.apdu_core.specs.ClassBytes.{IsBasicChannel, channel_of, off_channel, on_channel}

pub names_basic : (byte : ℕ) → IsBasicChannel (channel_of byte)
names_basic byte = omega arith

module _ (class channel : ℕ) (first : channel_of class ≡ 0) (low : IsBasicChannel channel) where
  pub names_it : channel_of (on_channel class channel) ≡ channel
  names_it = omega (arith, first, low)

  pub is_of_class : off_channel (on_channel class channel) ≡ class
  is_of_class = omega (arith, first, low)
