-- What is so of a card in each state that it comes to: its registry is one that a card may have, with its lists in order, and
-- what it holds while it has power goes with it.
use Rattle.std.specs.Prelude.{◌≡◌, ◌≢◌, ◌⊎◌, ℕ, ◌+◌, ◌<◌, ◌≤◌, List, length, Option, None, Some, MatchOption, IsSome}
use Rattle.std.specs.List.{sum_by}
use Rattle.card_types.specs.Aid.{IsAid}
use Rattle.card_types.specs.Registry.{IsAscending, Registry, entry_named, file_named}
use Rattle.card_types.specs.Well.{IsDomainNamed, IsKeyLength, Well, pages_of}
use Rattle.card_types.specs.declared.limits.TheConstants.{FILES, FILE_LIMIT, LOAD_PAGES}
use Rattle.policy_machine.specs.State.{State, Channel, LoadSession, SecureChannel, Nothing, Offered, Secured, Volatile, channel_at}
use Rattle.scp03_card.specs.Offer.{Offer}
use Rattle.policy_machine.specs.declared.channels.TheConstants.{CHANNELS}

-- three static keys of one length, and challenges of 8 bytes
pub record IsWellOffer (offer : Offer) : Type 0 where
  pub enc : IsKeyLength (length offer.enc)
  pub mac : length offer.mac ≡ length offer.enc
  pub dek : length offer.dek ≡ length offer.enc
  pub host : length offer.host ≡ 8
  pub card : length offer.card ≡ 8

-- a channel that has an offer or a session has a domain selected
abbrev pub FitsSecureChannel : Registry → List ℕ → SecureChannel → Type 0
FitsSecureChannel registry selected Nothing = Unit {0}
FitsSecureChannel registry selected (Offered offer) = IsDomainNamed registry selected × IsWellOffer offer
FitsSecureChannel registry selected (Secured session) = IsDomainNamed registry selected × IsWellOffer session.offer

-- an open channel has an entry selected
pub record IsWellChannel (registry : Registry) (channel : Channel) : Type 0 where
  pub selected : IsSome (entry_named registry channel.selected)
  pub secure_channel : FitsSecureChannel registry channel.selected channel.secure_channel

abbrev pub IsSecured : SecureChannel → Type 0
IsSecured (Secured session) = Unit {0}
IsSecured secure_channel = ⊥

-- how many bytes were announced: none before the first block
abbrev pub announced_bytes : Option ℕ → ℕ
announced_bytes None = 0
announced_bytes (Some size) = size

-- a length is announced by the first block
abbrev pub IsAnnounced : ℕ → Option ℕ → Type 0
IsAnnounced blocks None = blocks ≡ 0
IsAnnounced blocks (Some size) = (blocks ≢ 0) × (1 ≤ size) × (size ≤ FILE_LIMIT)

-- no hash, or that of SHA-1 or of SHA-256
abbrev pub IsHashLength : ℕ → Type 0
IsHashLength size = (size ≡ 0) ⊎ (size ≡ 20) ⊎ (size ≡ 32)

pub record IsWellLoad (registry : Registry) (volatile : Volatile) (load : LoadSession) : Type 0 where
  pub session : MatchOption (channel_at volatile load.channel) ⊥ (λ channel. IsSecured channel.secure_channel)
  pub aid : IsAid load.aid
  pub no_entry : entry_named registry load.aid ≡ None
  pub no_file : file_named registry load.aid ≡ None
  pub domain : IsDomainNamed registry load.domain
  pub hash : IsHashLength (length load.hash)
  pub few_files : length registry.files < FILES
  pub few_blocks : load.blocks ≤ 256
  pub announced : IsAnnounced load.blocks load.announced
  pub within : length load.bytes ≤ announced_bytes load.announced
  pub few_pages : sum_by (λ file. pages_of (length file.bytes)) registry.files + pages_of (announced_bytes load.announced) ≤ LOAD_PAGES

-- the volatile state goes with the registry
pub record Fits (registry : Registry) (volatile : Volatile) : Type 0 where
  pub channels : length volatile.channels ≡ CHANNELS
  pub basic : IsSome (channel_at volatile 0)
  pub each : (number : ℕ) → MatchOption (channel_at volatile number) (Unit {0}) (IsWellChannel registry)
  pub load : MatchOption volatile.load (Unit {0}) (IsWellLoad registry volatile)

pub record IsSound (state : State) : Type 0 where
  pub well : Well state.registry
  pub ascending : IsAscending state.registry
  pub fits : Fits state.registry state.volatile
