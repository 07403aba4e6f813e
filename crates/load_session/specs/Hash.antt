-- The hash of an Executable Load File, taken as its bytes come (GlobalPlatform Card Specification 2.3.1, 11.5.2.3.1 and C.2).
use Rattle.std.specs.Prelude.{◌≡◌, ℕ, List, [], length}
use Rattle.load_session.specs.declared.hash.RunningHash.{RunningHash}
use Rattle.load_session.specs.declared.hash.RunningHash.TheVariants.{Unhashed, OfSha1, OfSha256}
use Rattle.sha1.specs.Sha1.{Holds}
use Rattle.sha2.specs.Hashers.{Holds256}

-- these bytes were taken, under the hash function that the hash is from
abbrev pub IsFed : List ℕ → RunningHash → List ℕ → Type 0
IsFed hash Unhashed bytes = hash ≡ []
IsFed hash (OfSha1 hasher) bytes = (length hash ≡ 20) × Holds hasher bytes
IsFed hash (OfSha256 hasher) bytes = (length hash ≡ 32) × Holds256 hasher bytes
