-- What a card holds while it has power goes with another registry, where what it holds is there still, and a load session has the room
-- that it had.
use Rattle.std.proofs.Common.{◌≡◌, ◌⊎◌, inl, inr, List, Option, None, Some, ℕ, ◌≤◌, length, refl, ap, sym, subst, ◌∙◌, arith}
use Rattle.std.specs.Prelude.{IsSome, MatchOption}
use Rattle.std.specs.List.{sum_by}
use Rattle.policy_machine.specs.Prelude.{Channel, Fits, FitsSecureChannel, IsDomainNamed, IsLoadedInto, IsSecured, IsSelected, IsWellChannel, IsWellLoad, LoadFile, LoadSession, Nothing, Registry, SecureChannel, Secured, Volatile, channel_at, entry_named, file_named, pages_of}
use Rattle.policy_machine.specs.State.{Offered}

-- it is selected on a channel, or what is loaded goes into it
abbrev pub IsHeld : Volatile → List ℕ → Type 0
IsHeld volatile aid = IsSelected volatile aid ⊎ IsLoadedInto volatile aid

-- the AID of a load session is as free as it was, and there is as much room for its Executable Load File
pub record LeavesRoom (before after : Registry) (aid : List ℕ) : Type 0 where
  pub no_entry : entry_named before aid ≡ None → entry_named after aid ≡ None
  pub no_file : file_named before aid ≡ None → file_named after aid ≡ None
  pub fewer : length after.files ≤ length before.files
  pub smaller : sum_by (λ (file : LoadFile). pages_of (length file.bytes)) after.files ≤ sum_by (λ (file : LoadFile). pages_of (length file.bytes)) before.files

pub same_files : (before after : Registry) (aid : List ℕ) → after.files ≡ before.files → (entry_named before aid ≡ None → entry_named after aid ≡ None)
    → LeavesRoom before after aid
same_files before after aid same free = record {
  no_entry = free;
  no_file = λ none. ap (λ (files : List LoadFile). file_named (record before { files = files }) aid) same ∙ none;
  fewer = omega (arith, same_length);
  smaller = omega (arith, same_pages);
}
  where
    same_length : length after.files ≡ length before.files
    same_length = ap length same

    same_pages : sum_by (λ (file : LoadFile). pages_of (length file.bytes)) after.files ≡ sum_by (λ (file : LoadFile). pages_of (length file.bytes)) before.files
    same_pages = ap (sum_by (λ (file : LoadFile). pages_of (length file.bytes))) same

-- that of which something is so is there
pub some_there : {X : Type 0} (holds : X → Type 0) (o : Option X) → MatchOption o ⊥ holds → IsSome o
some_there holds None is = absurd is
some_there holds (Some x) is = refl

-- what a card holds is there still
pub record KeepsHeld (before after : Registry) (volatile : Volatile) : Type 0 where
  pub entries : (aid : List ℕ) → IsHeld volatile aid → IsSome (entry_named before aid) → IsSome (entry_named after aid)
  pub domains : (aid : List ℕ) → IsHeld volatile aid → IsDomainNamed before aid → IsDomainNamed after aid
  pub room : (load : LoadSession) → volatile.load ≡ Some load → LeavesRoom before after load.aid

-- a load session goes on, where its channel has a session, and its domain is there
pub load_goes_on : (before after : Registry) (then now : Volatile) (load : LoadSession) → LeavesRoom before after load.aid
    → MatchOption (channel_at now load.channel) ⊥ (λ channel. IsSecured channel.secure_channel) → IsDomainNamed after load.domain
    → IsWellLoad before then load → IsWellLoad after now load
load_goes_on before after then now load room session domain well = record {
  session = session;
  aid = well.aid;
  no_entry = room.no_entry well.no_entry;
  no_file = room.no_file well.no_file;
  domain = domain;
  hash = well.hash;
  few_files = omega (arith, room.fewer, well.few_files);
  few_blocks = well.few_blocks;
  announced = well.announced;
  within = well.within;
  few_pages = omega (arith, room.smaller, well.few_pages);
}

module _ (before after : Registry) (volatile : Volatile) (keeps : KeepsHeld before after volatile) where
  secure_still : (aid : List ℕ) → IsHeld volatile aid → (secure : SecureChannel) → FitsSecureChannel before aid secure → FitsSecureChannel after aid secure
  secure_still aid held Nothing fits = fits
  secure_still aid held (Offered offer) fits = (keeps.domains aid held fits.0, fits.1)
  secure_still aid held (Secured session) fits = (keeps.domains aid held fits.0, fits.1)

  channel_still : (number : ℕ) (channel : Option Channel) → channel_at volatile number ≡ channel → MatchOption channel (Unit {0}) (IsWellChannel before)
      → MatchOption channel (Unit {0}) (IsWellChannel after)
  channel_still number None at well = tt
  channel_still number (Some channel) at well =
      let held = inl (number, subst (λ (o : Option Channel). MatchOption o ⊥ (λ c. c.selected ≡ channel.selected)) (sym at) refl) in
      record {
        selected = keeps.entries channel.selected held well.selected;
        secure_channel = secure_still channel.selected held channel.secure_channel well.secure_channel;
      }

  load_still : (load : Option LoadSession) → volatile.load ≡ load → MatchOption load (Unit {0}) (IsWellLoad before volatile)
      → MatchOption load (Unit {0}) (IsWellLoad after volatile)
  load_still None at well = tt
  load_still (Some load) at well =
      let held = inr (subst (λ (o : Option LoadSession). MatchOption o ⊥ (λ l. l.domain ≡ load.domain)) (sym at) refl) in
      load_goes_on before after volatile volatile load (keeps.room load at) well.session (keeps.domains load.domain held well.domain) well

  pub fits_kept : Fits before volatile → Fits after volatile
  fits_kept fits = record {
    channels = fits.channels;
    basic = fits.basic;
    each = λ number. channel_still number (channel_at volatile number) refl (fits.each number);
    load = load_still volatile.load refl fits.load;
  }
