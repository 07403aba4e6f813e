-- What is so of channels when one of them is set.
use Rattle.std.proofs.Common.{◌≡◌, ◌≢◌, ℕ, zero, suc, ◌+◌, ◌<◌, List, [], ◌∷◌, Bool, true, false, Option, None, Some, refl, sym, ap, subst, ◌∙◌, inl, inr, length, arith}
use Rattle.std.specs.Prelude.{IsSome, MatchOption, slice_index_or, slice_set, cond, nat_lt}
use Rattle.std.specs.List.{position_or_len}
use Rattle.std.proofs.lemmas.Bool.Decides.{eqb_tells}
use Rattle.std.proofs.lemmas.List.{length-set, get_or-set_same, get_or-set_other}
use Rattle.policy_machine.specs.Prelude.{Channel, Fits, IsSecured, IsWellChannel, IsWellLoad, LoadSession, Registry, Volatile, channel_at, is_closed, load_without_channel, lowest_closed, with_channel, without_load}
use Rattle.policy_machine.proofs.FitsKept.{load_goes_on, same_files}

-- a session is opened on the channel
abbrev pub IsInSession : Option Channel → Type 0
IsInSession channel = MatchOption channel ⊥ (λ opened. IsSecured opened.secure_channel)

abbrev pub HasSession : Volatile → ℕ → Type 0
HasSession volatile number = IsInSession (channel_at volatile number)

pub set_same : (volatile : Volatile) (number : ℕ) (channel : Option Channel) → number < length volatile.channels
    → channel_at (with_channel volatile number channel) number ≡ channel
set_same volatile number channel low = get_or-set_same volatile.channels number channel None low

pub set_other : (volatile : Volatile) (number other : ℕ) (channel : Option Channel) → other ≢ number
    → channel_at (with_channel volatile number channel) other ≡ channel_at volatile other
set_other volatile number other channel differs = get_or-set_other volatile.channels number other channel None differs

-- what holds of a closed channel and of the one that is set holds where it is set
pub set_there : (holds : Option Channel → Type 0) → holds None → (channels : List (Option Channel)) (number : ℕ) (channel : Option Channel) → holds channel
    → holds (slice_index_or (slice_set channels number channel) number None)
set_there holds closed [] zero channel there = closed
set_there holds closed [] (suc number) channel there = closed
set_there holds closed (first ∷ channels) zero channel there = there
set_there holds closed (first ∷ channels) (suc number) channel there = set_there holds closed channels number channel there

-- what holds of a channel holds of it where one is set, if that holds of the one that is set
pub by_number : (holds : Option Channel → Type 0) (volatile : Volatile) (number : ℕ) (channel : Option Channel)
    → number < length volatile.channels → (other : ℕ) → (other ≡ number → holds channel) → holds (channel_at volatile other)
    → holds (channel_at (with_channel volatile number channel) other)
by_number holds volatile number channel low other set kept = elim (eqb_tells other number) [
  | inl same ↦ subst holds (sym (ap (channel_at (with_channel volatile number channel)) same.1 ∙ set_same volatile number channel low)) (set same.1)
  | inr differs ↦ subst holds (sym (set_other volatile number other channel differs.1)) kept
]

-- a load session goes on where its channel's session does
session_goes_on : (registry : Registry) (before after : Volatile) (load : Option LoadSession)
    → MatchOption load (Unit {0}) (IsWellLoad registry before)
    → ((opened : LoadSession) → load ≡ Some opened → HasSession before opened.channel → HasSession after opened.channel)
    → MatchOption load (Unit {0}) (IsWellLoad registry after)
session_goes_on registry before after None well kept = tt
session_goes_on registry before after (Some opened) well kept =
    load_goes_on registry registry before after opened (same_files registry registry opened.aid refl (λ none. none)) (kept opened refl well.session) well.domain well

-- a load session of another channel is left
others_kept : (registry : Registry) (before after : Volatile) (number : ℕ) (load : Option LoadSession)
    → MatchOption load (Unit {0}) (IsWellLoad registry before)
    → ((other : ℕ) → other ≢ number → HasSession before other → HasSession after other)
    → MatchOption (load_without_channel number load) (Unit {0}) (IsWellLoad registry after)
others_kept registry before after number None well kept = tt
others_kept registry before after number (Some opened) well kept = elim (eqb_tells opened.channel number) [
  | inl same ↦ rw same.0 tt
  | inr differs ↦ rw differs.0 (session_goes_on registry before after (Some opened) well
      (λ one is has. subst (HasSession after) (ap (λ (l : LoadSession). l.channel) (some_is opened one is))
      (kept opened.channel differs.1 (subst (HasSession before) (sym (ap (λ (l : LoadSession). l.channel) (some_is opened one is))) has))))
]
  where
    some_is : (a b : LoadSession) → Some a ≡ Some b → a ≡ b
    some_is a b is = cc

-- a channel is set, and its load session ends
pub ended_fits : (registry : Registry) (volatile : Volatile) (number : ℕ) (channel : Option Channel) → Fits registry volatile
    → number < length volatile.channels → MatchOption channel (Unit {0}) (IsWellChannel registry) → (number ≡ 0 → IsSome channel)
    → Fits registry (without_load (with_channel volatile number channel) number)
ended_fits registry volatile number channel fits low well first = record {
  channels = length-set volatile.channels number channel ∙ fits.channels;
  basic = by_number IsSome volatile number channel low 0 (λ same. first (sym same)) fits.basic;
  each = λ other. by_number (λ c. MatchOption c (Unit {0}) (IsWellChannel registry)) volatile number channel low other (λ same. well) (fits.each other);
  load = others_kept registry volatile (without_load (with_channel volatile number channel) number) number volatile.load fits.load
      (λ other differs has. by_number IsInSession volatile number channel low other (λ same. absurd (differs same)) has);
}

-- a channel is set that has a session still, if it had one
pub set_fits : (registry : Registry) (volatile : Volatile) (number : ℕ) (channel : Option Channel) → Fits registry volatile
    → number < length volatile.channels → MatchOption channel (Unit {0}) (IsWellChannel registry) → (number ≡ 0 → IsSome channel)
    → (HasSession volatile number → IsInSession channel)
    → Fits registry (with_channel volatile number channel)
set_fits registry volatile number channel fits low well first session = record {
  channels = length-set volatile.channels number channel ∙ fits.channels;
  basic = by_number IsSome volatile number channel low 0 (λ same. first (sym same)) fits.basic;
  each = λ other. by_number (λ c. MatchOption c (Unit {0}) (IsWellChannel registry)) volatile number channel low other (λ same. well) (fits.each other);
  load = session_goes_on registry volatile (with_channel volatile number channel) volatile.load fits.load
      (λ opened is has. by_number IsInSession volatile number channel low opened.channel (λ same. session (subst (HasSession volatile) same has)) has);
}

-- an open channel is changed, and has a session still, if it had one
module _ (registry : Registry) (volatile : Volatile) (number : ℕ) (change : Option Channel → Option Channel) (becomes : Channel → Channel)
    (closed : change None ≡ None) (opened : (channel : Channel) → change (Some channel) ≡ Some (becomes channel))
    (well : (channel : Channel) → IsWellChannel registry channel → IsWellChannel registry (becomes channel))
    (secured : (channel : Channel) → IsSecured channel.secure_channel → IsSecured (becomes channel).secure_channel) where
  through : (holds : Option Channel → Type 0) → ((channel : Channel) → holds (Some channel) → holds (Some (becomes channel))) → (channel : Option Channel)
      → holds channel → holds (change channel)
  through holds kept None is = subst holds (sym closed) is
  through holds kept (Some channel) is = subst holds (sym (opened channel)) (kept channel is)

  pub becomes_fits : Fits registry volatile → number < length volatile.channels → Fits registry (with_channel volatile number (change (channel_at volatile number)))
  becomes_fits fits low =
      let here = channel_at volatile number in
      set_fits registry volatile number (change here) fits low
      (through (λ c. MatchOption c (Unit {0}) (IsWellChannel registry)) well here (fits.each number))
      (λ first. through IsSome (λ c some. refl) here (subst (λ (n : ℕ). IsSome (channel_at volatile n)) (sym first) fits.basic))
      (through IsInSession secured here)

-- the end of a load session
pub without_load_fits : (registry : Registry) (volatile : Volatile) (number : ℕ) → Fits registry volatile → Fits registry (without_load volatile number)
without_load_fits registry volatile number fits = record {
  channels = fits.channels;
  basic = fits.basic;
  each = fits.each;
  load = others_kept registry volatile (without_load volatile number) number volatile.load fits.load (λ other differs has. has);
}

-- the lowest closed channel is one of the channels, and is closed
first_closed : (channels : List (Option Channel)) → position_or_len is_closed channels < length channels
    → slice_index_or channels (position_or_len is_closed channels) None ≡ None
first_closed [] low = absurd (omega arith)
first_closed (None ∷ channels) low = refl
first_closed (Some channel ∷ channels) low =
    subst (λ (n : ℕ). slice_index_or (Some channel ∷ channels) n None ≡ None) (next_is (position_or_len is_closed channels)) (first_closed channels (omega arith))
  where
    next_is : (n : ℕ) → suc n ≡ 1 + n
    next_is n = omega arith

pub lowest_is_closed : (channels : List (Option Channel)) (number : ℕ) → lowest_closed channels ≡ Some number
    → (number < length channels) × (slice_index_or channels number None ≡ None)
lowest_is_closed channels number found = by (nat_lt (position_or_len is_closed channels) (length channels)) refl found
  where
    by : (low : Bool) → nat_lt (position_or_len is_closed channels) (length channels) ≡ low
        → cond low (Some (position_or_len is_closed channels)) None ≡ Some number
        → (number < length channels) × (slice_index_or channels number None ≡ None)
    by false is some = cc
    by true is some =
        let place : position_or_len is_closed channels ≡ number = cc in
        let low : position_or_len is_closed channels < length channels = grind (arith, is) in
        (subst (λ (n : ℕ). n < length channels) place low, subst (λ (n : ℕ). slice_index_or channels n None ≡ None) place (first_closed channels low))
