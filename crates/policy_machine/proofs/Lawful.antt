-- What is asked of a command.
use Rattle.std.proofs.Common.{◌≡◌, ◌≢◌, ℕ, ◌<◌, ◌≤◌, false, Option, None, Some, refl, sym, ap, subst, ◌∙◌, inl, inr, arith}
use Rattle.std.specs.Prelude.{◌==◌, Contains, IsSome, MatchOption}
use Rattle.policy_machine.specs.Prelude.{Admitted, Channel, CommandForm, Effect, Fits, IsAscending, IsDomainNamed, IsOfCard, IsSameButCounters, IsSound, JudgesAs, Registry, SecureChannel, State, Volatile, Well, acting, channel_at, channel_with, load_without_channel, managing, place_in, with_channel, with_secure_channel}
use Rattle.policy_machine.specs.declared.channels.TheConstants.{CHANNELS}
use Rattle.policy_machine.specs.declared.instruction.TheConstants.{GET_STATUS, LOAD, MANAGE_CHANNEL, SELECT}
use Rattle.std.proofs.lemmas.Bool.Decides.{eqb_tells}
use Rattle.policy_machine.proofs.SetChannel.{HasSession, set_other, set_there}

-- what a command that has passed finds
pub record IsReady (admitted : Admitted) : Type 0 where
  pub sound : IsSound admitted.at
  pub low : admitted.channel < CHANNELS
  pub loads : (admitted.command.ins == LOAD) ≡ false → load_without_channel admitted.channel admitted.at.volatile.load ≡ admitted.at.volatile.load
  pub domain : admitted.command.ins ≢ SELECT → admitted.command.ins ≢ MANAGE_CHANNEL → IsDomainNamed admitted.at.registry (acting admitted)
  pub session : Contains managing admitted.command.ins → HasSession admitted.at.volatile admitted.channel

-- the channel has no place in a listing
abbrev pub HasNoPlaceOn : Volatile → ℕ → Type 0
HasNoPlaceOn volatile number = place_in (channel_at volatile number) ≡ None

-- It leaves a card sound, it does one thing, without secure messaging it changes no more than the numbers of sequence counters,
-- and unless it is GET STATUS it sets no place in a listing on its channel.
pub record IsLawful (form : CommandForm) : Type 0 where
  pub keeps : (admitted : Admitted) (done : Effect) → IsReady admitted → JudgesAs form admitted None → form.does admitted done → IsSound done.state
  pub one : (admitted : Admitted) (a b : Effect) → form.does admitted a → form.does admitted b → a ≡ b
  pub quiet : (Contains managing form.instruction → ⊥) → (admitted : Admitted) (done : Effect) → form.does admitted done
      → IsSameButCounters admitted.at.registry done.state.registry
  pub without_place : form.instruction ≢ GET_STATUS → (admitted : Admitted) (done : Effect) → HasNoPlaceOn admitted.at.volatile admitted.channel → form.does admitted done
      → HasNoPlaceOn done.state.volatile admitted.channel

-- its registry is one that a card may have
pub sound_of_card : {state : State} → IsSound state → IsOfCard state.registry
sound_of_card sound = record { well = sound.well; ascending = sound.ascending }

-- a sound card with other channels
pub sound_with : (state : State) (after : State) → IsSound state → after.registry ≡ state.registry → Fits state.registry after.volatile → IsSound after
sound_with state after sound same fits = record {
  well = subst Well (sym same) sound.well;
  ascending = subst IsAscending (sym same) sound.ascending;
  fits = subst (λ (r : Registry). Fits r after.volatile) (sym same) fits;
}

pub fits_as : {registry other : Registry} {volatile another : Volatile} → registry ≡ other → volatile ≡ another → Fits registry volatile → Fits other another
fits_as {registry} {other} {volatile} {another} same alike fits = subst (Fits other) alike (subst (λ (r : Registry). Fits r volatile) same fits)

-- card content management is for a domain
pub managed_apart : (ins byte : ℕ) → ins ≡ byte → 0xD8 ≤ byte → (ins ≢ SELECT) × (ins ≢ MANAGE_CHANNEL)
managed_apart ins byte is high = ((λ same. absurd (omega arith)), (λ same. absurd (omega arith)))

-- it is the same volatile state, or another that stands on the channel
pub placeless_same : (before after : Volatile) (number : ℕ) → after ≡ before → HasNoPlaceOn before number → HasNoPlaceOn after number
placeless_same before after number same none = subst (λ (v : Volatile). HasNoPlaceOn v number) (sym same) none

pub place_leaves_secure_channel : (volatile after : Volatile) (number : ℕ) (secure_channel : SecureChannel) → after ≡ with_secure_channel volatile number secure_channel → HasNoPlaceOn volatile number
    → HasNoPlaceOn after number
place_leaves_secure_channel volatile after number secure_channel same none =
    placeless_same (with_secure_channel volatile number secure_channel) after number same
    (set_there (λ c. place_in c ≡ None) refl volatile.channels number (channel_with secure_channel (channel_at volatile number)) (so (channel_at volatile number) none))
  where
    so : (channel : Option Channel) → place_in channel ≡ None → place_in (channel_with secure_channel channel) ≡ None
    so None none = refl
    so (Some channel) none = none

-- a channel is set to one without a place
pub placeless_set : (volatile : Volatile) (other number : ℕ) (channel : Option Channel) → place_in channel ≡ None → HasNoPlaceOn volatile number
    → HasNoPlaceOn (with_channel volatile other channel) number
placeless_set volatile other number channel there none = elim (eqb_tells number other) [
  | inl same ↦ subst (λ (n : ℕ). HasNoPlaceOn (with_channel volatile other channel) n) (sym same.1)
      (set_there (λ c. place_in c ≡ None) refl volatile.channels other channel there)
  | inr differs ↦ ap place_in (set_other volatile other number channel differs.1) ∙ none
]

-- a registry that is left as it is
same_all : (registry : Registry) → IsSameButCounters registry registry
same_all registry = record { life = refl; entries = refl; files = refl; keys = refl; counters = refl; objects = refl }

pub same_as : (before after : Registry) → after ≡ before → IsSameButCounters before after
same_as before after same = subst (IsSameButCounters before) (sym same) (same_all before)

pub some_same : {A : Type 0} (a b : A) → Some a ≡ Some b → a ≡ b
some_same a b same = cc

-- there is none of what is not there
pub none_of : {A : Type 0} (o : Option A) → (IsSome o → ⊥) → o ≡ None
none_of None without = refl
none_of (Some x) without = absurd (without refl)

-- what is so of a thing that is there
pub found_so : {A : Type 0} (holds : A → Type 0) (o : Option A) → MatchOption o ⊥ holds → (x : A) × (o ≡ Some x) × holds x
found_so holds None is = absurd is
found_so holds (Some x) is = (x, refl, is)
