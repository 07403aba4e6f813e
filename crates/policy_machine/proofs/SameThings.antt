-- What a card holds while it has power goes with a registry of the same entries and Executable Load Files.
use Rattle.std.proofs.Common.{List, refl}
use Rattle.policy_machine.specs.Prelude.{Counter, Fits, Key, Object, Registry, Volatile}
use Rattle.card_types.specs.declared.card_life.CardLife.{CardLife}
use Rattle.policy_machine.proofs.FitsKept.{fits_kept, same_files}

module _ (registry : Registry) (life : CardLife) (keys : List Key) (counters : List Counter) (objects : List Object) where
  abbrev after : Registry
  after = record { life = life; entries = registry.entries; files = registry.files; keys = keys; counters = counters; objects = objects }

  pub same_fits : (volatile : Volatile) → Fits registry volatile → Fits after volatile
  same_fits volatile fits =
      fits_kept registry after volatile
      (record { entries = λ aid held is. is; domains = λ aid held is. is; room = λ load at. same_files registry after load.aid refl (λ none. none) }) fits
