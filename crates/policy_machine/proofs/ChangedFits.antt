-- What a card holds while it has power goes with a registry in which entries are changed, but for their AIDs, Executable Load Files and
-- privileges.
use Rattle.std.proofs.Common.{◌≡◌, ℕ, Bool, List, Option, None, Some, refl, sym, subst}
use Rattle.std.specs.Prelude.{IsSome}
use Rattle.std.specs.Option.{option_map}
use Rattle.card_types.proofs.MappedEntries.{KeepsNames, changed, domain_still, entry_changed, some_keep, unnamed_still}
use Rattle.policy_machine.specs.Prelude.{Entry, Fits, LoadFile, LoadSession, Registry, Volatile, entry_named, with_entries}
use Rattle.policy_machine.proofs.FitsKept.{LeavesRoom, fits_kept, same_files}

-- also where other Executable Load Files leave a load session its room
pub mapped_fits : (registry : Registry) (change : Entry → Entry) (files : List LoadFile) (keeps : KeepsNames change) (volatile : Volatile)
    → ((load : LoadSession) → (entry_named registry load.aid ≡ None → entry_named (changed registry change files keeps) load.aid ≡ None)
    → LeavesRoom registry (changed registry change files keeps) load.aid)
    → Fits registry volatile → Fits (changed registry change files keeps) volatile
mapped_fits registry change files keeps volatile room fits =
    fits_kept registry (changed registry change files keeps) volatile (record {
      entries = λ aid held there. subst IsSome (sym (entry_changed registry change files keeps aid)) (some_mapped (entry_named registry aid) there);
      domains = λ aid held is. domain_still registry change files keeps aid is;
      room = λ load at. room load (unnamed_still registry change files keeps load.aid);
    }) fits
  where
    some_mapped : (o : Option Entry) → IsSome o → IsSome (option_map change o)
    some_mapped None there = there
    some_mapped (Some entry) there = refl

pub changed_fits : (registry : Registry) (these : List ℕ → Bool) (change : Entry → Entry) → KeepsNames change → (volatile : Volatile) → Fits registry volatile
    → Fits (with_entries registry these change) volatile
changed_fits registry these change keeps volatile fits =
    mapped_fits registry _ registry.files (some_keep these change keeps) volatile
    (λ load free. same_files registry (with_entries registry these change) load.aid refl free) fits
