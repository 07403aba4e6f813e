-- For the code inside. What a SET STATUS of an entry changes, by slots.
use Rattle.std.specs.Prelude.{ℕ, List, Bool, Option, Contains}
use Rattle.card_types.specs.Registry.{Registry}
use Rattle.card_types.specs.RegistryChange.{with_life, with_locks}
use Rattle.card_types.specs.Represents.{Represents, domain_aid}
use Rattle.card_types.specs.declared.tables.Entry.{Entry}
use Rattle.card_types.specs.declared.tables.Tables.{Tables}
use Rattle.domain_tree.specs.Above.{IsTreeOf}
use Rattle.policy_rules.specs.declared.entry_status.StatusChange.{StatusChange}
use Rattle.policy_rules.specs.declared.entry_status.StatusChange.TheVariants.{One, Tree}
use Rattle.rec_store.specs.Places.{entry_page}
use Rattle.registry.specs.Pages.{IsChangedOn}
use Rattle.registry.specs.Setting.{ChangesEntry}
use Rattle.registry.specs.Tree.{LocksTree}

-- the entry has the life cycle state and lock mark, or those of the tree have the lock mark
abbrev pub MakesChange : Tables → Tables → StatusChange → Type 0
MakesChange before after (One slot life) = ChangesEntry before after slot (λ entry. record entry { life = life })
MakesChange before after (Tree domain locked) = LocksTree before after domain locked

-- The tables say the registry with that change made.
abbrev pub SaysChange : (ℕ → List ℕ) → Registry → Tables → Tables → StatusChange → Type 0
SaysChange page said before after (One slot life) = Represents page after (with_life said (domain_aid before.entries.items slot) life)
SaysChange page said before after (Tree domain locked) =
    (these : List ℕ → Bool) × IsTreeOf said (domain_aid before.entries.items domain) these × Represents page after (with_locks said these locked)

-- each page that is staged then has the slot of an entry that is another than before
abbrev pub StagesOthers : List (Option Entry) → List (Option Entry) → List ℕ → Type 0
StagesOthers before after staged = (page : ℕ) → Contains staged page → IsChangedOn entry_page before after page
