-- Providers apart, over a whole run.
use Rattle.std.specs.Prelude.{◌⊎◌, ℕ, List, [], ◌∷◌}
use Rattle.card_types.specs.Registry.{Registry}
use Rattle.card_types.specs.Well.{IsDomainNamed, IsRoot}
use Rattle.policy_machine.specs.Isolation.{BringsInto, Spares}
use Rattle.policy_machine.specs.Run.{Command, Input, Reset, Run}
use Rattle.policy_machine.specs.Sound.{IsSound}
use Rattle.policy_machine.specs.State.{State, powered_on}
use Rattle.policy_machine.specs.Step.{Outcome, Step}
use Rattle.policy_machine.specs.Trees.{InTreeOf, Member, TreeStays}

-- each command of a run spares the domain, judged at the card before it
abbrev pub EachSpares : State → List Input → List Outcome → List ℕ → Type 0
EachSpares state (Command bytes ∷ inputs) (outcome ∷ outcomes) domain = Spares state bytes outcome domain × EachSpares outcome.state inputs outcomes domain
EachSpares state (Reset ∷ inputs) outcomes domain = EachSpares (powered_on state.registry) inputs outcomes domain
EachSpares state inputs outcomes domain = Unit {0}

-- what is new in the domain's tree after a command was brought into it
abbrev pub NewIsBrought : State → List ℕ → Outcome → List ℕ → Type 0
NewIsBrought state bytes outcome domain =
    (member : Member) → InTreeOf outcome.state.registry domain member → InTreeOf state.registry domain member ⊎ BringsInto state bytes outcome domain member

-- What is new in the domain's tree after each command of a run was brought into it.
abbrev pub AllNewIsBrought : State → List Input → List Outcome → List ℕ → Type 0
AllNewIsBrought state (Command bytes ∷ inputs) (outcome ∷ outcomes) domain = NewIsBrought state bytes outcome domain × AllNewIsBrought outcome.state inputs outcomes domain
AllNewIsBrought state (Reset ∷ inputs) outcomes domain = AllNewIsBrought (powered_on state.registry) inputs outcomes domain
AllNewIsBrought state inputs outcomes domain = Unit {0}

-- The tree of each domain that the command spares is as it was, but for members that a delegated extradition brought.
abbrev pub KeepsTrees : State → List ℕ → Outcome → Type 0
KeepsTrees state bytes outcome =
    (domain : List ℕ) → IsDomainNamed state.registry domain → Spares state bytes outcome domain
    → TreeStays state.registry outcome.state.registry domain × NewIsBrought state bytes outcome domain

-- each command keeps trees so
abbrev pub TreesStay : Type 0
TreesStay = (state : State) (bytes : List ℕ) (outcome : Outcome) → IsSound state → Step state bytes outcome → KeepsTrees state bytes outcome

-- after each of these outcomes the tree is as it was
abbrev pub StaysThrough : Registry → List Outcome → List ℕ → Type 0
StaysThrough before [] domain = Unit {0}
StaysThrough before (outcome ∷ outcomes) domain = TreeStays before outcome.state.registry domain × StaysThrough before outcomes domain

-- A run of commands keeps trees so, after each of them and at its end.
abbrev pub TreesStayInRuns : Type 0
TreesStayInRuns =
    (state : State) (inputs : List Input) (outcomes : List Outcome) (last : State) (domain : List ℕ) → IsSound state → Run state inputs outcomes last
    → IsDomainNamed state.registry domain → EachSpares state inputs outcomes domain
    → StaysThrough state.registry outcomes domain × TreeStays state.registry last.registry domain × AllNewIsBrought state inputs outcomes domain

-- nothing is brought into the tree of a root
abbrev pub RootsGetNothing : Type 0
RootsGetNothing =
    (state : State) (bytes : List ℕ) (outcome : Outcome) (domain : List ℕ) (member : Member) → IsRoot state.registry domain
    → BringsInto state bytes outcome domain member → ⊥
