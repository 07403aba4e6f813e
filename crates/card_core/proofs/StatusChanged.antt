-- Tables after the change that a SET STATUS of an entry makes.
use Rattle.std.proofs.Common.{◌≡◌, arith, ◌⊎◌, inl, inr, ℕ, List, [], Bool, Option, None, Some, refl, ap, sym, subst, ◌∙◌}
use Rattle.std.specs.Prelude.{Contains, IsSome, MatchOption, unwrap_or}
use Rattle.std.specs.Option.{option_map}
use Rattle.std.proofs.lemmas.Bool.{cases_Bool}
use Rattle.card_types.proofs.Domains.{domain_aid_is}
use Rattle.card_types.proofs.EntryNames.{one_entry_slot}
use Rattle.card_core.specs.Prelude.{Above, Admitted, AreCards, IsAboveIn, IsChangeFor, IsEntryStep, IsSlotInTree, IsTreeOf, KeepsAids, LocksTree, MakesChange, OneIsSet, Registry, Represents, SaysChange, StagesChanged, StagesOthers, TreeIsSet, Well, aid_of, domain_aid, domain_of, entry_named, entry_page, slot_of, thing_in, with_life, with_lock, with_locks}
use Rattle.card_types.specs.Registry as registry
use Rattle.card_types.specs.declared.found.Found.TheVariants as found
use Rattle.card_types.specs.declared.life.LifeMark.{LifeMark}
use Rattle.card_types.specs.declared.tables.Entry.{Entry}
use Rattle.card_types.specs.declared.tables.Tables.{Tables}
use Rattle.domain_tree.proofs.AboveNamed.{above_in_slots, above_named}
use Rattle.policy_rules.specs.declared.entry_status.StatusChange.{StatusChange}
use Rattle.policy_rules.specs.declared.entry_status.StatusChange.TheVariants.{One, Tree}
use Rattle.card_core.proofs.Cards.{in_order}
use Rattle.card_core.proofs.EntryCards.{changing_aids, entries_cards, entry_cards}

-- the slots of a tree are those of the entries that it has by their names
module _ (page : ℕ → List ℕ) (tables : Tables) (said : Registry) (says : Represents page tables said) (well : Well said) (domain : ℕ) (top : Entry)
    (at : thing_in tables.entries.items domain ≡ Some top) (slot : ℕ) (entry : Entry) (here : thing_in tables.entries.items slot ≡ Some entry) where
  abbrev root : List ℕ
  root = domain_aid tables.entries.items domain

  in_slots : (entry.aid ≡ root) ⊎ IsAboveIn said root entry.aid → IsSlotInTree tables.entries.items domain slot
  in_slots (inl same) = inl (one_entry_slot page tables said says slot domain entry top here at (same ∙ domain_aid_is tables.entries.items domain top at))
  in_slots (inr above) =
      inr (above_in_slots page tables said says well domain slot top entry at here
      (subst (Above (domain_of said) root) (sym (domain_aid_is tables.entries.items slot entry here)) above))

  by_names : IsSlotInTree tables.entries.items domain slot → (entry.aid ≡ root) ⊎ IsAboveIn said root entry.aid
  by_names (inl same) = inl (sym (domain_aid_is tables.entries.items slot entry here) ∙ ap (domain_aid tables.entries.items) same)
  by_names (inr above) =
      inr (subst (Above (domain_of said) root) (domain_aid_is tables.entries.items slot entry here) (above_named page tables said says domain slot top entry at here above))

-- each entry has the AID that it had
locking_aids : (page : ℕ → List ℕ) (before after : Tables) (said : Registry) → Represents page before said → Well said → (domain : ℕ) (locked : Bool)
    → IsSome (thing_in before.entries.items domain) → LocksTree before after domain locked → (these : List ℕ → Bool)
    → IsTreeOf said (domain_aid before.entries.items domain) these → KeepsAids before.entries.items after.entries.items
locking_aids page before after said says well domain locked some locks these tells slot entry here = by (thing_in before.entries.items domain) refl some
  where
    by : (o : Option Entry) → thing_in before.entries.items domain ≡ o → IsSome o → (other : Entry) × (thing_in after.entries.items slot ≡ Some other) × (other.aid ≡ entry.aid)
    by None at some = cc
    by (Some top) at some = elim (cases_Bool (these entry.aid)) [
      | inl inside ↦ (
        with_lock locked entry,
        locks.inside slot (in_slots page before said says well domain top at slot entry here ((tells entry.aid).0 inside)) ∙ ap (option_map (with_lock locked)) here,
        refl,
      )
      | inr other ↦ (
        entry,
        locks.outside slot (λ there.
            (let yes = (tells entry.aid).1 (by_names page before said says well domain top at slot entry here there) in let clash = sym yes ∙ other in cc)) ∙ here,
        refl,
      )
    ]

pub changed_aids : (before after : Tables) (change : StatusChange) → AreCards before → IsSome (thing_in before.entries.items (slot_of change))
    → MakesChange before after change → ((page : ℕ → List ℕ) (said : Registry) → Represents page before said → Well said → SaysChange page said before after change)
    → KeepsAids before.entries.items after.entries.items
changed_aids before after (One slot life) cards some made said = changing_aids before after slot (λ entry. record entry { life = life }) made (λ e. refl)
changed_aids before after (Tree domain locked) cards some made said =
    let order = in_order before cards in
    let of_tree = said order.page order.said order.says order.well in
    locking_aids order.page before after order.said order.says order.well domain locked some made of_tree.0 of_tree.1

-- the entry that is named takes the step
step_of : (o : Option registry.Entry) (p1 p2 : ℕ) (life : LifeMark) → MatchOption o ⊥ (λ named. IsEntryStep p1 p2 named life)
    → (entry : registry.Entry) × (o ≡ Some entry) × IsEntryStep p1 p2 entry life
step_of None p1 p2 life step = absurd step
step_of (Some entry) p1 p2 life step = (entry, refl, step)

-- the registry that is left, and what the command has done to it
pub change_says : (page : ℕ → List ℕ) (before after : Tables) (admitted : Admitted) (change : StatusChange)
    → aid_of before (found.Entry (slot_of change)) ≡ Some admitted.command.body → IsChangeFor admitted change → SaysChange page admitted.at.registry before after change
    → (left : Registry) × Represents page after left × (OneIsSet admitted left ⊎ TreeIsSet admitted left)
change_says page before after admitted (One slot life) named is says =
    let aid : domain_aid before.entries.items slot ≡ admitted.command.body = ap (λ o. unwrap_or o []) named in
    let step = step_of (entry_named admitted.at.registry admitted.command.body) admitted.command.p1 admitted.command.p2 life is.1 in (
      with_life admitted.at.registry admitted.command.body life,
      subst (λ (name : List ℕ). Represents page after (with_life admitted.at.registry name life)) aid says,
      inl (record { one = is.0; entry = step.0; named = step.1; life = life; step = step.2; registry = refl }),
    )
change_says page before after admitted (Tree domain locked) named is says =
    let aid : domain_aid before.entries.items domain ≡ admitted.command.body = ap (λ o. unwrap_or o []) named in (
      with_locks admitted.at.registry says.0 locked,
      says.2,
      inr (record {
        all = is.0;
        locked = locked;
        mark = is.1;
        these = says.0;
        tree = subst (λ (name : List ℕ). IsTreeOf admitted.at.registry name says.0) aid says.1;
        registry = refl;
      }),
    )

-- the tables are a card's where they say a registry that a card may have
pub changed_cards : (before after : Tables) (change : StatusChange) → MakesChange before after change → KeepsAids before.entries.items after.entries.items
    → ((page : ℕ → List ℕ) (said : Registry) → Represents page before said → Well said → (now : Registry) × Represents page after now × Well now)
    → AreCards before → AreCards after
changed_cards before after (One slot life) made keeps each cards =
    entry_cards before after slot (option_map (λ (entry : Entry). record entry { life = life }) (thing_in before.entries.items slot)) made keeps each cards
changed_cards before after (Tree domain locked) made keeps each cards =
    entries_cards before after made.slots made.files made.keys made.objects keeps each cards

-- what has an AID is there, and a slot with one is used
pub named_there : {T : Type 0} (name : T → List ℕ) (thing : Option T) (aid : List ℕ) → option_map name thing ≡ Some aid → IsSome thing
named_there name None aid is = cc
named_there name (Some thing) aid is = refl

pub used_by_name : (slots : List (Option Entry)) (slot : ℕ) (aid : List ℕ) → option_map (λ (entry : Entry). entry.aid) (thing_in slots slot) ≡ Some aid → IsSome (thing_in slots slot)
used_by_name slots slot aid = named_there (λ (entry : Entry). entry.aid) (thing_in slots slot) aid

-- with nothing staged before, the pages of entries that are others alone are staged
pub tree_staged : (before after : Tables) (old new : List ℕ) → old ≡ [] → StagesChanged entry_page before.entries.items after.entries.items old new
    → StagesOthers before.entries.items after.entries.items new
tree_staged before after old new none staged page there = elim (staged page there) [
  | inl was ↦ absurd (let none_there = subst (λ (pages : List ℕ). Contains pages page) none was in omega (arith, none_there.1))
  | inr changed ↦ changed
]
