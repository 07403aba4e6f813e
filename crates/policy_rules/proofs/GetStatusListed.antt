-- What is listed, by slots and by names.
use Rattle.std.proofs.Common.{◌≡◌, ◌≢◌, ◌⊎◌, inl, inr, ℕ, zero, suc, ◌+◌, ◌<◌, Bool, true, false, List, [], ◌∷◌, length, Option, None, Some, refl, ap, sym, subst, ◌∙◌, arith}
use Rattle.std.specs.Prelude.{IfSome, MatchOption, cond, nat_eq}
use Rattle.std.specs.List.{starts_with}
use Rattle.std.specs.Option.{option_map}
use Rattle.std.specs.Ordering.{is_lt}
use Rattle.std.specs.declared.cmp.Ordering.{Ordering}
use Rattle.std.specs.declared.cmp.Ordering.TheVariants.{Less, Equal, Greater}
use Rattle.std.proofs.lemmas.Bool.{cases_lt}
use Rattle.std.proofs.lemmas.Cmp.{nat_list_cmp_total}
use Rattle.card_types.proofs.Next.{held_from_name}
use Rattle.card_types.proofs.NotAbove.{not_above_self, not_above_third, not_below}
use Rattle.card_types.proofs.Shows.{Shows, shows_used}
use Rattle.policy_rules.specs.Prelude.{AFile, ActsIn, Admitted, AnEntry, HasLayout, IsAbove, IsIn, IsListed, IsListedAs, IsListedAt, IsListedBy, IsNextListed, IsThingAt, NoneListed, NotAbove, Represents, Sees, Thing, acting, aid_in, aid_of, aid_order, entry_of, file_of, found_in, lower_of, thing_in}
use Rattle.card_types.specs.Registry as registry
use Rattle.card_types.specs.declared.factory.TheConstants.{ISSUER}
use Rattle.card_types.specs.declared.found.Found.{Found}
use Rattle.card_types.specs.declared.found.Found.TheVariants as found
use Rattle.card_types.specs.declared.limits.TheConstants.{ENTRIES}
use Rattle.card_types.specs.declared.tables.Entry.{Entry}
use Rattle.card_types.specs.declared.tables.LoadFile.{LoadFile}
use Rattle.card_types.specs.declared.tables.Tables.{Tables}

-- what a slot holds is in one of the slots
held_within : {T : Type 0} (slots : List (Option T)) (slot : ℕ) (thing : T) → thing_in slots slot ≡ Some thing → slot < length slots
held_within [] slot thing at = cc
held_within (s ∷ slots) zero thing at = omega arith
held_within (s ∷ slots) (suc slot) thing at = (let later = held_within slots slot thing at in omega (arith, later))

module _ (page : ℕ → List ℕ) (tables : Tables) where
  -- the thing in a slot, and its AID
  pub thing_named : (thing : Found) (aid : List ℕ) → aid_of tables thing ≡ Some aid → (named : Thing) × IsThingAt page tables thing named × (aid_in named ≡ aid)
  thing_named (found.Entry slot) aid is =
      let there = held_from_name (λ (e : Entry). e.aid) tables.entries.items slot aid is in
      (AnEntry (entry_of tables.entries.items tables.files.items there.0), (there.0, there.1, refl), there.2)
  thing_named (found.File slot) aid is =
      let there = held_from_name (λ (f : LoadFile). f.aid) tables.files.items slot aid is in
      (AFile (file_of page tables.entries.items there.0), (there.0, there.1, refl), there.2)

  pub aid_named : (thing : Found) (named : Thing) → IsThingAt page tables thing named → aid_of tables thing ≡ Some (aid_in named)
  aid_named (found.Entry slot) named (entry, at, is) = ap (option_map (λ (e : Entry). e.aid)) at ∙ ap (λ (t : Thing). Some (aid_in t)) (sym is)
  aid_named (found.File slot) named (file, at, is) = ap (option_map (λ (f : LoadFile). f.aid)) at ∙ ap (λ (t : Thing). Some (aid_in t)) (sym is)

  -- its kind
  pub kind_named : (p1 : ℕ) (thing : Found) (named : Thing) → IsThingAt page tables thing named → IsListedAs p1 thing (aid_in named) → IsListedBy p1 named
  kind_named p1 (found.Entry slot) named (entry, at, is) so =
      subst (IsListedBy p1) (sym is) (subst (λ (t : Thing). IsListedAs p1 (found.Entry slot) (aid_in t)) is so)
  kind_named p1 (found.File slot) named (file, at, is) so = subst (IsListedBy p1) (sym is) so

  pub kind_at : (p1 : ℕ) (thing : Found) (named : Thing) → IsThingAt page tables thing named → IsListedBy p1 named → IsListedAs p1 thing (aid_in named)
  kind_at p1 (found.Entry slot) named (entry, at, is) by =
      subst (λ (t : Thing). IsListedAs p1 (found.Entry slot) (aid_in t)) (sym is) (subst (IsListedBy p1) is by)
  kind_at p1 (found.File slot) named (file, at, is) by = subst (IsListedBy p1) is by

  module _ (said : registry.Registry) (says : Represents page tables said) where
    entries_shown : Shows (entry_of tables.entries.items tables.files.items) (λ _. true) tables.entries.items said.entries
    entries_shown = shows_used (entry_of tables.entries.items tables.files.items) tables.entries.items said.entries says.entries

    files_shown : Shows (file_of page tables.entries.items) (λ _. true) tables.files.items said.files
    files_shown = shows_used (file_of page tables.entries.items) tables.files.items said.files says.files

    pub is_in : (thing : Found) (named : Thing) → IsThingAt page tables thing named → IsIn said named
    is_in (found.Entry slot) named (entry, at, is) = subst (IsIn said) (sym is) (entries_shown.there slot entry at refl)
    is_in (found.File slot) named (file, at, is) = subst (IsIn said) (sym is) (files_shown.there slot file at refl)

    -- what is listed by its name is in a slot
    pub in_slot : (layout : HasLayout tables) (p1 : ℕ) (named : Thing) → IsIn said named → IsListedBy p1 named
        → (slot : ℕ) × (slot < ENTRIES) × IsThingAt page tables (found_in p1 slot) named
    in_slot layout p1 (AnEntry entry) there by =
        let at = entries_shown.from entry there in
        let low = held_within tables.entries.items at.0 at.1 at.2 in
        (at.0, omega (arith, low, layout.slots.entries), subst (λ (f : Found). IsThingAt page tables f (AnEntry entry)) (sym (entry_slot by at.0)) (at.1, at.2, ap AnEntry (sym at.4)))
      where
        entry_slot : {p1 : ℕ} {aid : List ℕ} → ((p1 ≡ 0x80) × (aid ≡ ISSUER)) ⊎ ((p1 ≡ 0x40) × (aid ≢ ISSUER)) → (slot : ℕ) → found_in p1 slot ≡ found.Entry slot
        entry_slot {p1} {aid} (inl first) slot = ap (λ (p : ℕ). found_in p slot) first.0
        entry_slot {p1} {aid} (inr second) slot = ap (λ (p : ℕ). found_in p slot) second.0
    in_slot layout p1 (AFile file) there by =
        let at = files_shown.from file there in
        let low = held_within tables.files.items at.0 at.1 at.2 in
        (at.0, omega (arith, low, layout.slots.files), subst (λ (f : Found). IsThingAt page tables f (AFile file)) (sym (file_slot by at.0)) (at.1, at.2, ap AFile (sym at.4)))
      where
        file_slot : {p1 : ℕ} → (p1 ≡ 0x20) ⊎ (p1 ≡ 0x10) → (slot : ℕ) → found_in p1 slot ≡ found.File slot
        file_slot {p1} (inl first) slot = ap (λ (p : ℕ). found_in p slot) first
        file_slot {p1} (inr second) slot = ap (λ (p : ℕ). found_in p slot) second

-- of the first slots the one that is listed with the least AID, or none
abbrev pub IsLeastBefore : (Found → List ℕ → Type 0) → ℕ → ℕ → Option (Found × List ℕ) → Type 0
IsLeastBefore listed p1 number least =
    MatchOption least ((slot : ℕ) (aid : List ℕ) → slot < number → listed (found_in p1 slot) aid → ⊥)
    (λ named. listed named.0 named.1 × ((slot : ℕ) (aid : List ℕ) → slot < number → listed (found_in p1 slot) aid → NotAbove named.1 aid))

-- one slot more
next_or : (slot number : ℕ) → slot < number + 1 → (slot < number) ⊎ (slot ≡ number)
next_or slot number low = elim (cases_lt slot number) [
  | inl before ↦ inl before
  | inr here ↦ inr (omega (arith, low, here))
]

module _ (listed : Found → List ℕ → Type 0) (p1 number : ℕ) where
  here_not : (slot : ℕ) (aid : List ℕ) → ((aid : List ℕ) → listed (found_in p1 number) aid → ⊥) → slot ≡ number → listed (found_in p1 slot) aid → ⊥
  here_not slot aid none same is = none aid (subst (λ (s : ℕ). listed (found_in p1 s) aid) same is)

  -- it is not listed
  pub none_more : (least : Option (Found × List ℕ)) → IsLeastBefore listed p1 number least → ((aid : List ℕ) → listed (found_in p1 number) aid → ⊥)
      → IsLeastBefore listed p1 (number + 1) least
  none_more None before none = λ slot aid low is. elim (next_or slot number low) [
    | inl lower ↦ before slot aid lower is
    | inr same ↦ here_not slot aid none same is
  ]
  none_more (Some named) before none = (
    before.0,
    λ slot aid low is. elim (next_or slot number low) [
      | inl lower ↦ before.1 slot aid lower is
      | inr same ↦ absurd (here_not slot aid none same is)
    ],
  )

  module _ (aid : List ℕ) (here : listed (found_in p1 number) aid) (one : (other : List ℕ) → listed (found_in p1 number) other → other ≡ aid) where
    self_not_above : (slot : ℕ) (other : List ℕ) → slot ≡ number → listed (found_in p1 slot) other → NotAbove aid other
    self_not_above slot other same is =
        subst (NotAbove aid) (sym (one other (subst (λ (s : ℕ). listed (found_in p1 s) other) same is))) (not_above_self nat_list_cmp_total aid)

    -- it is listed, and the lower is taken
    pub one_more : (least : Option (Found × List ℕ)) → IsLeastBefore listed p1 number least
        → IsLeastBefore listed p1 (number + 1) (Some (lower_of least (found_in p1 number) aid))
    one_more None before = (
      here,
      λ slot other low is. elim (next_or slot number low) [
        | inl lower ↦ absurd (before slot other lower is)
        | inr same ↦ self_not_above slot other same is
      ],
    )
    one_more (Some named) before = by (aid_order aid named.1) refl
      where
        kept : (aid_order aid named.1 ≡ Less → ⊥) → listed named.0 named.1
            × ((slot : ℕ) (other : List ℕ) → slot < number + 1 → listed (found_in p1 slot) other → NotAbove named.1 other)
        kept not_less = (
          before.0,
          λ slot other low there. elim (next_or slot number low) [
            | inl lower ↦ before.1 slot other lower there
            | inr same ↦ subst (NotAbove named.1) (sym (one other (subst (λ (s : ℕ). listed (found_in p1 s) other) same there)))
                (not_below nat_list_cmp_total aid named.1 not_less)
          ],
        )

        by : (o : Ordering) → aid_order aid named.1 ≡ o → IsLeastBefore listed p1 (number + 1) (Some (lower_of (Some named) (found_in p1 number) aid))
        by Less is = rw is (
          here,
          λ slot other low there. elim (next_or slot number low) [
            | inl lower ↦ not_above_third nat_list_cmp_total aid named.1 other is (before.1 slot other lower there)
            | inr same ↦ self_not_above slot other same there
          ],
        )
        by Equal is = rw is (kept (λ less. (let clash = sym is ∙ less in cc)))
        by Greater is = rw is (kept (λ less. (let clash = sym is ∙ less in cc)))

-- the lower of two has its AID
pub lower_named : (tables : Tables) (least : Option (Found × List ℕ)) (thing : Found) (aid : List ℕ) → IfSome least (λ named. aid_of tables named.0 ≡ Some named.1)
    → aid_of tables thing ≡ Some aid → aid_of tables (lower_of least thing aid).0 ≡ Some (lower_of least thing aid).1
lower_named tables None thing aid before named = named
lower_named tables (Some first) thing aid before named = by (is_lt (aid_order aid first.1))
  where
    by : (lower : Bool) → aid_of tables (cond lower (thing, aid) first).0 ≡ Some (cond lower (thing, aid) first).1
    by true = named
    by false = before

module _ (page : ℕ → List ℕ) (tables : Tables) (domain : ℕ) (admitted : Admitted) (acts : ActsIn page tables domain admitted)
    (p1 : ℕ) (partial : List ℕ) (after : Option (List ℕ)) where
  abbrev pub IsListedHere : Found → List ℕ → Type 0
  IsListedHere thing aid = IsListedAt page tables admitted p1 partial after thing aid

  -- what was found of a thing
  pub listed_from : (thing : Found) (aid : List ℕ) → aid_of tables thing ≡ Some aid → IsListedAs p1 thing aid → IsAbove after aid
      → starts_with nat_eq aid partial ≡ true
      → ((named : Thing) → IsThingAt page tables thing named → Sees admitted.at.registry (acting admitted) named) → IsListedHere thing aid
  listed_from thing aid is so above begins seen =
      let named = thing_named page tables thing aid is in
      record {
        thing = named.0;
        at = named.1;
        named = named.2;
        listed = record {
          there = is_in page tables admitted.at.registry acts.says thing named.0 named.1;
          kind = kind_named page tables p1 thing named.0 named.1 (subst (IsListedAs p1 thing) (sym named.2) so);
          begins = subst (λ (a : List ℕ). starts_with nat_eq a partial ≡ true) (sym named.2) begins;
          above = subst (IsAbove after) (sym named.2) above;
          seen = seen named.0 named.1;
        };
      }

  pub listed_aid_is : (thing : Found) (aid : List ℕ) → IsListedHere thing aid → aid_of tables thing ≡ Some aid
  listed_aid_is thing aid is = aid_named page tables thing is.thing is.at ∙ ap Some is.named

  pub listed_as : (thing : Found) (aid : List ℕ) → IsListedHere thing aid → IsListedAs p1 thing aid
  listed_as thing aid is = subst (IsListedAs p1 thing) is.named (kind_at page tables p1 thing is.thing is.at is.listed.kind)

  pub one_aid : (thing : Found) (aid other : List ℕ) → aid_of tables thing ≡ Some aid → IsListedHere thing other → other ≡ aid
  one_aid thing aid other named is = (let also = listed_aid_is thing other is in cc)

  pub listed_begins : (thing : Found) (aid other : List ℕ) → aid_of tables thing ≡ Some aid → IsListedHere thing other → starts_with nat_eq aid partial ≡ true
  listed_begins thing aid other named is =
      subst (λ (a : List ℕ). starts_with nat_eq a partial ≡ true) (is.named ∙ one_aid thing aid other named is) is.listed.begins

  -- the least of all slots is the next
  module _ (layout : HasLayout tables) where
    slot_of : (named : Thing) → IsListed admitted.at.registry (acting admitted) p1 partial after named
        → (slot : ℕ) × (slot < ENTRIES) × IsListedHere (found_in p1 slot) (aid_in named)
    slot_of named is =
        let at = in_slot page tables admitted.at.registry acts.says layout p1 named is.there is.kind in
        (at.0, at.1, record { thing = named; at = at.2; named = refl; listed = is })

    pub next_from_least : (thing : Found) (aid : List ℕ) → IsLeastBefore IsListedHere p1 ENTRIES (Some (thing, aid))
        → IsNextListed page tables admitted p1 partial after thing
    next_from_least thing aid (is, least) = record {
      thing = is.thing;
      at = is.at;
      listed = is.listed;
      least = λ other listed.
          (let at = slot_of other listed in
          subst (λ (a : List ℕ). NotAbove a (aid_in other)) (sym is.named) (least at.0 (aid_in other) at.1 at.2));
    }

    pub none_from_least : IsLeastBefore IsListedHere p1 ENTRIES None → NoneListed admitted p1 partial after
    none_from_least none other listed = (let at = slot_of other listed in none at.0 (aid_in other) at.1 at.2)
