-- The first of the general rules that fails, by what was found.
use Rattle.std.proofs.Common.{◌≡◌, ◌≢◌, ◌⊎◌, ℕ, List, false, None, Some, refl, sym, ap, ◌∙◌, inl, inr}
use Rattle.std.specs.Prelude.{is_none, slice_index_or}
use Rattle.card_core.specs.Prelude.{Apdu, GeneralFails, IsFirst, IsKnown, IsToApplication, Of, RepresentsState, Short, State, channel_at, channel_of, class_of, command_rules, entry_of, general_rules, is_domain_in, selected_on}
use Rattle.card_types.proofs.EntryNames.{entry_in_slot}
use Rattle.card_types.proofs.Domains.{domain_aid_is}
use Rattle.card_types.specs.Registry.{Entry as NamedEntry, entry_named, is_domain}
use Rattle.card_types.specs.declared.tables.Tables.{Tables}
use Rattle.policy_machine.proofs.Passing.{channel_is_low}
use Rattle.policy_machine.proofs.OneOutcome.{of_one}
use Rattle.policy_machine.specs.declared.class.Class.{Class}
use Rattle.policy_machine.specs.declared.instruction.TheConstants.{SELECT, MANAGE_CHANNEL}
use Rattle.policy_machine.specs.declared.rule.RuleG.TheVariants.{G1, G2, G3, G4}
use Rattle.policy_slots.proofs.Selected.{selected_entry}
use Rattle.policy_slots.specs.declared.live.Live.{Live}
use Rattle.card_core.proofs.ChannelChanges.{none_selected, some_selected}

module _ (page : ℕ → List ℕ) (tables : Tables) (live : Live) (state : State) (bytes : List ℕ) (command : Apdu) (says : RepresentsState page tables live state) (short : Short command bytes) where
  abbrev number : ℕ
  number = channel_of command.class

  abbrev IsUntaken : Type 0
  IsUntaken = (IsKnown command.class command.ins → ⊥) ⊎ (IsToApplication state command × (command.ins ≢ SELECT) × (command.ins ≢ MANAGE_CHANNEL))

  not_of : (holds : Apdu → Type 0) → (holds command → ⊥) → Of bytes holds → ⊥
  not_of holds never of = never (of_one bytes holds command short of)

  is_command : GeneralFails state bytes G1 → ⊥
  is_command none = none command short

  has_class : (class : Class) → class_of command.class ≡ Some class → GeneralFails state bytes G2 → ⊥
  has_class class is = not_of (λ c. class_of c.class ≡ None) (λ none. (let clash = sym none ∙ is in cc))

  closed : slice_index_or live.selected number None ≡ None → channel_at state.volatile number ≡ None
  closed is = none_selected tables.entries.items _ _ (says.selected number (channel_is_low command.class)) (ap is_none is)

  is_open : (slot : ℕ) → slice_index_or live.selected number None ≡ Some slot → GeneralFails state bytes G3 → ⊥
  is_open slot is =
      let some = some_selected tables.entries.items _ _ (says.selected number (channel_is_low command.class)) (ap is_none is) in
      not_of (λ c. channel_at state.volatile (channel_of c.class) ≡ None) (λ none. (let clash = sym none ∙ some.1 in cc))

  -- an application is selected exactly where the slot holds one
  to_application : (slot : ℕ) → slice_index_or live.selected number None ≡ Some slot
      → (entry : NamedEntry) × (entry_named state.registry (selected_on state.volatile number) ≡ Some entry) × (is_domain entry ≡ is_domain_in tables.entries.items slot)
  to_application slot is =
      let on = selected_entry page tables live state number slot says (channel_is_low command.class) is in
      let named = entry_in_slot page tables state.registry says.registry slot on.0 on.1 in
      let aid = on.2 ∙ domain_aid_is tables.entries.items slot on.0 on.1 in (
        entry_of tables.entries.items tables.files.items on.0,
        ap (entry_named state.registry) aid ∙ named,
        rw on.1 refl,
      )

  domain_takes : (slot : ℕ) → slice_index_or live.selected number None ≡ Some slot → is_domain_in tables.entries.items slot ≡ false → IsToApplication state command
  domain_takes slot is none = (let found = to_application slot is in rw found.1 (found.2 ∙ none))

  not_application : (slot : ℕ) → slice_index_or live.selected number None ≡ Some slot → IsToApplication state command → is_domain_in tables.entries.items slot ≡ false
  not_application slot is application =
      (let found = to_application slot is in
      let none = rw found.1 at application in sym found.2 ∙ none)

  pub no_class : class_of command.class ≡ None → IsFirst (GeneralFails state bytes) general_rules (Some G2)
  no_class none = inr (is_command, inl ((command, short, none), refl))

  module _ (class : Class) (is_class : class_of command.class ≡ Some class) where
    pub no_channel : slice_index_or live.selected number None ≡ None → IsFirst (GeneralFails state bytes) general_rules (Some G3)
    no_channel none = inr (is_command, inr (has_class class is_class, inl ((command, short, closed none), refl)))

    module _ (slot : ℕ) (opened : slice_index_or live.selected number None ≡ Some slot) where
      untaken : IsUntaken → IsFirst (GeneralFails state bytes) general_rules (Some G4)
      untaken fails = inr (is_command, inr (has_class class is_class, inr (is_open slot opened, inl ((command, short, fails), refl))))

      pub unknown : (IsKnown command.class command.ins → ⊥) → IsFirst (GeneralFails state bytes) general_rules (Some G4)
      unknown none = untaken (inl none)

      pub for_no_application : (is_domain_in tables.entries.items slot ≡ false) × (command.ins ≢ SELECT) × (command.ins ≢ MANAGE_CHANNEL)
          → IsFirst (GeneralFails state bytes) general_rules (Some G4)
      for_no_application fails = untaken (inr (domain_takes slot opened fails.0, fails.1, fails.2))

      module _ (known : IsKnown command.class command.ins)
          (taken : ((is_domain_in tables.entries.items slot ≡ false) × (command.ins ≢ SELECT) × (command.ins ≢ MANAGE_CHANNEL)) → ⊥) where
        is_taken : IsUntaken → ⊥
        is_taken (inl none) = none known
        is_taken (inr application) = taken (not_application slot opened application.0, application.1, application.2)

        takes : GeneralFails state bytes G4 → ⊥
        takes = not_of (λ c. (IsKnown c.class c.ins → ⊥) ⊎ (IsToApplication state c × (c.ins ≢ SELECT) × (c.ins ≢ MANAGE_CHANNEL))) is_taken

        pub all_passed : IsFirst (GeneralFails state bytes) command_rules None
        all_passed = inr (is_command, inr (has_class class is_class, inr (is_open slot opened, inr (takes, refl))))
