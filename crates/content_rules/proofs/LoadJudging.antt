-- The rules of LOAD in their order: those before the block is looked at, why it is not taken, and those on the last one.
use Rattle.std.proofs.Common.{◌≡◌, ◌++◌, Option, None, Some, refl, inl, inr, arith}
use Rattle.std.specs.Prelude.{map}
use Rattle.std.specs.Option.{option_map}
use Rattle.content_rules.specs.Prelude.{Admitted, Block, HasNoLength, HasNoRoom, HasOtherCount, HasOtherHash, IsFirst, IsLoadOn, LoadFails, LoadSession, LoadingFails, ManagementFails, block_of, block_rules, front_rules, last_rules, load_rules, number_rules}
use Rattle.policy_machine.specs.declared.load.RuleLO.{RuleLO}
use Rattle.policy_machine.specs.declared.management.RuleM.TheVariants.{M1, M2}
use Rattle.policy_machine.specs.declared.load.RuleLO.TheVariants.{LO3, LO4, LO5, LO6}
use Rattle.policy_machine.specs.declared.rule.Rule.{Rule}
use Rattle.policy_machine.specs.declared.rule.Rule.TheVariants.{LO}
use Rattle.policy_machine.proofs.FirstJoined.{first_after, first_within}
use Rattle.policy_machine.proofs.FirstLike.{first_of_group}
use Rattle.policy_machine.proofs.LoadOfChannel.{of_load}
use Rattle.policy_slots.proofs.ManagementFirst.{after_management}

module _ (admitted : Admitted) where
  abbrev Fails : Rule → Type 0
  Fails = LoadFails admitted

  -- the rules on the number of the block, after those of card content management
  pub number_decides : (found : Option RuleLO) → (ManagementFails admitted M1 → ⊥) × (ManagementFails admitted M2 → ⊥)
      → IsFirst (LoadingFails admitted) number_rules found → IsFirst Fails front_rules (option_map LO found)
  number_decides found managed first =
      after_management Fails (map LO number_rules) (option_map LO found) managed.0 managed.1 (first_of_group LO Fails number_rules found first)

  -- what fails before the block is looked at
  pub front_refuses : (rule : Rule) → IsFirst Fails front_rules (Some rule) → IsFirst Fails load_rules (Some rule)
  front_refuses rule first = first_within Fails (block_rules ++ last_rules) front_rules rule first

  module _ (front : IsFirst Fails front_rules None) (load : LoadSession) (on : IsLoadOn admitted load) where
    abbrev block : Block
    block = block_of admitted.command

    after_front : (found : Option Rule) → IsFirst Fails (block_rules ++ last_rules) found → IsFirst Fails load_rules found
    after_front found first = first_after Fails (block_rules ++ last_rules) front_rules found front first

    -- the causes why the block is not taken
    pub length_refuses : HasNoLength load block → IsFirst Fails load_rules (Some (LO LO3))
    length_refuses fails = after_front (Some (LO LO3)) (inl ((load, on, fails), refl))

    pub room_refuses : HasNoRoom admitted.at.registry load block → IsFirst Fails load_rules (Some (LO LO4))
    room_refuses fails =
        after_front (Some (LO LO4)) (inr (
          (λ none. of_load admitted (λ l. HasNoLength l block) load on none fails.0 fails.1 fails.2),
          inl ((load, on, fails), refl),
        ))

    module _ (room : HasNoRoom admitted.at.registry load block → ⊥) where
      has_room : LoadingFails admitted LO4 → ⊥
      has_room fails = room (of_load admitted (λ l. HasNoRoom admitted.at.registry l block) load on fails)

      pub count_refuses : HasOtherCount load block → IsFirst Fails load_rules (Some (LO LO5))
      count_refuses fails =
          after_front (Some (LO LO5)) (inr (
            (λ none. of_load admitted (λ l. HasNoLength l block) load on none fails.0 fails.1 fails.2),
            inr (has_room, inl ((load, on, fails), refl)),
          ))

      module _ (count : HasOtherCount load block → ⊥) where
        has_count : LoadingFails admitted LO5 → ⊥
        has_count fails = count (of_load admitted (λ l. HasOtherCount l block) load on fails)

        pub hash_refuses : HasOtherHash load block → IsFirst Fails load_rules (Some (LO LO6))
        hash_refuses fails =
            after_front (Some (LO LO6)) (inr (
              (λ none. of_load admitted (λ l. HasNoLength l block) load on none fails.0 fails.1 fails.2),
              inr (has_room, inr (has_count, inl ((load, on, fails), refl))),
            ))

        -- the block is taken
        module _ (announced : HasNoLength load block → ⊥) (hash : HasOtherHash load block → ⊥) where
          block_passes : IsFirst Fails block_rules None
          block_passes = inr (
            (λ fails. announced (of_load admitted (λ l. HasNoLength l block) load on fails)),
            inr (has_room, inr (has_count, inr ((λ fails. hash (of_load admitted (λ l. HasOtherHash l block) load on fails)), refl))),
          )

          -- with the last one, the rules on it decide
          pub last_decides : (found : Option Rule) → IsFirst Fails last_rules found → IsFirst Fails load_rules found
          last_decides found first = after_front found (first_after Fails last_rules block_rules found block_passes first)

          -- where more blocks come, none of the rules fails
          pub more_passes : admitted.command.p1 ≡ 0x00 → IsFirst Fails load_rules None
          more_passes more =
              last_decides None (inr ((λ fails. absurd (omega (arith, more, fails.0))), inr ((λ fails. absurd (omega (arith, more, fails.0))), refl)))
