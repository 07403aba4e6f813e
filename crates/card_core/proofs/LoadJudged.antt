-- A block that a load session judges: the rule that refuses it, and what decides where it is taken.
use Rattle.std.proofs.Common.{◌≡◌, ℕ, List, false, true, Option, None, Some, Result, Ok, Err, sym, subst, ◌∙◌, inl, inr}
use Rattle.std.specs.Prelude.{◌↔◌}
use Rattle.std.proofs.lemmas.Bool.{eq-eqb, eqb-true}
use Rattle.card_core.specs.Prelude.{ActsIn, Admitted, Block, ForEachSaid, HasNoRoom, HasOtherCount, HasOtherHash, HasPages, IsFirst, IsForBlock, IsForLast, IsLoadNamed, IsLoadOf, IsSound, LoadFails, LoadParameters, RepresentsLoad, RepresentsLoading, RepresentsState, StopsBlock, block_in, block_of, block_rule, front_rules, last_rules, load_rules}
use Rattle.card_types.specs.declared.tables.Tables.{Tables}
use Rattle.load_session.specs.declared.block.BlockStop.{BlockStop}
use Rattle.load_session.specs.declared.block.BlockStop.TheVariants.{FirstBlock, NoRoom, Count, Hash}
use Rattle.load_session.specs.declared.block.Taken.{Taken}
use Rattle.load_session.specs.declared.session.LoadSession.{LoadSession as Kept}
use Rattle.policy_machine.specs.declared.rule.Rule.{Rule}
use Rattle.policy_machine.specs.declared.rule.Rule.TheVariants.{LO}
use Rattle.content_rules.proofs.LoadJudging.{count_refuses, hash_refuses, last_decides, length_refuses, more_passes, room_refuses}
use Rattle.content_rules.proofs.LoadNamed.{IsNamedOn, named_on_channel}
use Rattle.content_rules.specs.declared.load.LoadRequest.{LoadRequest}
use Rattle.policy_slots.specs.declared.live.Live.{Live}
use Rattle.policy_slots.specs.declared.live.LoadName.{LoadName}

-- a command that has passed the rules on the number of its block brings it to the load session that is kept
pub for_block : (page : ℕ → List ℕ) (tables : Tables) (live : Live) (session : Option Kept) (kept : Kept) (name : LoadName) (domain channel : ℕ) (request : LoadRequest) (admitted : Admitted)
    → session ≡ Some kept → (live.load ≡ Some name) × (name.channel ≡ channel) → channel ≡ admitted.channel → HasPages page → ActsIn page tables domain admitted
    → RepresentsState page tables live admitted.at → IsSound admitted.at → RepresentsLoading page tables session admitted.at.volatile.load
    → IsLoadOf request admitted.command → IsFirst (LoadFails admitted) front_rules None → IsForBlock page tables kept name domain request admitted
for_block page tables live session kept name domain channel request admitted at named on whole acts says sound stands is front = record {
  whole = whole;
  acts = acts;
  sound = sound;
  is = is;
  load = record { named = subst (λ (n : Option LoadName). IsLoadNamed tables.entries.items n admitted.at.volatile.load) named.0 says.load; on = named.1 ∙ on };
  stands = subst (λ (s : Option Kept). RepresentsLoading page tables s admitted.at.volatile.load) at stands;
  front = front;
}

module _ (page : ℕ → List ℕ) (tables : Tables) (kept : Kept) (name : LoadName) (domain : ℕ) (request : LoadRequest) (admitted : Admitted)
    (is_for : IsForBlock page tables kept name domain request admitted) where
  -- the load session that the block is for, of which this is kept
  pub load_on : IsNamedOn tables.entries.items name admitted
  load_on = named_on_channel tables.entries.items name admitted is_for.load.named is_for.load.on

  pub load_stands : RepresentsLoad page tables kept load_on.load
  load_stands = subst (RepresentsLoading page tables (Some kept)) load_on.on.0 is_for.stands

  -- the block is the command's
  pub same_block : block_in request ≡ block_of admitted.command
  same_block = λ i. record { last = is_for.is.last i; field = is_for.is.block i }

  -- P1 says whether it is the last one
  pub is_last : request.last ≡ true → admitted.command.p1 ≡ 0x80
  is_last last = eqb-true admitted.command.p1 0x80 (sym is_for.is.last ∙ last)

  pub is_more : request.last ≡ false → admitted.command.p1 ≡ 0x00
  is_more more = by is_for.is.form
    where
      by : LoadParameters admitted.command.p1 → admitted.command.p1 ≡ 0x00
      by (inl zero) = zero
      by (inr last) = (let clash : true ≡ false = sym (is_for.is.last ∙ eq-eqb admitted.command.p1 0x80 last) ∙ more in cc)

  pub for_last : request.last ≡ true → IsForLast tables name admitted
  for_last last = record { load = is_for.load; sound = is_for.sound; last = is_last last }

  abbrev Fails : Rule → Type 0
  Fails = LoadFails admitted

  abbrev Stops : BlockStop → Type 0
  Stops = StopsBlock admitted.at.registry load_on.load (block_of admitted.command)

  stop_refuses : (stop : BlockStop) → Stops stop → IsFirst Fails load_rules (Some (LO (block_rule stop)))
  stop_refuses FirstBlock stops = length_refuses admitted is_for.front load_on.load load_on.on stops
  stop_refuses NoRoom stops = room_refuses admitted is_for.front load_on.load load_on.on stops
  stop_refuses Count stops = count_refuses admitted is_for.front load_on.load load_on.on stops.0 stops.1
  stop_refuses Hash stops = hash_refuses admitted is_for.front load_on.load load_on.on stops.0 stops.1 stops.2

  module _ (result : Result Taken BlockStop)
      (stop_is : ForEachSaid tables kept (λ said load. (stop : BlockStop) → (result ≡ Err stop ↔ StopsBlock said load (block_in request) stop))) where
    stops_exactly : (stop : BlockStop) → (result ≡ Err stop ↔ Stops stop)
    stops_exactly =
        subst (λ (b : Block). (stop : BlockStop) → (result ≡ Err stop ↔ StopsBlock admitted.at.registry load_on.load b stop)) same_block
        (stop_is page admitted.at.registry load_on.load is_for.whole is_for.acts.says load_stands)

    -- it is refused for the cause that is found
    pub refused_for : (stop : BlockStop) → result ≡ Err stop → IsFirst Fails load_rules (Some (LO (block_rule stop)))
    refused_for stop is = stop_refuses stop ((stops_exactly stop).0 is)

    -- where there is none, the rules on the last one decide, and where more come, no rule fails
    module _ (taken : Taken) (is : result ≡ Ok taken) where
      never : (stop : BlockStop) → Stops stop → ⊥
      never stop stops = (let clash : Ok taken ≡ Err stop = sym is ∙ (stops_exactly stop).1 stops in cc)

      no_room : HasNoRoom admitted.at.registry load_on.load (block_of admitted.command) → ⊥
      no_room = never NoRoom

      no_count : HasOtherCount load_on.load (block_of admitted.command) → ⊥
      no_count fails = never Count (no_room, fails)

      no_hash : HasOtherHash load_on.load (block_of admitted.command) → ⊥
      no_hash fails = never Hash (no_room, no_count, fails)

      pub decided : (found : Option Rule) → IsFirst Fails last_rules found → IsFirst Fails load_rules found
      decided found first = last_decides admitted is_for.front load_on.load load_on.on no_room no_count (never FirstBlock) no_hash found first

      pub passed_more : request.last ≡ false → IsFirst Fails load_rules None
      passed_more more = more_passes admitted is_for.front load_on.load load_on.on no_room no_count (never FirstBlock) no_hash (is_more more)
