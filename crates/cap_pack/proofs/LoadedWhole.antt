-- A card that may take an Executable Load File takes it whole.
use Rattle.std.proofs.Common.{◌≡◌, ◌≢◌, ℕ, List, Bool, true, false, Option, None, Some, refl, sym, ap, subst, ◌∙◌, eq-eqb, arith}
use Rattle.std.specs.Prelude.{MatchOption, ◌&&◌}
use Rattle.std.proofs.lemmas.Bool.{false≢true, true≢false}
use Rattle.std.proofs.lemmas.List.Elements.{All-contains}
use Rattle.apdu_core.specs.ClassBytes.{channel_of, on_channel}
use Rattle.card_types.proofs.LeastOfList.{found_fits}
use Rattle.card_types.specs.Aid.{same_aid}
use Rattle.card_types.specs.Privileges.{authorized_management, delegated_management, has}
use Rattle.card_types.specs.Registry.{Entry, Registry, entry_named}
use Rattle.card_types.specs.Well.{IsWellEntry, Well}
use Rattle.card_types.specs.declared.card_life.CardLife.{CardLife}
use Rattle.card_types.specs.declared.card_life.CardLife.TheVariants.{Locked}
use Rattle.policy_machine.specs.Charge.{HoldsPrivilege, is_privileged}
use Rattle.policy_machine.specs.Select.{is_card_locked}
use Rattle.policy_machine.specs.State.{State, LoadSession, load_without_channel, selected_on, session_on}
use Rattle.policy_machine.specs.Step.{Outcome}
use Rattle.policy_machine.proofs.OneOutcome.{one_run}
use Rattle.scp03_card.specs.Session.{Session}
use Rattle.script_tool.specs.Load.{block_element, load_blocks}
use Rattle.script_tool.specs.Loading.{block_count}
use Rattle.cap_pack.specs.Pack.{load_commands}
use Rattle.cap_pack.specs.Loads.{AlwaysLoadsWhole, IsFileLoaded, LoadsWhole, MayLoad, sent_in}
use Rattle.cap_pack.proofs.Admitting.{channel_is}
use Rattle.cap_pack.proofs.BlocksBrought.{few_blocks, left_of_all}
use Rattle.cap_pack.proofs.BlocksLoaded.{blocks_loaded}
use Rattle.cap_pack.proofs.Coming.{file_with}
use Rattle.cap_pack.proofs.LoadBegun.{MayBegin, begun_leads}
use Rattle.cap_pack.proofs.Reaching.{Leads}

not_locked : (life : CardLife) → life ≢ Locked → is_card_locked life ≡ true → ⊥
not_locked Locked other is = other refl
not_locked life other is = false≢true is

still_unlocked : (found : Option Entry) → MatchOption found ⊥ (λ entry. entry.life.locked ≡ false) → MatchOption found ⊥ (λ entry. entry.life.locked ≡ true) → ⊥
still_unlocked None one other = one
still_unlocked (Some entry) one other = true≢false (sym other ∙ one)

-- what manages content in its own right is no delegate
not_both : (a b : Bool) → (a && b) ≡ false → a ≡ true → b ≡ true → ⊥
not_both true true none one other = true≢false none
not_both true false none one other = false≢true other
not_both false b none one other = false≢true one

no_delegate : (registry : Registry) → Well registry → (domain : List ℕ) → HoldsPrivilege registry authorized_management domain
    → HoldsPrivilege registry delegated_management domain → ⊥
no_delegate registry well domain one other = by (entry_named registry domain) refl one other
  where
    by : (found : Option Entry) → entry_named registry domain ≡ found → is_privileged authorized_management found ≡ true → is_privileged delegated_management found ≡ true → ⊥
    by None at manages delegates = false≢true manages
    by (Some entry) at manages delegates =
        (let found = found_fits (λ (e : Entry). same_aid e.aid domain) registry.entries entry at in
        let proper = (All-contains (IsWellEntry registry) registry.entries entry well.entries found.0).proper in
        not_both (has authorized_management entry.privileges) (has delegated_management entry.privileges) proper.one_management manages delegates)

-- a load session of the channel ends
ends_there : (number channel : ℕ) → number ≡ channel → (load : Option LoadSession) → MatchOption load (Unit {0}) (λ l. l.channel ≡ channel) → load_without_channel number load ≡ None
ends_there number channel is None idle = refl
ends_there number channel is (Some load) idle = rw (eq-eqb load.channel number (idle ∙ sym is)) refl

module _ (state : State) (channel : ℕ) (session : Session) (file bytes : List ℕ) (may : MayLoad state channel session file bytes) where
  abbrev domain : List ℕ
  domain = selected_on state.volatile channel

  abbrev number : ℕ
  number = channel_of (on_channel 0x84 channel)

  is : number ≡ channel
  is = channel_is channel may.on.low

  begins : MayBegin state channel session file domain bytes
  begins = record {
    has = record { sound = may.sound; alive = may.alive; low = may.on.low; on = ap (session_on state.volatile) is ∙ may.on.in_session };
    into = record {
      card = not_locked state.registry.life may.unlocked;
      unlocked = still_unlocked (entry_named state.registry domain) may.on.unlocked;
      manages = may.on.manages;
      alone = no_delegate state.registry may.sound.well domain may.on.manages;
    };
    may = record { free = may.free; some = may.room.some; most = may.room.most; pages = may.room.pages };
    selected = ap (selected_on state.volatile) is;
    idle = ends_there number channel is state.volatile.load may.idle;
    aid = may.aid;
    named = may.named;
    octets = may.octets;
    few = may.room.few;
  }

  leads : Leads channel (file_with file domain bytes) state session (load_commands file bytes)
  leads =
      let element = block_element bytes in
      let count = (few_blocks bytes may.room.some may.room.most).1 in
      begun_leads state channel session file domain bytes begins (load_blocks 239 (block_count 239 element) 0 element)
      (λ begun after comes. blocks_loaded channel file domain bytes (block_count 239 element) begun after None _ element 0 comes (left_of_all element) (omega (arith, count)))

pub loads_whole : LoadsWhole
loads_whole state channel session file bytes may =
    let there = leads state channel session file bytes may in
    (there.0, there.1, there.2, record { accepted = there.3; added = there.4 })

pub always_loads_whole : AlwaysLoadsWhole
always_loads_whole state channel session file bytes may outcomes last run =
    let there = loads_whole state channel session file bytes may in
    let same = one_run state (sent_in session channel (load_commands file bytes)) there.0 outcomes there.1 last there.2 run in
    subst (IsFileLoaded state channel session file bytes outcomes) same.1
    (subst (λ (os : List Outcome). IsFileLoaded state channel session file bytes os there.1) same.0 there.3)
