-- A block of the Executable Load File is taken.
use Rattle.std.proofs.Common.{◌≡◌, ◌≢◌, ℕ, ◌+◌, ◌<◌, ◌≤◌, ◌==◌, List, [], ◌∷◌, ◌++◌, length, take, drop, Bool, true, false, Option, None, refl, sym, ap, subst, ◌∙◌, inl, inr, arith, if◌then◌else◌, length-append}
use Rattle.std.specs.Prelude.{MatchOption}
use Rattle.std.proofs.lemmas.List.{length-drop, length-take}
use Rattle.apdu_core.specs.Apdu.{Apdu}
use Rattle.apdu_core.specs.ClassBytes.{channel_of, on_channel}
use Rattle.card_types.specs.Privileges.{delegated_management}
use Rattle.card_types.specs.Registry.{Entry, LoadFile, Registry, entry_named}
use Rattle.card_types.specs.RegistryChange.{IsFileAdded}
use Rattle.card_types.specs.Well.{pages_of}
use Rattle.card_types.specs.declared.limits.TheConstants.{LOAD_PAGES}
use Rattle.policy_machine.specs.Admission.{Admitted}
use Rattle.policy_machine.specs.Charge.{HoldsPrivilege, IsAtOrAbove}
use Rattle.policy_machine.specs.Commands.{HasEffect, Judges, TakesCommand}
use Rattle.policy_machine.specs.Delegation.{Holds}
use Rattle.policy_machine.specs.Refusal.{IsFirst}
use Rattle.policy_machine.specs.Load.{EndsLoad, IsLoadOn, LoadEffect, LoadFails, LoadParameters, LoadingFails, block_of, load_rules}
use Rattle.policy_machine.specs.Load.{loading as load_form}
use Rattle.policy_machine.specs.LoadBlocks.{BringsBytes, HasNoLength, HasNoRoom, HasOtherCount, HasOtherHash, pages_used, with_block}
use Rattle.policy_machine.specs.Management.{acting}
use Rattle.policy_machine.specs.State.{Effect, State, LoadSession, with_load, without_load}
use Rattle.policy_machine.specs.declared.load.RuleLO.{RuleLO}
use Rattle.policy_machine.specs.declared.load.RuleLO.TheVariants.{LO1, LO2, LO3, LO4, LO5, LO6, LO7, LO8}
use Rattle.policy_machine.proofs.Judging.{does_so, judged}
use Rattle.policy_machine.proofs.LoadBlocksBrought.{one_brought}
use Rattle.policy_machine.proofs.LoadOfChannel.{of_load}
use Rattle.scp03_card.specs.Session.{Session}
use Rattle.script_tool.specs.Load.{block_command}
use Rattle.sha2.specs.Sha256.{sha256}
use Rattle.scp03_card.proofs.ListLemmas.{IsBytes-take}
use Rattle.cap_pack.proofs.Admitting.{IsSendable, taken, taken_selected, taken_session}
use Rattle.cap_pack.proofs.BlocksBrought.{Brings, all_come, brought}
use Rattle.cap_pack.proofs.Coming.{Comes, GoesOnAs, coming, file_with}
use Rattle.cap_pack.proofs.FilePut.{file_put}
use Rattle.cap_pack.proofs.Octets.{following_bytes}
use Rattle.cap_pack.proofs.Reaching.{Leads, leads_on, leads_there, open_after}

-- what P1 says
abbrev p1_for : Bool → ℕ
p1_for last = if last then 0x80 else 0x00

p1_taken : (last : Bool) → LoadParameters (p1_for last)
p1_taken true = inr refl
p1_taken false = inl refl

p1_last : (last : Bool) → (p1_for last == 0x80) ≡ true → last ≡ true
p1_last true is = refl
p1_last false is = is

p1_is_last : (last : Bool) → p1_for last ≡ 0x80 → last ≡ true
p1_is_last true is = refl
p1_is_last false is = absurd (omega (arith, is))

small_p1 : (last : Bool) → p1_for last < 256
small_p1 true = omega arith
small_p1 false = omega arith

some_taken : (rest : List ℕ) → 1 ≤ length rest → take 239 rest ≢ []
some_taken [] some none = absurd (omega (arith, some))
some_taken (b ∷ bs) some none = cc

-- the next block, which is the last one or not
module _ (state : State) (channel : ℕ) (session : Session) (file domain bytes : List ℕ) (announced : Option ℕ) (so_far rest : List ℕ) (blocks : ℕ)
    (comes : Comes state channel session file domain bytes announced so_far rest blocks) (last : Bool) (whole : last ≡ true → length rest ≤ 239) where
  abbrev number : ℕ
  number = channel_of (on_channel 0x84 channel)

  abbrev command : Apdu
  command = block_command last blocks (take 239 rest)

  sendable : IsSendable command
  sendable = record {
    known = (6, omega arith, refl);
    other = refl;
    head = record { ins = omega arith; p1 = small_p1 last; p2 = (let few = comes.few in omega (arith, few)) };
    bytes = IsBytes-take 239 rest comes.octets;
    few = omega (arith, length-take 239 rest);
  }

  abbrev admitted : Admitted
  admitted = taken state channel session comes.has command sendable

  abbrev load : LoadSession
  load = coming number file domain bytes announced so_far blocks

  on : IsLoadOn admitted load
  on = (comes.load, refl)

  acts : acting admitted ≡ domain
  acts = taken_selected state channel session comes.has command sendable ∙ comes.selected

  brings : Brings bytes announced (p1_for last == 0x80) so_far rest
  brings = brought bytes comes.may.some comes.may.most announced (p1_for last == 0x80) so_far rest comes.ahead

  one : (size : ℕ) (piece : List ℕ) → BringsBytes announced (block_of command) size piece → (size ≡ length bytes) × (piece ≡ brings.piece)
  one size piece other = one_brought announced (block_of command) size (length bytes) piece brings.piece other brings.brings

  within : length (so_far ++ brings.piece) ≤ length bytes
  within = omega (arith, ap length brings.joined, length-append (so_far ++ brings.piece) (drop 239 rest))

  all : last ≡ true → so_far ++ brings.piece ≡ bytes
  all is = all_come bytes (so_far ++ brings.piece) rest (whole is) brings.joined

  delegated : Holds admitted delegated_management → ⊥
  delegated holds = comes.into.alone (subst (HoldsPrivilege state.registry delegated_management) acts holds)

  passes : (rule : RuleLO) → LoadingFails admitted rule → ⊥
  passes LO1 (inl none) = none load on
  passes LO1 (inr past) = (let is = of_load admitted (λ l. l.blocks ≡ 256) load on past in let few = comes.few in omega (arith, is, few))
  passes LO2 fails = of_load admitted (λ l. admitted.command.p2 ≢ l.blocks) load on fails refl
  passes LO3 fails = of_load admitted (λ l. HasNoLength l (block_of command)) load on fails (length bytes) brings.piece brings.brings
  passes LO4 fails =
      (let no = of_load admitted (λ l. HasNoRoom state.registry l (block_of command)) load on fails in
      let size = (one no.0 no.1 no.2).0 in
      elim no.3 [
        | inl long ↦ (let most = comes.may.most in omega (arith, long, size, most))
        | inr many ↦ (let pages = subst (λ (n : ℕ). LOAD_PAGES < pages_used state.registry + pages_of n) size many in let room = comes.may.pages in omega (arith, pages, room))
      ])
  passes LO5 fails =
      (let no = of_load admitted (λ l. HasOtherCount l (block_of command)) load on fails in
      let same = one no.0 no.1 no.2 in
      let joined : so_far ++ no.1 ≡ so_far ++ brings.piece = ap (λ (p : List ℕ). so_far ++ p) same.1 in
      elim no.3 [
        | inl more ↦ (let size = same.0 in let as_long = ap length joined in omega (arith, more, size, as_long, within))
        | inr other ↦ other.1 (ap length joined ∙ ap length (all (p1_last last other.0)) ∙ sym same.0)
      ])
  passes LO6 fails =
      (let no = of_load admitted (λ l. HasOtherHash l (block_of command)) load on fails in
      let same = one no.0 no.1 no.2 in
      let come : so_far ++ no.1 ≡ bytes = ap (λ (p : List ℕ). so_far ++ p) same.1 ∙ all (p1_last last no.3) in
      no.4 (inr (inr (ap sha256 (sym come)))))
  passes LO7 fails = of_load admitted (λ l. IsAtOrAbove state.registry (acting admitted) l.domain → ⊥) load on fails.1 (inl (sym acts))
  passes LO8 fails = delegated fails.1

  first : IsFirst (LoadFails admitted) load_rules None
  first = inr (
    comes.into.card,
    inr (
      (λ locked. comes.into.unlocked (subst (λ (aid : List ℕ). MatchOption (entry_named state.registry aid) ⊥ (λ (e : Entry). e.life.locked ≡ true)) acts locked)),
      inr (passes LO1, inr (passes LO2, inr (passes LO3, inr (passes LO4, inr (passes LO5, inr (passes LO6, inr (passes LO7, inr (passes LO8, refl)))))))),
    ),
  )

  takes : TakesCommand load_form admitted.command
  takes = (refl, p1_taken last, some_taken rest comes.some)

  judges : Judges admitted None
  judges = judged load_form (λ P is. inl is) admitted takes refl None first

  has_effect : (done : Effect) → LoadEffect admitted done → HasEffect admitted done
  has_effect done does = does_so load_form (λ P is. inl is) admitted takes done does

  abbrev next : LoadSession
  next = with_block load (length bytes) brings.piece

  -- more blocks come
  abbrev going : Effect
  going = record { state = record { registry = state.registry; volatile = with_load admitted.at.volatile next }; body = 0x00 ∷ []; status = 0x9000 }

  goes_on : last ≡ false → HasEffect admitted going
  goes_on is = has_effect going (record {
    load = load;
    on = on;
    size = length bytes;
    bytes = brings.piece;
    brings = brings.brings;
    taken = inl (record { more = ap p1_for is; registry = refl; volatile = refl; body = refl });
    status = refl;
  })

  pub more_comes : last ≡ false → 239 < length rest → blocks + 1 ≤ 255 → GoesOnAs state channel session file domain bytes so_far rest blocks command
  more_comes is longer few = record {
    next = going.state;
    piece = brings.piece;
    comes = record {
      has = open_after state channel session comes.has command sendable going judges (goes_on is) (taken_session state channel session comes.has command sendable) refl;
      into = comes.into;
      may = comes.may;
      selected = acts;
      load = refl;
      ahead = (refl, brings.joined);
      few = few;
      some = omega (arith, longer, length-drop 239 rest);
      octets = following_bytes 239 rest comes.octets;
    };
    leads = λ others rest. leads_on state channel session comes.has command sendable going judges (goes_on is) (file_with file domain bytes) refl refl others refl rest;
  }

  -- it was the last one
  module _ (is : last ≡ true) where
    abbrev new : LoadFile
    new = file_with file domain bytes

    put : (changed : Registry) × IsFileAdded new state.registry changed
    put = file_put state.registry new comes.has.sound.ascending comes.may.free.no_file

    abbrev ending : Effect
    ending = record { state = record { registry = put.0; volatile = without_load admitted.at.volatile number }; body = 0x00 ∷ []; status = 0x9000 }

    ends : EndsLoad admitted next ending
    ends = record {
      last = ap p1_for is;
      changed = put.0;
      added = subst (λ (b : List ℕ). IsFileAdded (record { aid = file; domain = domain; bytes = b }) state.registry put.0) (sym (all is)) put.1;
      answered = inr ((λ holds. absurd (delegated holds)), record { registry = refl; body = refl });
      volatile = refl;
    }

    pub ends_there : Leads channel new state session (command ∷ [])
    ends_there =
        leads_there state channel session comes.has command sendable ending judges
        (has_effect ending (record { load = load; on = on; size = length bytes; bytes = brings.piece; brings = brings.brings; taken = inr ends; status = refl }))
        new refl refl put.1
