-- INSTALL [for load] begins the load.
use Rattle.std.proofs.Common.{◌≡◌, ℕ, ◌<◌, ◌≤◌, List, [], ◌∷◌, length, true, Option, None, Some, refl, sym, ap, subst, ◌∙◌, inl, inr, arith, length-append}
use Rattle.std.specs.Prelude.{IsSome, MatchOption}
use Rattle.std.specs.List.{flat_map}
use Rattle.std.proofs.lemmas.List.{flat_map_more}
use Rattle.std.proofs.lemmas.List.Elements.{All-cons, All-nil}
use Rattle.apdu_core.specs.Apdu.{Apdu}
use Rattle.apdu_core.specs.ClassBytes.{channel_of, on_channel}
use Rattle.card_types.specs.Aid.{IsAid}
use Rattle.card_types.specs.Privileges.{authorized_management, delegated_management}
use Rattle.card_types.specs.Registry.{Entry, entry_named}
use Rattle.card_types.specs.declared.limits.TheConstants.{FILES}
use Rattle.cmac_kdf.specs.Blocks.{IsBytes}
use Rattle.policy_machine.specs.Admission.{Admitted}
use Rattle.policy_machine.specs.Charge.{HoldsPrivilege}
use Rattle.policy_machine.specs.Commands.{HasEffect, Judges, TakesCommand}
use Rattle.policy_machine.specs.Delegation.{Holds}
use Rattle.policy_machine.specs.Refusal.{IsFirst}
use Rattle.policy_machine.specs.InstallLoad.{AsksToLoad, InstallingLoadFails, LoadData, install_load, judged_install_load, load_begun}
use Rattle.policy_machine.specs.Management.{acting}
use Rattle.policy_machine.specs.State.{Effect, State, load_without_channel, selected_on, with_load}
use Rattle.policy_machine.specs.declared.install_load.RuleIL.{RuleIL}
use Rattle.policy_machine.specs.declared.install_load.RuleIL.TheVariants.{IL1, IL2, IL3, IL4, IL5, IL6, IL7}
use Rattle.policy_machine.proofs.FirstLike.{none_first}
use Rattle.policy_machine.proofs.InstallLoadLaws.{load_install_judgeable, load_install_judged}
use Rattle.policy_machine.proofs.Judging.{does_so}
use Rattle.policy_machine.proofs.ManagedJudging.{approval_decides}
use Rattle.scp03_card.specs.Session.{Session}
use Rattle.scp03_host.specs.Wrapped.{having_sent}
use Rattle.script_tool.specs.Load.{block_element}
use Rattle.script_tool.specs.Tokens.{install_command}
use Rattle.script_lines.specs.declared.tokens.Tokens.TheVariants.{Absent}
use Rattle.sha2.specs.Sha256.{sha256}
use Rattle.sha2.proofs.Facts256.{length-sha256}
use Rattle.tokens_receipts.specs.Receipt.{with_length}
use Rattle.cap_pack.proofs.Admitting.{HasOpen, IsSendable, taken, taken_selected, taken_session}
use Rattle.cap_pack.proofs.BlocksBrought.{element_octets}
use Rattle.cap_pack.proofs.Coming.{Comes, MayCome, coming, file_with}
use Rattle.cap_pack.proofs.FieldOctets.{fields_octets, one_longer}
use Rattle.cap_pack.proofs.Octets.{bytes_joined, bytes_more, no_bytes, sha256_octets}
use Rattle.cap_pack.proofs.Reaching.{Leads, MayLoadInto, leads_on, open_after}

-- a load may begin on the channel
pub record MayBegin (state : State) (channel : ℕ) (session : Session) (file domain bytes : List ℕ) : Type 0 where
  pub has : HasOpen state channel session
  pub into : MayLoadInto state.registry domain
  pub may : MayCome state.registry file bytes
  pub selected : selected_on state.volatile (channel_of (on_channel 0x84 channel)) ≡ domain
  pub idle : load_without_channel (channel_of (on_channel 0x84 channel)) state.volatile.load ≡ None
  pub aid : IsAid file
  pub named : IsBytes file
  pub octets : IsBytes bytes
  pub few : length state.registry.files < FILES

module _ (state : State) (channel : ℕ) (session : Session) (file domain bytes : List ℕ) (may : MayBegin state channel session file domain bytes) where
  abbrev number : ℕ
  number = channel_of (on_channel 0x84 channel)

  abbrev fields : List (List ℕ)
  fields = file ∷ [] ∷ sha256 bytes ∷ [] ∷ []

  abbrev command : Apdu
  command = install_command Absent 0x02 fields

  short_file : length file ≤ 0x7F
  short_file = (let aid = may.aid.1 in omega (arith, aid))

  short_hash : length (sha256 bytes) ≤ 0x7F
  short_hash = (let hash = length-sha256 bytes in omega (arith, hash))

  body_few : length command.body ≤ 239
  body_few =
      let aid = may.aid.1 in
      omega (
        arith,
        aid,
        length-sha256 bytes,
        length-append (flat_map with_length fields) (with_length []),
        one_longer file ([] ∷ sha256 bytes ∷ [] ∷ []),
        one_longer [] (sha256 bytes ∷ [] ∷ []),
        one_longer (sha256 bytes) ([] ∷ []),
        one_longer [] [],
      )

  sendable : IsSendable command
  sendable = record {
    known = (5, omega arith, refl);
    other = refl;
    head = record { ins = omega arith; p1 = omega arith; p2 = omega arith };
    bytes = bytes_joined (flat_map with_length fields) (with_length [])
        (fields_octets fields (may.named, short_file, (no_bytes, omega arith, (sha256_octets bytes, short_hash, (no_bytes, omega arith, tt)))))
        (bytes_more 0 [] (omega arith) no_bytes);
    few = body_few;
  }

  abbrev admitted : Admitted
  admitted = taken state channel session may.has command sendable

  acts : acting admitted ≡ domain
  acts = taken_selected state channel session may.has command sendable ∙ may.selected

  delegated : Holds admitted delegated_management → ⊥
  delegated holds = may.into.alone (subst (HoldsPrivilege state.registry delegated_management) acts holds)

  abbrev given : LoadData
  given = record { file = file; domain = []; hash = sha256 bytes; parameters = []; token = [] }

  abbrev Short : List ℕ → Type 0
  Short field = length field ≤ 0x7F

  asks : AsksToLoad admitted.command.body given
  asks = record {
    fields = record {
      short = All-cons Short file ([] ∷ sha256 bytes ∷ [] ∷ [] ∷ []) short_file
          (All-cons Short [] (sha256 bytes ∷ [] ∷ [] ∷ []) (omega arith)
          (All-cons Short (sha256 bytes) ([] ∷ [] ∷ []) short_hash
          (All-cons Short [] ([] ∷ []) (omega arith) (All-cons Short [] [] (omega arith) (All-nil Short)))));
      spelled = flat_map_more with_length [] fields [];
    };
    file = may.aid;
    domain = inl refl;
  }

  gone : {A : Type 0} (o : Option A) → o ≡ None → IsSome o → ⊥
  gone None none some = cc
  gone (Some x) none some = cc

  passes : (rule : RuleIL) → InstallingLoadFails admitted given rule → ⊥
  passes IL1 fails = fails (inl (subst (HoldsPrivilege state.registry authorized_management) (sym acts) may.into.manages))
  passes IL2 fails = gone admitted.at.volatile.load may.idle fails
  passes IL3 (inl entry) = gone (entry_named state.registry file) may.may.free.no_entry entry
  passes IL3 (inr other) = gone _ may.may.free.no_file other
  passes IL4 fails = fails.0 refl
  passes IL5 fails = fails (inl refl)
  passes IL6 (inl none) = none (inr (inr (length-sha256 bytes)))
  passes IL6 (inr holds) = delegated holds.1
  passes IL7 fails = (let few = may.few in omega (arith, few, fails))

  unlocked : MatchOption (entry_named state.registry (acting admitted)) ⊥ (λ (e : Entry). e.life.locked ≡ true) → ⊥
  unlocked locked = may.into.unlocked (subst (λ (aid : List ℕ). MatchOption (entry_named state.registry aid) ⊥ (λ (e : Entry). e.life.locked ≡ true)) acts locked)

  first : IsFirst (install_load.fails admitted) install_load.rules None
  first =
      approval_decides judged_install_load load_install_judgeable admitted given asks (may.into.card, (unlocked, tt)) None
      (none_first (InstallingLoadFails admitted given) passes judged_install_load.own.order)
      (inr ((λ fails. delegated fails.0), inr ((λ fails. delegated fails.0), inr ((λ fails. delegated fails.0), refl))))

  takes : TakesCommand install_load admitted.command
  takes = (refl, (refl, refl), (given, asks))

  judges : Judges admitted None
  judges = load_install_judged admitted None takes first

  abbrev begun : Effect
  begun = record { state = record { registry = state.registry; volatile = with_load admitted.at.volatile (load_begun admitted given) }; body = 0x00 ∷ []; status = 0x9000 }

  begins : HasEffect admitted begun
  begins = does_so install_load (λ P is. inr (inr (inr (inl is)))) admitted takes begun (record { given = given; asks = asks; registry = refl; volatile = refl; body = refl; status = refl })

  comes : Comes begun.state channel (having_sent session command) file domain bytes None [] (block_element bytes) 0
  comes = record {
    has = open_after state channel session may.has command sendable begun judges begins (taken_session state channel session may.has command sendable) refl;
    into = may.into;
    may = may.may;
    selected = acts;
    load = ap (λ (aid : List ℕ). Some (coming number file aid bytes None [] 0)) acts;
    ahead = (refl, refl);
    few = omega arith;
    some = omega arith;
    octets = element_octets bytes may.may.most may.octets;
  }

  -- what follows leads from there
  pub begun_leads : (others : List Apdu)
      → ((begun : State) (after : Session) → Comes begun channel after file domain bytes None [] (block_element bytes) 0 → Leads channel (file_with file domain bytes) begun after others)
      → Leads channel (file_with file domain bytes) state session (command ∷ others)
  begun_leads others so =
      leads_on state channel session may.has command sendable begun judges begins (file_with file domain bytes) refl refl others refl (so begun.state (having_sent session command) comes)
