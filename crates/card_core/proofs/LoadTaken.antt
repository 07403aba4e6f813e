-- A block that is taken: what LOAD does then, and what a card keeps.
use Rattle.std.proofs.Common.{◌≡◌, ◌⊎◌, ℕ, List, [], ◌∷◌, Bool, false, true, Option, None, Some, Result, refl, sym, ap, subst, ◌∙◌, inl, inr}
use Rattle.std.specs.Prelude.{All, drop, if◌then◌else◌}
use Rattle.std.specs.Result.{IsErrAnd}
use Rattle.std.proofs.lemmas.Bool.{eq-eqb}
use Rattle.apdu_core.specs.declared.reply.Status.{Status}
use Rattle.card_core.specs.Prelude.{ActsIn, AddsLoaded, Admitted, AnswersFor, Block, BringsBytes, Effect, EndsLoad, FindsConfirmer, HasEffect, Holds, IsAnswered, IsAnsweredBy, IsBlockTaken, IsFileAdded, IsFirst, IsForBlock, IsFree, IsLoadNamed, IsLoaded, KeepsAids, LoadFails, LoadGoesOn, LoadSession, LoadsAs, Represents, RepresentsLoad, RepresentsLoading, RepresentsState, State, TakesCommand, Volatile, block_in, block_of, delegated_management, domain_aid, file_of, file_of_load, leaves, live_with_block, live_without_load, load_rules, load_without_channel, loading, no_confirmation, numbers, pages_after, with_block, without_load}
use Rattle.card_types.specs.Registry.{LoadFile as File, Registry}
use Rattle.card_types.specs.declared.tables.LoadFile.{LoadFile}
use Rattle.card_types.specs.declared.tables.Tables.{Tables}
use Rattle.load_session.proofs.Loading.{tables_say_the_same}
use Rattle.load_session.specs.declared.block.Taken.{Taken}
use Rattle.load_session.specs.declared.load_write.LoadWrite.{LoadWrite}
use Rattle.load_session.specs.declared.session.LoadSession.{LoadSession as Kept}
use Rattle.policy_machine.proofs.Judging.{IsListed, does_so, judged}
use Rattle.policy_machine.specs.declared.rule.Rule.{Rule}
use Rattle.content_rules.proofs.LoadNamed.{counted_named}
use Rattle.content_rules.specs.declared.load.LoadRequest.{LoadRequest}
use Rattle.policy_slots.specs.declared.live.Live.{Live}
use Rattle.policy_slots.specs.declared.live.LoadName.{LoadName}
use Rattle.card_core.proofs.Answered.{aids_selected}
use Rattle.card_core.proofs.ChannelChanges.{load_left, says_kept}
use Rattle.card_core.proofs.Confirming.{answered_so, finds_receipter}
use Rattle.card_core.proofs.LoadsKept.{refusal_loaded}
use Rattle.card_core.proofs.LoadJudged.{is_last, is_more, load_on, load_stands, same_block}

listed : IsListed loading
listed holds here = inl here

-- how a command is answered is told by the registry that it leaves and its reply, whatever else it does
answered_with : (receipter : Option ℕ) (admitted : Admitted) (aids : List (List ℕ)) (changed left : Registry) (body : List ℕ) (volatile : Volatile)
    → IsAnsweredBy receipter admitted aids changed (leaves admitted left body)
    → IsAnsweredBy receipter admitted aids changed (record { state = record { registry = left; volatile = volatile }; body = body; status = 0x9000 })
answered_with None admitted aids changed left body volatile is = record { registry = is.registry; body = is.body }
answered_with (Some slot) admitted aids changed left body volatile is = record {
  receipter = is.receipter;
  entry = is.entry;
  key = is.key;
  is_receipter = is.is_receipter;
  named = is.named;
  registry = is.registry;
  body = is.body;
}

-- the load session of the channel has ended
ended : (number : ℕ) (load : LoadSession) → load.channel ≡ number → load_without_channel number (Some load) ≡ None
ended number load on = ap (λ (ends : Bool). if ends then None else Some load) (eq-eqb load.channel number on)

module _ (page : ℕ → List ℕ) (tables : Tables) (live : Live) (kept : Kept) (name : LoadName) (domain : ℕ) (request : LoadRequest) (admitted : Admitted)
    (is_for : IsForBlock page tables kept name domain request admitted) (takes : TakesCommand loading admitted.command)
    (says : RepresentsState page tables live admitted.at) (passes : IsFirst (LoadFails admitted) load_rules None)
    (taken : Taken) (brought : IsBlockTaken tables kept (block_in request) taken)
    (writes : List LoadWrite) (free : All (IsFree tables) (numbers writes)) where
  abbrev load : LoadSession
  load = (load_on page tables kept name domain request admitted is_for).load

  -- with the bytes that the block brings
  abbrev pub next : LoadSession
  next = with_block load taken.size (drop taken.start request.block.now)

  abbrev page_then : ℕ → List ℕ
  page_then = pages_after page writes

  brings : BringsBytes load.announced (block_of admitted.command) taken.size (drop taken.start request.block.now)
  brings =
      subst (λ (b : Block). BringsBytes load.announced b taken.size (drop taken.start request.block.now)) (same_block page tables kept name domain request admitted is_for)
      (subst (λ (announced : Option ℕ). BringsBytes announced (block_in request) taken.size (drop taken.start request.block.now))
      (load_stands page tables kept name domain request admitted is_for).of.announced brought.brings)

  said_then : Represents page_then tables admitted.at.registry
  said_then = tables_say_the_same page tables writes admitted.at.registry free says.registry

  says_then : RepresentsState page_then tables live admitted.at
  says_then = record { registry = said_then; selected = says.selected; places = says.places; load = says.load }

  -- the block is counted, and its bytes go behind those that came
  counts : (done : Effect) → LoadGoesOn admitted next done ⊎ EndsLoad admitted next done → done.status ≡ 0x9000 → HasEffect admitted done
  counts done ends word = does_so loading listed admitted takes done (record {
    load = load;
    on = (load_on page tables kept name domain request admitted is_for).on;
    size = taken.size;
    bytes = drop taken.start request.block.now;
    brings = brings;
    taken = ends;
    status = word;
  })

  -- more blocks come
  pub more_loaded : request.last ≡ false → (after : Kept) → RepresentsLoad page_then tables after next → IsLoaded admitted page_then tables (live_with_block live) (Some after) (0x00 ∷ []) (record { 0 = 0x9000 })
  more_loaded more after stands =
      let on = load_on page tables kept name domain request admitted is_for in
      let state : State = record { registry = admitted.at.registry; volatile = record admitted.at.volatile { load = Some next } } in
      let done : Effect = record { state = state; body = 0x00 ∷ []; status = 0x9000 } in
      let named : IsLoadNamed tables.entries.items live.load (Some load) = subst (IsLoadNamed tables.entries.items live.load) on.on.0 says.load in
      record {
        judges = judged loading listed admitted takes refl None passes;
        done = done;
        does = counts done (inl (record { more = is_more page tables kept name domain request admitted is_for more; registry = refl; volatile = refl; body = refl })) refl;
        channels = refl;
        says = record {
          registry = said_then;
          selected = says.selected;
          places = says.places;
          load = counted_named tables.entries.items live.load load taken.size (drop taken.start request.block.now) named;
        };
        kept = stands;
        body_is = refl;
        status_is = refl;
      }

  -- it was the last one
  module _ (last : request.last ≡ true) (file : LoadFile) (is : file_of page_then tables.entries.items file ≡ file_of_load next)
      (receipter : Option ℕ) (finds : FindsConfirmer (Holds admitted delegated_management) tables admitted receipter) (tables' : Tables)
      (aids : KeepsAids tables.entries.items tables'.entries.items) (body : List ℕ) (adds : AddsLoaded tables tables' file receipter body) where
    abbrev things : List (List ℕ)
    things = load.aid ∷ load.domain ∷ []

    acts_then : ActsIn page_then tables domain admitted
    acts_then = record { says = said_then; well = is_for.acts.well; entry = is_for.acts.entry; at = is_for.acts.at; on = is_for.acts.on }

    added : (changed : Registry) × IsFileAdded (file_of_load next) admitted.at.registry changed × AnswersFor page_then tables' receipter admitted things changed body
    added =
        let one = adds page_then admitted domain acts_then (finds_receipter (Holds admitted delegated_management) tables admitted receipter finds) in
        let aid : file.aid ≡ load.aid = ap (λ (f : File). f.aid) is in
        let owner : domain_aid tables.entries.items file.domain ≡ load.domain = ap (λ (f : File). f.domain) is in (
          one.0,
          subst (λ (f : File). IsFileAdded f admitted.at.registry one.0) is one.1,
          subst (λ (a : List ℕ). AnswersFor page_then tables' receipter admitted (a ∷ load.domain ∷ []) one.0 body) aid
              (subst (λ (d : List ℕ). AnswersFor page_then tables' receipter admitted (file.aid ∷ d ∷ []) one.0 body) owner one.2),
        )

    pub last_loaded : IsLoaded admitted page_then tables' (live_without_load live admitted.channel) None body (record { 0 = 0x9000 })
    last_loaded =
        let on = load_on page tables kept name domain request admitted is_for in
        let left = added.2.0 in
        let volatile = without_load admitted.at.volatile admitted.channel in
        let state : State = record { registry = left; volatile = volatile } in
        let done : Effect = record { state = state; body = body; status = 0x9000 } in
        let delegated = Holds admitted delegated_management in
        let answered : IsAnswered delegated admitted things added.0 no_confirmation done =
        answered_so delegated tables admitted receipter finds things added.0 done (answered_with receipter admitted things added.0 left body volatile added.2.2) in
        let still = says_kept page_then tables tables' live admitted.at (aids_selected live tables.entries.items tables'.entries.items aids) left admitted.at.volatile is_for.sound
        added.2.1 refl says_then in
        let none : load_without_channel admitted.channel admitted.at.volatile.load ≡ None =
        ap (load_without_channel admitted.channel) on.on.0 ∙ ended admitted.channel load on.on.1 in
        record {
          judges = judged loading listed admitted takes refl None passes;
          done = done;
          does = counts done (inr (record {
            last = is_last page tables kept name domain request admitted is_for last;
            changed = added.0;
            added = added.1;
            answered = answered;
            volatile = refl;
          })) refl;
          channels = refl;
          says = record {
            registry = added.2.1;
            selected = still.selected;
            places = still.places;
            load = load_left tables'.entries.items admitted.channel live.load admitted.at.volatile.load still.load;
          };
          kept = subst (RepresentsLoading page_then tables' None) (sym none) tt;
          body_is = refl;
          status_is = refl;
        }

-- a rule of its own refused it
pub load_refused : (admitted : Admitted) → TakesCommand loading admitted.command → (page : ℕ → List ℕ) (tables : Tables) (live : Live) (session : Option Kept) (body : List ℕ)
    (result : Result Status Rule) (found : Rule) → IsErrAnd result (λ rule. rule ≡ found) → IsFirst (LoadFails admitted) load_rules (Some found) → body ≡ []
    → LoadsAs admitted page tables live session body result
load_refused admitted takes page tables live session body result found given first empty =
    refusal_loaded admitted page tables live session body result found given (judged loading listed admitted takes refl (Some found) first) empty
