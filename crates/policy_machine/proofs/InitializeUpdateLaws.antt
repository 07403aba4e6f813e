-- The laws of INITIALIZE UPDATE.
use Rattle.std.proofs.Common.{◌≡◌, ◌≢◌, ℕ, List, [], ◌∷◌, false, None, refl, sym, ap, subst, ◌∙◌, arith, Option, inl}
use Rattle.std.specs.Prelude.{◌==◌, map}
use Rattle.policy_machine.specs.Prelude.{Admitted, AsksForSet, Counter, Effect, InitializeUpdateEffect, InitializeUpdateFails, IsFirst, IsOfferOf, IsSameButCounters, IsSound, Judges, JudgesAs, Offer, TakesCommand, UsesSet, acting, initialize_update, offer_body, offer_rules, raised_counter, set_counter, with_counter_raised, with_secure_channel, without_number}
use Rattle.card_types.specs.declared.limits.TheConstants.{COUNTER_LIMIT}
use Rattle.policy_machine.specs.State.{Offered}
use Rattle.policy_machine.specs.declared.initialize_update.RuleIU.TheVariants.{IU3}
use Rattle.policy_machine.specs.declared.instruction.TheConstants.{SELECT, MANAGE_CHANNEL, INITIALIZE_UPDATE, LOAD}
use Rattle.policy_machine.specs.declared.rule.Rule.TheVariants.{IU}
use Rattle.policy_machine.proofs.FirstUnique.{none_fails}
use Rattle.policy_machine.proofs.InitializeUpdateOffer.{raised_ascending, raised_fits, set_raised_well, well_offer}
use Rattle.policy_machine.proofs.SecureChannelSet.{unloaded_fits}
use Rattle.policy_machine.proofs.SameEffect.{effect_same, state_same}
use Rattle.scp03_card.specs.Offer.{new_offer}
use Rattle.policy_machine.proofs.Lawful.{IsLawful, IsReady, place_leaves_secure_channel, some_same}
use Rattle.policy_machine.proofs.OneSet.{owner_one}
use Rattle.card_types.specs.Registry as registry
use Rattle.policy_machine.proofs.Judging.{judged}
use Rattle.policy_machine.specs.declared.rule.Rule.{Rule}

counter_goes_on : (admitted : Admitted) → IsFirst (InitializeUpdateFails admitted) offer_rules None → (owner : List ℕ) (counter : Counter)
    → AsksForSet admitted owner counter → counter.number ≢ COUNTER_LIMIT
counter_goes_on admitted first owner counter asked last =
    none_fails (InitializeUpdateFails admitted) offer_rules (IU IU3) (3, omega arith, refl) first (owner, counter, asked, last)

-- INITIALIZE UPDATE is for a domain, and ends a load session
initialize_update_apart : (ins : ℕ) → ins ≡ INITIALIZE_UPDATE → (ins ≢ SELECT) × (ins ≢ MANAGE_CHANNEL) × ((ins == LOAD) ≡ false)
initialize_update_apart ins is = ((λ same. absurd (omega arith)), (λ same. absurd (omega arith)), ap (λ (n : ℕ). n == LOAD) is)

-- the channel has the offer then, and the counter is one higher
initialize_update_keeps : (admitted : Admitted) (done : Effect) → IsReady admitted → JudgesAs initialize_update admitted None
    → InitializeUpdateEffect admitted done → IsSound done.state
initialize_update_keeps admitted done ready (takes, first) does =
    let registry = admitted.at.registry in
    let after = with_secure_channel admitted.at.volatile admitted.channel (Offered does.offer) in
    let apart = initialize_update_apart admitted.command.ins takes.0 in
    let offered = well_offer admitted does.owner does.counter does.offer ready.sound.well takes.2 does.is_offer in
    let fits = unloaded_fits registry admitted.at.volatile admitted.channel ready.sound.fits ready.low (Offered does.offer) (ready.loads apart.2)
    (ready.domain apart.0 apart.1, offered) in
    let goes_on = counter_goes_on admitted first does.owner does.counter does.asked in
    let sound : IsSound (record { registry = with_counter_raised registry does.owner does.counter.version; volatile = after }) = record {
      well = set_raised_well registry does.owner admitted.command.p1 does.counter ready.sound.well ready.sound.ascending does.asked.1 goes_on;
      ascending = raised_ascending registry does.owner does.counter.version ready.sound.ascending;
      fits = raised_fits registry does.owner does.counter.version after fits;
    } in
    subst IsSound (λ i. record { registry = sym does.registry i; volatile = sym does.volatile i }) sound

-- a key set makes one offer
offer_one : (admitted : Admitted) (owner : List ℕ) (counter : registry.Counter) (a b : Offer)
    → IsOfferOf admitted owner counter a → IsOfferOf admitted owner counter b → a ≡ b
offer_one admitted owner counter a b one other =
    let enc = ap (λ (k : registry.Key). k.bytes) (some_same one.enc other.enc (sym one.key_enc ∙ other.key_enc)) in
    let mac = ap (λ (k : registry.Key). k.bytes) (some_same one.mac other.mac (sym one.key_mac ∙ other.key_mac)) in
    let dek = ap (λ (k : registry.Key). k.bytes) (some_same one.dek other.dek (sym one.key_dek ∙ other.key_dek)) in
    one.is ∙ (λ i. new_offer (enc i) (mac i) (dek i) counter.number (acting admitted) admitted.command.body) ∙ sym other.is

set_one : (said : registry.Registry) (domain : List ℕ) (version : ℕ) (o p : List ℕ) (a b : registry.Counter)
    → UsesSet said domain version o a → UsesSet said domain version p b → (o ≡ p) × (a ≡ b)
set_one said domain version o p a b one other =
    let owners = owner_one said domain o p one.0 other.0 in
    (owners, some_same a b (sym one.1 ∙ ap (λ (owner : List ℕ). set_counter said owner version) owners ∙ other.1))

initialize_update_one : (admitted : Admitted) (a b : Effect) → InitializeUpdateEffect admitted a → InitializeUpdateEffect admitted b → a ≡ b
initialize_update_one admitted a b one other =
    let said = admitted.at.registry in
    let sets = set_one said (acting admitted) admitted.command.p1 one.owner other.owner one.counter other.counter one.asked other.asked in
    let owners = sets.0 in
    let counters = sets.1 in
    let owned = subst (λ (o : List ℕ). IsOfferOf admitted o one.counter one.offer) owners one.is_offer in
    let offers = offer_one admitted other.owner other.counter one.offer other.offer
    (subst (λ (c : registry.Counter). IsOfferOf admitted other.owner c one.offer) counters owned) other.is_offer in
    let versions = ap (λ (c : registry.Counter). c.version) counters in
    effect_same a b
    (state_same a.state b.state
    (one.registry ∙ (λ i. with_counter_raised said (owners i) (versions i)) ∙ sym other.registry)
    (one.volatile ∙ ap (λ (o : Offer). with_secure_channel admitted.at.volatile admitted.channel (Offered o)) offers ∙ sym other.volatile))
    (one.body ∙ (λ i. offer_body said (owners i) (counters i) (offers i)) ∙ sym other.body)
    (one.status ∙ sym other.status)

begun_raised : (owner : List ℕ) (version : ℕ) (counters : List Counter) → map without_number (map (raised_counter owner version) counters) ≡ map without_number counters
begun_raised owner version [] = refl
begun_raised owner version (counter ∷ counters) = ap (λ (rest : List Counter). without_number counter ∷ rest) (begun_raised owner version counters)

counters_raised : (admitted : Admitted) (done : Effect) → InitializeUpdateEffect admitted done → IsSameButCounters admitted.at.registry done.state.registry
counters_raised admitted done does = subst (IsSameButCounters admitted.at.registry) (sym does.registry) (record {
  life = refl;
  entries = refl;
  files = refl;
  keys = refl;
  counters = begun_raised does.owner does.counter.version admitted.at.registry.counters;
  objects = refl;
})

pub initialize_update_lawful : IsLawful initialize_update
initialize_update_lawful = record {
  keeps = initialize_update_keeps;
  one = initialize_update_one;
  quiet = λ unmanaged. counters_raised;
  without_place = λ other admitted done none does. place_leaves_secure_channel admitted.at.volatile done.state.volatile admitted.channel _ does.volatile none;
}

pub offer_judged : (admitted : Admitted) (found : Option Rule) → TakesCommand initialize_update admitted.command → IsFirst (InitializeUpdateFails admitted) offer_rules found → Judges admitted found
offer_judged admitted found takes first = judged initialize_update (λ P is. inl is) admitted takes refl found first
