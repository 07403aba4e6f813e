-- The receipts that a card makes fit.
use Rattle.std.proofs.Common.{◌≡◌, inl, inr, ℕ, ◌+◌, ◌≤◌, List, [], ◌∷◌, length, length-append, Option, None, Some, refl, ap, sym, subst, ◌∙◌, arith}
use Rattle.std.specs.Prelude.{◌⊎◌, ◌&&◌, ◌==◌, IsSome}
use Rattle.std.specs.Option.{option_map}
use Rattle.std.proofs.lemmas.Bool.{and_parts, eqb-true}
use Rattle.std.proofs.lemmas.List.Elements.{All-contains}
use Rattle.card_types.proofs.LeastOfList.{found_fits}
use Rattle.card_types.specs.Aid.{same_aid}
use Rattle.card_types.specs.Registry.{Entry, Key, Object, Registry, entry_named, object_named}
use Rattle.card_types.specs.Well.{IsWellEntry, IsWellKey, IsWellObject, Well}
use Rattle.card_types.specs.declared.factory.TheConstants.{ISSUER}
use Rattle.card_types.specs.declared.limits.TheConstants.{RECEIPT_LIMIT}
use Rattle.tokens_receipts.specs.Receipt.{receipt}
use Rattle.policy_machine.specs.Admission.{Admitted}
use Rattle.policy_machine.specs.Delegation.{IsReceipter, unique_data, value_of}
use Rattle.policy_machine.specs.Management.{acting}
use Rattle.policy_machine.specs.Receipts.{IsReceiptedBy, ReceiptNames, last_receipt}
use Rattle.policy_machine.specs.Run.{Command, Input, Reset, Run}
use Rattle.policy_machine.specs.Sound.{IsSound}
use Rattle.policy_machine.specs.State.{State, powered_on}
use Rattle.policy_machine.specs.Step.{Outcome}
use Rattle.policy_machine.proofs.KeepsSound.{starts_sound, steps_keep_sound}
use Rattle.policy_machine.proofs.Lawful.{some_same}
use Rattle.policy_machine.proofs.NumbersRisen.{confirmed_so, numbers_rise}
use Rattle.policy_machine.proofs.OneOutcome.{admits_one}
use Rattle.receipt_desk.specs.InTurn.{JudgedInTurn, Slip, fits_from}
use Rattle.receipt_desk.specs.Judgement.{Judged}
use Rattle.receipt_desk.specs.OfCards.{AreSlips, DesksTakeThese, IsSlip, KeepsReceiptKey, ReceiptsFit, ReceiptsOfRunsFit}
use Rattle.receipt_desk.specs.declared.verdict.Verdict.TheVariants.{Fits}
use Rattle.receipt_desk.proofs.InTurn.{first_fits}
use Rattle.receipt_desk.proofs.Verdicts.{next_of}

-- a card's numbers are of two bytes
number_short : (registry : Registry) (domain : List ℕ) (number : ℕ) → Well registry → last_receipt registry domain ≡ Some number → number ≤ RECEIPT_LIMIT
number_short registry domain number well = by (entry_named registry domain) refl
  where
    by : (o : Option Entry) → entry_named registry domain ≡ o → option_map (λ (entry : Entry). entry.receipts) o ≡ Some number → number ≤ RECEIPT_LIMIT
    by None named is = (let clash : ⊥ = cc in absurd clash)
    by (Some entry) named is =
        (let found = found_fits (λ (e : Entry). same_aid e.aid domain) registry.entries entry named in
        let most = (All-contains (IsWellEntry registry) registry.entries entry well.entries found.0).proper.receipts in
        let same = some_same entry.receipts number is in
        subst (λ (n : ℕ). n ≤ RECEIPT_LIMIT) same most)

pub receipts_fit : ReceiptsFit
receipts_fit state bytes outcome domain before after sound accepts is was now =
    let same = admits_one state bytes is.admitted accepts.admitted is.admits accepts.admits in
    let at : accepts.admitted.at.registry ≡ state.registry = ap (λ (a : Admitted). a.at.registry) accepts.admits.1.2.3 in
    let so = confirmed_so state bytes outcome domain before after sound accepts was now is.aids (subst (λ (a : Admitted). ReceiptNames a is.aids) same is.confirms) is.key
    (subst (λ (r : Registry). IsReceipter r (acting accepts.admitted) domain is.key) (sym at)
    (subst (λ (a : Admitted). IsReceipter state.registry (acting a) domain is.key) same is.receipter)) in
    let kept = steps_keep_sound state bytes outcome sound (inr (inr accepts)) in
    let short = number_short outcome.state.registry domain after kept.well now in
    let rises = so.rises in (
      next_of before (omega (arith, rises, short)) ∙ ap Some (sym rises),
      so.body ∙ ap (λ (r : Registry). receipt is.key.bytes after (unique_data r) is.aids) at,
    )

there : {A : Type 0} (o : Option A) → IsSome o → (a : A) × (o ≡ Some a)
there None some = (let clash : ⊥ = cc in absurd clash)
there (Some a) some = (a, refl)

module _ (domain key unique : List ℕ) where
  abbrev Comes : State → List Slip → ℕ → ℕ → Type 0
  Comes state slips before after = JudgedInTurn key unique before slips (fits_from before slips) after × (after ≡ before + length slips)

  -- a slip that is handed in is judged with the key and the unique data
  slip_fits : (state : State) (bytes : List ℕ) (outcome : Outcome) (before next : ℕ) (slip : Slip) → IsSound state → IsSlip state bytes outcome domain slip
      → ((is : IsReceiptedBy state bytes outcome domain) → (is.key.bytes ≡ key) × (unique_data state.registry ≡ unique))
      → last_receipt state.registry domain ≡ Some before → last_receipt outcome.state.registry domain ≡ Some next
      → Judged key unique before slip.reply slip.aids (Fits next)
  slip_fits state bytes outcome before next slip sound slips own was now =
      let accepts = slips.0 in
      let is = slips.1 in
      let fits = receipts_fit state bytes outcome domain before next sound accepts is was now in
      let named = subst (λ (k : List ℕ). Judged k (unique_data state.registry) before accepts.done.body is.aids (Fits next)) (own is).0 fits in
      let of = subst (λ (u : List ℕ). Judged key u before accepts.done.body is.aids (Fits next)) (own is).1 named in
      subst (λ (s : Slip). Judged key unique before s.reply s.aids (Fits next)) (sym slips.2) of

  run_fits : (state last : State) (inputs : List Input) (outcomes : List Outcome) (slips : List Slip) (before after : ℕ)
      → IsSound state → Run state inputs outcomes last → KeepsReceiptKey domain key unique state inputs outcomes → AreSlips domain state inputs outcomes slips
      → last_receipt state.registry domain ≡ Some before → last_receipt last.registry domain ≡ Some after → Comes state slips before after
  run_fits state last [] outcomes slips before after sound run keeps are was now =
      let same : after ≡ before = some_same after before (sym now ∙ ap (λ (s : State). last_receipt s.registry domain) run.1 ∙ was) in
      subst (λ (s : List Slip). Comes state s before after) (sym are) ((refl, same), omega (arith, same))
  run_fits state last (Reset ∷ inputs) outcomes slips before after sound run keeps are was now =
      run_fits (powered_on state.registry) last inputs outcomes slips before after (starts_sound state.registry sound.well sound.ascending) run keeps are was now
  run_fits state last (Command bytes ∷ inputs) [] slips before after sound run keeps are was now = absurd run
  run_fits state last (Command bytes ∷ inputs) (outcome ∷ outcomes) [] before after sound run keeps are was now =
      let next = there (last_receipt outcome.state.registry domain) keeps.0 in
      let stays = (numbers_rise state bytes outcome sound run.0 domain before next.0 was next.1).1 are.0 in
      let kept = steps_keep_sound state bytes outcome sound run.0 in
      run_fits outcome.state last inputs outcomes [] before after kept run.1 keeps.2 are.1 (next.1 ∙ ap Some stays) now
  run_fits state last (Command bytes ∷ inputs) (outcome ∷ outcomes) (slip ∷ slips) before after sound run keeps (inl are) was now =
      let next = there (last_receipt outcome.state.registry domain) keeps.0 in
      let rises = ((numbers_rise state bytes outcome sound run.0 domain before next.0 was next.1).0 are.0.1).0 in
      let kept = steps_keep_sound state bytes outcome sound run.0 in
      let here = slip_fits state bytes outcome before next.0 slip sound are.0 keeps.1 was next.1 in
      let later = run_fits outcome.state last inputs outcomes slips next.0 after kept run.1 keeps.2 are.1 next.1 now in
      let many = later.1 in
      (first_fits key unique before next.0 after slip slips rises here later.0, omega (arith, rises, many))
  run_fits state last (Command bytes ∷ inputs) (outcome ∷ outcomes) (slip ∷ slips) before after sound run keeps (inr are) was now =
      let next = there (last_receipt outcome.state.registry domain) keeps.0 in
      let stays = (numbers_rise state bytes outcome sound run.0 domain before next.0 was next.1).1 are.0 in
      let kept = steps_keep_sound state bytes outcome sound run.0 in
      run_fits outcome.state last inputs outcomes (slip ∷ slips) before after kept run.1 keeps.2 are.1 (next.1 ∙ ap Some stays) now

pub receipts_of_runs_fit : ReceiptsOfRunsFit
receipts_of_runs_fit state last inputs outcomes domain key unique slips before after sound run keeps are was now =
    run_fits domain key unique state last inputs outcomes slips before after sound run keeps are was now

-- the value of a data object of the Issuer Security Domain with one of the tags of the unique data
short_value : (registry : Registry) (tag : ℕ) → Well registry → (tag ≡ 0x42) ⊎ (tag ≡ 0x45) → length (value_of (object_named registry ISSUER tag)) ≤ 10
short_value registry tag well which = by (object_named registry ISSUER tag) refl
  where
    by : (o : Option Object) → object_named registry ISSUER tag ≡ o → length (value_of o) ≤ 10
    by None named = omega arith
    by (Some object) named =
        (let found = found_fits (λ (o : Object). same_aid o.owner ISSUER && o.tag == tag) registry.objects object named in
        let same = eqb-true object.tag tag (and_parts (same_aid object.owner ISSUER) (object.tag == tag) found.1).1 in
        let form = (All-contains (IsWellObject registry) registry.objects object well.objects found.0).form in
        grind (arith, same, which, form))

pub desks_take_these : DesksTakeThese
desks_take_these registry well = (
  λ owner version identifier key named.
      (let found = found_fits (λ (k : Key). same_aid k.owner owner && k.version == version && k.identifier == identifier) registry.keys key named in
      (All-contains (IsWellKey registry) registry.keys key well.keys found.0).size),
  (let number = short_value registry 0x42 well (inl refl) in
      let image = short_value registry 0x45 well (inr refl) in
      let both = length-append (value_of (object_named registry ISSUER 0x42)) (value_of (object_named registry ISSUER 0x45)) in
      omega (arith, number, image, both)),
)
