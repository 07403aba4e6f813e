-- A deed of a domain has one command.
use Rattle.std.proofs.Common.{◌≡◌, inl, inr, ℕ, ◌<◌, List, [], ◌∷◌, ◌++◌, Option, None, Some, refl, sym, ap, subst, ◌∙◌}
use Rattle.std.specs.Prelude.{◌↔◌, MatchOption, replicate}
use Rattle.std.specs.List.{flat_map}
use Rattle.std.proofs.lemmas.Bool.{cases_order}
use Rattle.apdu_core.specs.Apdu.{Apdu}
use Rattle.card_types.specs.LifeMark.{life_mark_code}
use Rattle.card_types.specs.Registry.{Entry, Key, Registry, entry_named}
use Rattle.policy_machine.proofs.Approved.{one_holder}
use Rattle.policy_machine.specs.CommandForm.{FailsFirst}
use Rattle.tokens_receipts.specs.Receipt.{with_length}
use Rattle.tokens_receipts.specs.Token.{token}
use Rattle.access_matrix.specs.Commands.{HasFront, HasP2, IsCommandOf, IsFirstFreeAid, IsTokenFor, end_of, form_of, judged_as, module_for, numbered_aid, p1_of, privileges_for, with_other_lock}
use Rattle.access_matrix.specs.Deeds.{IsThing}
use Rattle.access_matrix.specs.Passing.{IsDeedAccepted}
use Rattle.access_matrix.specs.There.{judged_there, plain}
use Rattle.access_matrix.specs.declared.deed.Deed.{Deed}
use Rattle.access_matrix.specs.declared.deed.Deed.TheVariants.{Delete, Lock, Install, Load}

-- no first free AID is below another
not_lower : {P : Type 0} (registry : Registry) (a b : List ℕ) → (one : IsFirstFreeAid registry a) (other : IsFirstFreeAid registry b) → one.number < other.number → P
not_lower registry a b one other lower = absurd (one.free (subst (IsThing registry) (sym one.is) (other.first one.number lower)))

one_free : (registry : Registry) (a b : List ℕ) → IsFirstFreeAid registry a → IsFirstFreeAid registry b → a ≡ b
one_free registry a b one other = elim (cases_order one.number other.number) [
  | inl same ↦ one.is ∙ ap numbered_aid same ∙ sym other.is
  | inr differs ↦ elim differs [
    | inl lower ↦ not_lower registry a b one other lower
    | inr higher ↦ not_lower registry b a other one higher
  ]
]

one_lock : (found : Option Entry) (p q : ℕ) → MatchOption found ⊥ (λ entry. p ≡ life_mark_code (with_other_lock entry.life))
    → MatchOption found ⊥ (λ entry. q ≡ life_mark_code (with_other_lock entry.life)) → p ≡ q
one_lock None p q one other = absurd one
one_lock (Some entry) p q one other = one ∙ sym other

module _ (registry : Registry) where
  one_p2 : (deed : Deed) (p q : ℕ) → HasP2 registry deed p → HasP2 registry deed q → p ≡ q
  one_p2 (Lock aid) p q one other = one_lock (entry_named registry aid) p q one other
  one_p2 _ p q one other = one ∙ sym other

  -- what stands before the token of an installation
  abbrev install_front : (file new : List ℕ) → List ℕ
  install_front file new = flat_map with_length (file ∷ module_for file new ∷ new ∷ privileges_for file ∷ (0xC9 ∷ 0x00 ∷ []) ∷ [])

  abbrev load_front : List ℕ → List ℕ
  load_front new = flat_map with_length (new ∷ [] ∷ replicate 32 0 ∷ [] ∷ [])

  one_front : (deed : Deed) (a b : List ℕ) → HasFront registry deed a → HasFront registry deed b → a ≡ b
  one_front (Install file) a b one other = one.2 ∙ ap (install_front file) (one_free registry one.0 other.0 one.1 other.1) ∙ sym other.2
  one_front Load a b one other = one.2 ∙ ap load_front (one_free registry one.0 other.0 one.1 other.1) ∙ sym other.2
  one_front _ a b one other = one ∙ sym other

  module _ (domain : List ℕ) where
    one_given : (D E : Type 0) → (D → E) → (E → D) → (p1 p q : ℕ) (front another : List ℕ) → p ≡ q → front ≡ another → (a b : Option (List ℕ))
        → IsTokenFor registry domain D p1 p front a → IsTokenFor registry domain E p1 q another b → a ≡ b
    one_given D E to from p1 p q front another ps fronts None None one other = refl
    one_given D E to from p1 p q front another ps fronts None (Some given) one other =
        absurd (one (from other.0) other.1.0 other.1.2.above.above other.1.2.above.fitting)
    one_given D E to from p1 p q front another ps fronts (Some given) None one other =
        absurd (other (to one.0) one.1.0 one.1.2.above.above one.1.2.above.fitting)
    one_given D E to from p1 p q front another ps fronts (Some given) (Some token_) one other =
        let keys = (one_holder registry _ _ domain one.1.0 other.1.0 one.1.1 other.1.1 one.1.2 other.1.2).1 in
        ap Some (one.1.3 ∙ (λ i. (let key : Key = keys i in token key.bytes p1 (ps i) (fronts i))) ∙ sym other.1.3)

    -- whether a command is delegated does not depend on it
    still_delegated : (deed : Deed) (a b : Apdu) → (judged_as deed).delegation.is_delegated (judged_there registry domain a)
        → (judged_as deed).delegation.is_delegated (judged_there registry domain b)
    still_delegated (Delete aid) a b is = is
    still_delegated _ a b is = is

    pub one_command : (deed : Deed) (a b : Apdu) → IsCommandOf registry domain deed a → IsCommandOf registry domain deed b → a ≡ b
    one_command deed a b one other =
        let ps = one_p2 deed one.p2 other.p2 one.has_p2 other.has_p2 in
        let fronts = one_front deed one.front other.front one.has_front other.has_front in
        let givens = one_given ((judged_as deed).delegation.is_delegated (judged_there registry domain a)) ((judged_as deed).delegation.is_delegated (judged_there registry domain b))
        (still_delegated deed a b) (still_delegated deed b a) (p1_of deed) one.p2 other.p2 one.front other.front ps fronts one.given other.given one.approved other.approved in
        one.is ∙ (λ i. plain (judged_as deed).instruction (p1_of deed) (ps i) (fronts i ++ end_of deed (givens i))) ∙ sym other.is

    -- whether its command passes tells whether the deed is accepted
    pub accepted_by : (deed : Deed) (command : Apdu) → IsCommandOf registry domain deed command → {told : Type 0}
        → told ↔ FailsFirst (form_of deed) (judged_there registry domain command) None → told ↔ IsDeedAccepted registry domain deed
    accepted_by deed command is tells = (
      λ so. (command, is, tells.0 so),
      λ accepted. tells.1
          (subst (λ (c : Apdu). FailsFirst (form_of deed) (judged_there registry domain c) None) (one_command deed accepted.0 command accepted.1 is) accepted.2),
    )
