-- INSTALL [for extradition] spares the trees in which the acting domain is not, or entrusts the thing to the domain.
use Rattle.std.proofs.Common.{◌≡◌, ◌≢◌, inl, inr, ℕ, true, List, Option, None, Some, refl, sym, subst, ◌∙◌, arith}
use Rattle.std.specs.Prelude.{is_some}
use Rattle.std.proofs.lemmas.Bool.{and_parts, cases_Bool}
use Rattle.card_types.proofs.NamedThings.{aid_cases}
use Rattle.policy_machine.specs.Prelude.{Admitted, Holds, InstallData, IsAboveIn, IsAtOrAbove, IsEntrusted, IsVerifier, JudgesAs, Key, Member, MovesWith, Registry, acting, approval_in, command_form, delegated_management, entry_named, has_with_key, is_privileged, key_named, managed_extradition, token, token_verification}
use Rattle.domain_tree.proofs.Compared.{above_compared, above_decided}
use Rattle.domain_tree.proofs.FirstFound.{first_above_decided}
use Rattle.policy_machine.specs.declared.delegation.RuleTK.TheVariants.{TK3}
use Rattle.policy_machine.specs.declared.extradition.RuleEX.TheVariants.{EX1, EX2, EX3, EX4, EX6, EX7}
use Rattle.policy_machine.specs.declared.rule.Rule.TheVariants.{TK}
use Rattle.policy_machine.proofs.ExtraditionLaws.{extradition_judgeable, may_move}
use Rattle.policy_machine.proofs.ManagedJudging.{approval_passes}
use Rattle.policy_machine.proofs.ManagedLawful.{IsPassedFor}
use Rattle.policy_machine.proofs.SparingForms.{IsManagedSparing}
use Rattle.policy_machine.proofs.Strangers.{above_out}
use Rattle.policy_machine.proofs.TreeKept.{AreApart, SparesTree, out_of_reach}
use Rattle.policy_machine.proofs.TreesMoved.{moved_spared}

-- The thing comes into the tree of a domain that the acting one has no power over.
module _ (admitted : Admitted) (given : InstallData) (passed : IsPassedFor managed_extradition.judged admitted given)
    (judges : JudgesAs (command_form managed_extradition) admitted None) (domain : List ℕ) (apart : AreApart admitted domain)
    (into : IsAtOrAbove admitted.at.registry domain given.first) (other : given.first ≢ given.third) where
  abbrev before : Registry
  before = admitted.at.registry

  abbrev self : List ℕ
  self = acting admitted

  -- who manages in its own right moves nothing there, so the command is delegated
  delegated : Holds admitted delegated_management
  delegated = elim (cases_Bool (is_privileged delegated_management (entry_named before self))) [
    | inl holds ↦ holds
    | inr lacks ↦ absurd (passed.own EX1 (0, omega arith, refl) (λ may. elim may [
      | inl authorized ↦ passed.own EX7 (6, omega arith, refl) (inl (authorized, (other, (λ own. out_of_reach admitted domain apart given.first into own))))
      | inr holds ↦ (let clash = sym holds ∙ lacks in cc)
    ]))
  ]

  -- the verifier
  record HasVerifier : Type 0 where
    pub verifier : List ℕ
    pub key : Key
    pub verifies : IsVerifier before self verifier key

  verified : HasVerifier
  verified = elim (first_above_decided before apart.of (has_with_key before token_verification 0x70) self passed.domain) [
    | inl found ↦ (let fits = and_parts (is_privileged token_verification (entry_named before found.0)) (is_some (key_named before found.0 0x70 1)) found.1.fitting in
        by found.0 (key_named before found.0 0x70 1) refl fits.1 (λ key named. record { above = found.1; key_is = named }))
    | inr none ↦ absurd (passed.own EX7 (6, omega arith, refl) (inr (delegated, inr (inl none))))
  ]
    where
      by : (verifier : List ℕ) (o : Option Key) → key_named before verifier 0x70 1 ≡ o → is_some o ≡ true
          → ((key : Key) → key_named before verifier 0x70 1 ≡ Some key → IsVerifier before self verifier key) → HasVerifier
      by verifier None named some is = cc
      by verifier (Some key) named some is = record { verifier = verifier; key = key; verifies = is key named }

  -- the verifier is at the new domain or above it
  reaches : IsAtOrAbove before verified.verifier given.first
  reaches = elim (aid_cases given.first verified.verifier) [
    | inl same ↦ inl same
    | inr differs ↦ elim (above_decided before apart.of verified.verifier given.first) [
      | inl above ↦ inr above
      | inr not_above ↦ absurd (passed.own EX7 (6, omega arith, refl) (inr (
        delegated,
        inr (inr (
          verified.verifier,
          verified.key,
          verified.verifies,
          (λ at. elim at [
            | inl same ↦ differs same
            | inr above ↦ not_above above
          ]),
        )),
      )))
    ]
  ]

  -- the verifier is not in the tree, since it is above the acting domain
  not_in_tree : IsAtOrAbove before domain verified.verifier → ⊥
  not_in_tree at = above_out before apart.of self domain apart.powerless verified.verifier verified.verifies.above.above at

  above_domain : IsAtOrAbove before verified.verifier given.first → IsAtOrAbove before domain given.first → IsAboveIn before verified.verifier domain
  above_domain (inl here) at = absurd (not_in_tree (subst (IsAtOrAbove before domain) here at))
  above_domain (inr above) (inl there) = subst (IsAboveIn before verified.verifier) there above
  above_domain (inr above) (inr below) = elim (above_compared before verified.verifier domain given.first above below) [
    | inl same ↦ absurd (not_in_tree (inl same))
    | inr apart_from ↦ elim apart_from [
      | inl over ↦ over
      | inr under ↦ absurd (not_in_tree (inr under))
    ]
  ]

  abbrev expected : List ℕ
  expected = token verified.key.bytes admitted.command.p1 admitted.command.p2 (approval_in given).before

  signed : (approval_in given).token ≡ expected
  signed = elim (aid_cases (approval_in given).token expected) [
    | inl same ↦ same
    | inr differs ↦ absurd (approval_passes managed_extradition.judged extradition_judgeable admitted given passed.asks judges.1 (TK TK3) (2, omega arith, refl)
        (delegated, (verified.verifier, verified.key, verified.verifies, differs)))
  ]

  pub entrusted : (member : Member) → MovesWith admitted.at.registry given.third member → IsEntrusted admitted domain member
  entrusted member moves = record {
    takes = judges.0;
    given = given;
    asks = passed.asks;
    delegated = delegated;
    moves = moves;
    into = into;
    verifier = verified.verifier;
    key = verified.key;
    verifies = verified.verifies;
    above = above_domain reaches into;
    signed = signed;
  }

pub extradition_sparing : IsManagedSparing managed_extradition
extradition_sparing admitted given changed passed judges becomes domain apart =
    subst (λ (r : Registry). SparesTree admitted r domain) (sym becomes)
    (moved_spared admitted domain apart given.third given.first
    (may_move admitted given (passed.own EX2 (1, omega arith, refl)) (passed.own EX3 (2, omega arith, refl)) (passed.own EX6 (5, omega arith, refl)))
    (passed.own EX4 (3, omega arith, refl)) (passed.own EX6 (5, omega arith, refl))
    (λ member moves into other. entrusted admitted given passed judges domain apart into other member moves))
