-- The tree of a domain that each command of a run spares stays.
use Rattle.std.proofs.Common.{◌≡◌, inl, ℕ, true, List, [], ◌∷◌, Option, None, Some, refl, ap, sym, subst}
use Rattle.std.specs.Prelude.{MatchOption}
use Rattle.card_types.proofs.LeastOfList.{found_fits}
use Rattle.card_types.proofs.NamedThings.{member_named}
use Rattle.policy_machine.specs.Prelude.{Admitted, AnEntry, Command, Entry, IsAboveIn, IsDomainNamed, IsOfCard, Outcome, Registry, Reset, RootsGetNothing, State, StaysThrough, TreeStays, TreesStayInRuns, domain_of, entry_named, is_domain, powered_on, same_aid}
use Rattle.card_types.proofs.SameAid.{same_aid_decides}
use Rattle.domain_tree.proofs.Paths.{root_alone}
use Rattle.policy_machine.proofs.KeepsSound.{starts_sound, steps_keep_sound}
use Rattle.policy_machine.proofs.TreesStayed.{trees_stay}

-- a domain whose tree stays is one still
still_named : (before after : Registry) (domain : List ℕ) → IsOfCard after → TreeStays before after domain → IsDomainNamed before domain → IsDomainNamed after domain
still_named before after domain of stays named = by (entry_named before domain) refl named
  where
    by : (o : Option Entry) → entry_named before domain ≡ o → MatchOption o ⊥ (λ entry. is_domain entry ≡ true) → IsDomainNamed after domain
    by None at is = absurd is
    by (Some entry) at is =
        (let found = found_fits (λ (e : Entry). same_aid e.aid domain) before.entries entry at in
        let member = stays.members (AnEntry entry) (found.0, inl ((same_aid_decides entry.aid domain).0 found.1)) in
        subst (λ (o : Option Entry). MatchOption o ⊥ (λ e. is_domain e ≡ true)) (sym (member_named after of entry member.0 domain found.1)) is)

-- a tree that stays, and then stays
stays_on : (first mid last : Registry) (domain : List ℕ) → TreeStays first mid domain → TreeStays mid last domain → TreeStays first last domain
stays_on first mid last domain one other = record {
  members = λ member in_it. other.members member (one.members member in_it);
  line = λ line is. other.line line (one.line line is);
}

stays_further : (first mid : Registry) (outcomes : List Outcome) (domain : List ℕ) → TreeStays first mid domain → StaysThrough mid outcomes domain
    → StaysThrough first outcomes domain
stays_further first mid [] domain one through = tt
stays_further first mid (outcome ∷ outcomes) domain one through =
    (stays_on first mid outcome.state.registry domain one through.0, stays_further first mid outcomes domain one through.1)

pub trees_stay_in_runs : TreesStayInRuns
trees_stay_in_runs state [] outcomes last domain sound run named spares = (
  subst (λ (os : List Outcome). StaysThrough state.registry os domain) (sym run.0) tt,
  subst (λ (s : State). TreeStays state.registry s.registry domain) (sym run.1) (record { members = λ member in_it. in_it; line = λ line is. is }),
  tt,
)
trees_stay_in_runs state (Command bytes ∷ inputs) [] last domain sound run named spares = absurd run
trees_stay_in_runs state (Command bytes ∷ inputs) (outcome ∷ outcomes) last domain sound run named spares =
    let next = steps_keep_sound state bytes outcome sound run.0 in
    let one = trees_stay state bytes outcome sound run.0 domain named spares.0 in
    let of : IsOfCard outcome.state.registry = record { well = next.well; ascending = next.ascending } in
    let still = still_named state.registry outcome.state.registry domain of one.0 named in
    let rest = trees_stay_in_runs outcome.state inputs outcomes last domain next run.1 still spares.1 in (
      (one.0, stays_further state.registry outcome.state.registry outcomes domain one.0 rest.0),
      stays_on state.registry outcome.state.registry last.registry domain one.0 rest.1,
      (one.1, rest.2),
    )
trees_stay_in_runs state (Reset ∷ inputs) outcomes last domain sound run named spares =
    trees_stay_in_runs (powered_on state.registry) inputs outcomes last domain (starts_sound state.registry sound.well sound.ascending) run named spares

pub roots_get_nothing : RootsGetNothing
roots_get_nothing state bytes outcome domain member root brought =
    let entrusted = brought.1.2 in
    let at = ap (λ (a : Admitted). a.at.registry) brought.1.1.1.2.3 in
    let above = subst (λ (r : Registry). IsAboveIn r entrusted.verifier domain) at entrusted.above in
    above.other (sym (root_alone (domain_of state.registry) domain entrusted.verifier above.path root above.leads))
