-- The candidates in order: by their domains, then by their acts.
use Rattle.std.proofs.Common.{◌⊎◌, inl, inr, ℕ, List, ◌∷◌, None, Some, refl, sym}
use Rattle.card_types.specs.Aid.{aid_order}
use Rattle.card_types.specs.Represents.{domain_aid}
use Rattle.card_types.specs.declared.tables.Tables.{Tables}
use Rattle.access_matrix.specs.Deeds.{deed_of}
use Rattle.access_matrix.specs.Next.{HasDomain, HasPlace, HasCandidate, IsNextByKey, NoneNext, deed_place, place_order}
use Rattle.access_matrix.specs.declared.act.Act.{Act}
use Rattle.access_matrix.specs.declared.candidate.Candidate.{Candidate}
use Rattle.access_matrix.proofs.Places.{Paired, first_pair, next_first, next_second, none_first}

abbrev pub candidate : ℕ → Act → Candidate
candidate domain act = record { domain = domain; act = act }

module _ (tables : Tables) where
  to_right : (domain : ℕ) (aid : List ℕ) → HasDomain tables domain aid → (act : Act) (place : List (List ℕ)) → HasPlace tables act place
      → HasCandidate tables (candidate domain act) (aid ∷ place)
  to_right domain aid has act place placed = ((has.0, placed.0), (λ i. has.1 i ∷ placed.1 i))

  of_right : (c : Candidate) (place : List (List ℕ)) → HasCandidate tables c place → Paired (HasDomain tables) (HasPlace tables) place
  of_right c place has = record {
    x = c.domain;
    a = domain_aid tables.entries.items c.domain;
    has_x = (has.0.0, refl);
    y = c.act;
    b = deed_place (deed_of tables c.act);
    has_y = (has.0.1, refl);
    is = sym has.1;
  }

  module _ (domain : ℕ) (act : Act) where
    pub first_candidate_is : IsNextByKey (HasDomain tables) aid_order None domain → IsNextByKey (HasPlace tables) place_order None act
        → IsNextByKey (HasCandidate tables) place_order None (candidate domain act)
    first_candidate_is first second = first_pair (HasDomain tables) (HasPlace tables) (HasCandidate tables) candidate to_right of_right domain first act second

    pub candidate_further : (aid : List ℕ) (place : List (List ℕ)) → HasDomain tables domain aid → IsNextByKey (HasPlace tables) place_order (Some place) act
        → IsNextByKey (HasCandidate tables) place_order (Some (aid ∷ place)) (candidate domain act)
    candidate_further aid place has next =
        next_second (HasDomain tables) (HasPlace tables) (HasCandidate tables) candidate to_right of_right domain aid has place act next

  -- the domain of the last right is not there, or has no further act
  abbrev pub IsLeft : List ℕ → List (List ℕ) → Type 0
  IsLeft aid place = ((domain : ℕ) → HasDomain tables domain aid → ⊥) ⊎ NoneNext (HasPlace tables) place_order (Some place)

  module _ (aid : List ℕ) (place : List (List ℕ)) (left : IsLeft aid place) where
    none_left : (domain : ℕ) → HasDomain tables domain aid → NoneNext (HasPlace tables) place_order (Some place)
    none_left domain has = by left
      where
        by : IsLeft aid place → NoneNext (HasPlace tables) place_order (Some place)
        by (inl none) = absurd (none domain has)
        by (inr none) = none

    pub candidate_of_next : (domain : ℕ) (act : Act) → IsNextByKey (HasDomain tables) aid_order (Some aid) domain → IsNextByKey (HasPlace tables) place_order None act
        → IsNextByKey (HasCandidate tables) place_order (Some (aid ∷ place)) (candidate domain act)
    candidate_of_next domain act first second =
        next_first (HasDomain tables) (HasPlace tables) (HasCandidate tables) candidate to_right of_right aid place none_left domain first act second

    pub no_candidate_left : NoneNext (HasDomain tables) aid_order (Some aid) → NoneNext (HasCandidate tables) place_order (Some (aid ∷ place))
    no_candidate_left none = none_first (HasDomain tables) (HasPlace tables) (HasCandidate tables) candidate to_right of_right aid place none_left none
