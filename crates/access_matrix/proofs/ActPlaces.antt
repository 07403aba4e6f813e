-- The acts of a card and the places of their deeds, kind by kind.
use Rattle.std.proofs.Common.{◌≡◌, ◌≢◌, ◌⊎◌, inl, inr, ℕ, List, [], ◌∷◌, Option, None, Some, refl, ap, sym, subst, ◌∙◌, arith}
use Rattle.std.specs.Option.{option_map}
use Rattle.std.specs.Prelude.{IsSome, unwrap_or}
use Rattle.std.specs.declared.cmp.Ordering.TheVariants.{Greater}
use Rattle.card_types.specs.Aid.{aid_order}
use Rattle.card_types.specs.Found.{aid_of}
use Rattle.card_types.specs.Represents.{domain_aid, file_aid, thing_in}
use Rattle.card_types.specs.declared.found.Found.{Found}
use Rattle.card_types.specs.declared.found.Found.TheVariants as found
use Rattle.card_types.specs.declared.tables.Entry.{Entry}
use Rattle.card_types.specs.declared.tables.LoadFile.{LoadFile}
use Rattle.card_types.specs.declared.tables.Tables.{Tables}
use Rattle.access_matrix.specs.Deeds.{found_aid}
use Rattle.access_matrix.specs.Next.{HasDomain, HasEntry, HasFile, HasSpot, HasThing, IsNextByKey, NoneNext, alone, place_order}
use Rattle.access_matrix.specs.declared.act.Act.{Act}
use Rattle.access_matrix.specs.declared.act.Act.TheVariants as slot
use Rattle.access_matrix.proofs.Somes.{is_some, of_mapped}
use Rattle.access_matrix.proofs.Places.{Paired, first_pair, next_first, next_second, none_first, none_wrapped, order_of_alone, order_of_one, wrapped_next}

of_name : {T : Type 0} (name : T → List ℕ) (o : Option T) → IsSome o → option_map name o ≡ Some (unwrap_or (option_map name o) [])
of_name name None is = absurd cc
of_name name (Some x) is = refl

abbrev placed : ℕ → List (List ℕ) → List (List ℕ)
placed kind spot = (kind ∷ []) ∷ spot

same_kind : (k l : ℕ) (s t : List (List ℕ)) → placed k s ≡ placed l t → k ≡ l
same_kind k l s t is = cc

same_spot : (k l : ℕ) (s t : List (List ℕ)) → placed k s ≡ placed l t → s ≡ t
same_spot k l s t is = cc

module _ (tables : Tables) where
  -- the AID of a used slot
  pub thing_aid : (thing : Found) → IsSome (aid_of tables thing) → aid_of tables thing ≡ Some (found_aid tables thing)
  thing_aid (found.Entry slot) used = by (aid_of tables (found.Entry slot)) used
    where
      by : (o : Option (List ℕ)) → IsSome o → o ≡ Some (unwrap_or o [])
      by None is = absurd cc
      by (Some x) is = refl
  thing_aid (found.File slot) used = by (aid_of tables (found.File slot)) used
    where
      by : (o : Option (List ℕ)) → IsSome o → o ≡ Some (unwrap_or o [])
      by None is = absurd cc
      by (Some x) is = refl

  pub found_aid_is : (thing : Found) (aid : List ℕ) → HasThing tables thing aid → found_aid tables thing ≡ aid
  found_aid_is (found.Entry slot) aid is = ap (λ (o : Option (List ℕ)). unwrap_or o []) is
  found_aid_is (found.File slot) aid is = ap (λ (o : Option (List ℕ)). unwrap_or o []) is

  -- The acts of a kind that name one thing come in the order of the things: the next act is that on the next thing, and there is none
  -- where there is no next thing.
  module _ {T : Type 0} (Has : T → List ℕ → Type 0) (kind : ℕ) (act : T → Act) where
    abbrev pub FollowsThings : Type 0
    FollowsThings = ((last : Option (List ℕ)) (thing : T) → IsNextByKey Has aid_order last thing → IsNextByKey (HasSpot tables kind) place_order (option_map alone last) (act thing))
        × ((last : Option (List ℕ)) → NoneNext Has aid_order last → NoneNext (HasSpot tables kind) place_order (option_map alone last))

    follows : ((thing : T) (aid : List ℕ) → Has thing aid → HasSpot tables kind (act thing) (alone aid))
        → ((other : Act) (spot : List (List ℕ)) → HasSpot tables kind other spot → (thing : T) × (aid : List ℕ) × Has thing aid × (spot ≡ alone aid)) → FollowsThings
    follows to of = (wrapped_next Has (HasSpot tables kind) alone act order_of_alone to of, none_wrapped Has (HasSpot tables kind) alone act order_of_alone to of)

  -- DELETE of things
  to_delete : (thing : Found) (aid : List ℕ) → HasThing tables thing aid → HasSpot tables 0 (slot.Delete thing) (alone aid)
  to_delete thing aid is = (is_some _ aid is, ap (λ (a : List ℕ). placed 0 (alone a)) (found_aid_is thing aid is))

  of_delete : (act : Act) (spot : List (List ℕ)) → HasSpot tables 0 act spot → (thing : Found) × (aid : List ℕ) × HasThing tables thing aid × (spot ≡ alone aid)
  of_delete (slot.Delete thing) spot has = (thing, found_aid tables thing, thing_aid thing has.0, sym (same_spot _ _ _ _ has.1))
  of_delete _ spot has = absurd (omega (arith, same_kind _ _ _ _ has.1))

  pub delete_follows : FollowsThings (HasThing tables) 0 slot.Delete
  delete_follows = follows (HasThing tables) 0 slot.Delete to_delete of_delete

  -- DELETE of Executable Load Files
  to_related : (file : ℕ) (aid : List ℕ) → HasFile tables file aid → HasSpot tables 1 (slot.Related file) (alone aid)
  to_related file aid is =
      (of_mapped (λ (f : LoadFile). f.aid) _ (is_some _ aid is), ap (λ (a : List ℕ). placed 1 (alone a)) (found_aid_is (found.File file) aid is))

  of_related : (act : Act) (spot : List (List ℕ)) → HasSpot tables 1 act spot → (file : ℕ) × (aid : List ℕ) × HasFile tables file aid × (spot ≡ alone aid)
  of_related (slot.Delete thing) spot has = absurd (omega (arith, same_kind _ _ _ _ has.1))
  of_related (slot.Related file) spot has =
      (file, file_aid tables.files.items file, of_name (λ (f : LoadFile). f.aid) (thing_in tables.files.items file) has.0, sym (same_spot _ _ _ _ has.1))
  of_related (slot.Lock entry) spot has = absurd (omega (arith, same_kind _ _ _ _ has.1))
  of_related _ spot has = absurd (omega (arith, same_kind _ _ _ _ has.1))

  pub related_follows : FollowsThings (HasFile tables) 1 slot.Related
  related_follows = follows (HasFile tables) 1 slot.Related to_related of_related

  -- SET STATUS of entries
  to_lock : (entry : ℕ) (aid : List ℕ) → HasEntry tables entry aid → HasSpot tables 2 (slot.Lock entry) (alone aid)
  to_lock entry aid is =
      (of_mapped (λ (e : Entry). e.aid) _ (is_some _ aid is), ap (λ (a : List ℕ). placed 2 (alone a)) (found_aid_is (found.Entry entry) aid is))

  of_lock : (act : Act) (spot : List (List ℕ)) → HasSpot tables 2 act spot → (entry : ℕ) × (aid : List ℕ) × HasEntry tables entry aid × (spot ≡ alone aid)
  of_lock (slot.Delete thing) spot has = absurd (omega (arith, same_kind _ _ _ _ has.1))
  of_lock (slot.Related file) spot has = absurd (omega (arith, same_kind _ _ _ _ has.1))
  of_lock (slot.Lock entry) spot has =
      (entry, domain_aid tables.entries.items entry, of_name (λ (e : Entry). e.aid) (thing_in tables.entries.items entry) has.0, sym (same_spot _ _ _ _ has.1))
  of_lock (slot.Move thing domain) spot has = absurd (omega (arith, same_kind _ _ _ _ has.1))
  of_lock _ spot has = absurd (omega (arith, same_kind _ _ _ _ has.1))

  pub lock_follows : FollowsThings (HasEntry tables) 2 slot.Lock
  lock_follows = follows (HasEntry tables) 2 slot.Lock to_lock of_lock

  -- INSTALL [for install and make selectable] from Executable Load Files
  to_install : (file : ℕ) (aid : List ℕ) → HasFile tables file aid → HasSpot tables 4 (slot.Install file) (alone aid)
  to_install file aid is =
      (of_mapped (λ (f : LoadFile). f.aid) _ (is_some _ aid is), ap (λ (a : List ℕ). placed 4 (alone a)) (found_aid_is (found.File file) aid is))

  of_install : (act : Act) (spot : List (List ℕ)) → HasSpot tables 4 act spot → (file : ℕ) × (aid : List ℕ) × HasFile tables file aid × (spot ≡ alone aid)
  of_install (slot.Delete thing) spot has = absurd (omega (arith, same_kind _ _ _ _ has.1))
  of_install (slot.Related file) spot has = absurd (omega (arith, same_kind _ _ _ _ has.1))
  of_install (slot.Lock entry) spot has = absurd (omega (arith, same_kind _ _ _ _ has.1))
  of_install (slot.Move thing domain) spot has = absurd (omega (arith, same_kind _ _ _ _ has.1))
  of_install (slot.Install file) spot has =
      (file, file_aid tables.files.items file, of_name (λ (f : LoadFile). f.aid) (thing_in tables.files.items file) has.0, sym (same_spot _ _ _ _ has.1))
  of_install slot.Load spot has = absurd (omega (arith, same_kind _ _ _ _ has.1))

  pub install_follows : FollowsThings (HasFile tables) 4 slot.Install
  install_follows = follows (HasFile tables) 4 slot.Install to_install of_install

  -- INSTALL [for load]
  of_load : (act : Act) (spot : List (List ℕ)) → HasSpot tables 5 act spot → spot ≡ [] ∷ [] ∷ []
  of_load slot.Load spot has = sym (same_spot _ _ _ _ has.1)
  of_load _ spot has = absurd (omega (arith, same_kind _ _ _ _ has.1))

  pub load_is_next : IsNextByKey (HasSpot tables 5) place_order None slot.Load
  load_is_next = record {
    key = [] ∷ [] ∷ [];
    has = (tt, refl);
    past = tt;
    least = λ other another has past.
        subst (λ (p : List (List ℕ)). place_order ([] ∷ [] ∷ []) p ≢ Greater) (sym (of_load other another has)) (λ greater. cc);
  }

  -- INSTALL [for extradition] of things to security domains
  abbrev pub HasGoal : ℕ → List (List ℕ) → Type 0
  HasGoal domain goals = (goal : List ℕ) × HasDomain tables domain goal × (goals ≡ goal ∷ [])

  to_move : (thing : Found) (aid : List ℕ) → HasThing tables thing aid → (domain : ℕ) (goals : List (List ℕ)) → HasGoal domain goals
      → HasSpot tables 3 (slot.Move thing domain) (aid ∷ goals)
  to_move thing aid is domain goals goal = (
    (is_some _ aid is, goal.1.0),
    (λ i. placed 3 (found_aid_is thing aid is i ∷ goal.1.1 i ∷ [])) ∙ ap (λ (gs : List (List ℕ)). placed 3 (aid ∷ gs)) (sym goal.2),
  )

  of_move : (act : Act) (spot : List (List ℕ)) → HasSpot tables 3 act spot → Paired (HasThing tables) HasGoal spot
  of_move (slot.Delete thing) spot has = absurd (omega (arith, same_kind _ _ _ _ has.1))
  of_move (slot.Related file) spot has = absurd (omega (arith, same_kind _ _ _ _ has.1))
  of_move (slot.Lock entry) spot has = absurd (omega (arith, same_kind _ _ _ _ has.1))
  of_move (slot.Move thing domain) spot has = record {
    x = thing;
    a = found_aid tables thing;
    has_x = thing_aid thing has.0.0;
    y = domain;
    b = domain_aid tables.entries.items domain ∷ [];
    has_y = (domain_aid tables.entries.items domain, (has.0.1, refl), refl);
    is = sym (same_spot _ _ _ _ has.1);
  }
  of_move (slot.Install file) spot has = absurd (omega (arith, same_kind _ _ _ _ has.1))
  of_move slot.Load spot has = absurd (omega (arith, same_kind _ _ _ _ has.1))

  goal_next : (last : Option (List ℕ)) (domain : ℕ) → IsNextByKey (HasDomain tables) aid_order last domain
      → IsNextByKey HasGoal place_order (option_map (λ aid. aid ∷ []) last) domain
  goal_next last domain next =
      wrapped_next (HasDomain tables) HasGoal (λ aid. aid ∷ []) (λ d. d) order_of_one (λ d a has. (a, has, refl)) (λ d p has. (d, has.0, has.1, has.2)) last domain next

  no_goal : (last : Option (List ℕ)) → NoneNext (HasDomain tables) aid_order last → NoneNext HasGoal place_order (option_map (λ aid. aid ∷ []) last)
  no_goal last none =
      none_wrapped (HasDomain tables) HasGoal (λ aid. aid ∷ []) (λ d. d) order_of_one (λ d a has. (a, has, refl)) (λ d p has. (d, has.0, has.1, has.2)) last none

  module _ (thing : Found) (domain : ℕ) where
    pub first_move_is : IsNextByKey (HasThing tables) aid_order None thing → IsNextByKey (HasDomain tables) aid_order None domain
        → IsNextByKey (HasSpot tables 3) place_order None (slot.Move thing domain)
    first_move_is first second = first_pair (HasThing tables) HasGoal (HasSpot tables 3) slot.Move to_move of_move thing first domain (goal_next None domain second)

    pub move_further : (aid goal : List ℕ) → HasThing tables thing aid → IsNextByKey (HasDomain tables) aid_order (Some goal) domain
        → IsNextByKey (HasSpot tables 3) place_order (Some (aid ∷ goal ∷ [])) (slot.Move thing domain)
    move_further aid goal has next =
        next_second (HasThing tables) HasGoal (HasSpot tables 3) slot.Move to_move of_move thing aid has (goal ∷ []) domain (goal_next (Some goal) domain next)

  -- the thing of the last act is not there, or goes no further
  abbrev pub IsMoved : List ℕ → List ℕ → Type 0
  IsMoved aid goal = ((thing : Found) → HasThing tables thing aid → ⊥) ⊎ NoneNext (HasDomain tables) aid_order (Some goal)

  no_further : (aid goal : List ℕ) → IsMoved aid goal → (thing : Found) → HasThing tables thing aid → NoneNext HasGoal place_order (Some (goal ∷ []))
  no_further aid goal (inl none) thing has = absurd (none thing has)
  no_further aid goal (inr none) thing has = no_goal (Some goal) none

  module _ (aid goal : List ℕ) (moved : IsMoved aid goal) where
    pub next_moved : (thing : Found) (domain : ℕ) → IsNextByKey (HasThing tables) aid_order (Some aid) thing → IsNextByKey (HasDomain tables) aid_order None domain
        → IsNextByKey (HasSpot tables 3) place_order (Some (aid ∷ goal ∷ [])) (slot.Move thing domain)
    next_moved thing domain first second =
        next_first (HasThing tables) HasGoal (HasSpot tables 3) slot.Move to_move of_move aid (goal ∷ []) (no_further aid goal moved) thing first domain (goal_next None domain second)

    pub none_moved : NoneNext (HasThing tables) aid_order (Some aid) → NoneNext (HasSpot tables 3) place_order (Some (aid ∷ goal ∷ []))
    none_moved none = none_first (HasThing tables) HasGoal (HasSpot tables 3) slot.Move to_move of_move aid (goal ∷ []) (no_further aid goal moved) none
