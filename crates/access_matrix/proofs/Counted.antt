-- How many places of a card come after one: a number that falls from candidate to candidate.
use Rattle.std.proofs.Common.{◌≡◌, inl, inr, ℕ, suc, ◌<◌, ◌≤◌, Bool, true, false, List, [], ◌∷◌, length, Option, None, Some, refl, ap, sym, subst, ◌∙◌, arith}
use Rattle.std.specs.Prelude.{Contains, IsSome, filter, map, unwrap_or}
use Rattle.std.specs.List.{flat_map}
use Rattle.std.specs.Cmp.{IsTotalOrder}
use Rattle.std.specs.Option.{option_map}
use Rattle.std.specs.Ordering.{is_lt}
use Rattle.std.specs.declared.cmp.Ordering.{Ordering}
use Rattle.std.specs.declared.cmp.Ordering.TheVariants.{Less, Equal, Greater}
use Rattle.std.proofs.lemmas.Bool.{cases_Bool}
use Rattle.std.proofs.lemmas.Cmp.{lists_total, nat_list_cmp_total, tied_itself}
use Rattle.std.proofs.lemmas.List.Elements.{Contains-append_left, Contains-append_right}
use Rattle.std.proofs.lemmas.List.Sums.{count_by-le-length, length-filter}
use Rattle.card_types.specs.Found.{aid_of}
use Rattle.card_types.specs.Represents.{domain_aid, file_aid, things_in, thing_in}
use Rattle.card_types.specs.declared.found.Found.{Found}
use Rattle.card_types.specs.declared.found.Found.TheVariants as found
use Rattle.card_types.specs.declared.tables.Entry.{Entry}
use Rattle.card_types.specs.declared.tables.LoadFile.{LoadFile}
use Rattle.card_types.specs.declared.tables.Tables.{Tables}
use Rattle.card_types.proofs.Members.{contains_cases, contains_first, contains_later, contains_map}
use Rattle.card_types.proofs.Shows.{used_from_held}
use Rattle.access_matrix.specs.Deeds.{AreUsed, HoldsDomain, deed_of, found_aid}
use Rattle.access_matrix.specs.Next.{IsCandidate, IsPast, place_order, right_of}
use Rattle.access_matrix.specs.Rights.{deed_kind, goal_of, right_key, thing_of}
use Rattle.access_matrix.specs.Walks.{aids_of, kinds, places_from, rights_left}
use Rattle.access_matrix.specs.declared.act.Act.{Act}
use Rattle.access_matrix.specs.declared.act.Act.TheVariants as slot
use Rattle.access_matrix.specs.declared.candidate.Candidate.{Candidate}
use Rattle.access_matrix.specs.declared.deed.Right.{Right}
use Rattle.access_matrix.proofs.Somes.{of_mapped}
use Rattle.access_matrix.proofs.Scans.{held_domain}

pub place_total : IsTotalOrder place_order
place_total = lists_total nat_list_cmp_total

-- Fewer pass a test that implies another, where something passes the other alone.
module _ {X : Type 0} (p q : X → Bool) (more : (x : X) → p x ≡ true → q x ≡ true) where
  not_more : (xs : List X) → length (filter p xs) ≤ length (filter q xs)
  not_more [] = omega arith
  not_more (x ∷ xs) = elim (cases_Bool (p x)) [
    | inl fit ↦ (let rest = not_more xs in let fits = more x fit in rw (fit, fits) (omega arith))
    | inr misfit ↦ (let rest = not_more xs in elim (cases_Bool (q x)) [
      | inl fit ↦ rw (misfit, fit) (omega arith)
      | inr other ↦ rw (misfit, other) rest
    ])
  ]

  fewer : (xs : List X) (x : X) → Contains xs x → p x ≡ false → q x ≡ true → length (filter p xs) < length (filter q xs)
  fewer [] x (k, within, is) misfit fit = absurd (omega arith)
  fewer (y ∷ ys) x there misfit fit = elim (contains_cases y ys x there) [
    | inl same ↦
        (let rest = not_more ys in
        let here : p y ≡ false = ap p same ∙ misfit in
        let there : q y ≡ true = ap q same ∙ fit in
        rw (here, there) (omega arith))
    | inr later ↦
        (let rest = fewer ys x later misfit fit in
        elim (cases_Bool (p y)) [
          | inl both ↦ (let fits = more y both in rw (both, fits) (omega arith))
          | inr none ↦ elim (cases_Bool (q y)) [
            | inl one ↦ rw (none, one) (omega arith)
            | inr other ↦ rw (none, other) rest
          ]
        ])
  ]

contains_flat_map : {X A : Type 0} (f : X → List A) (xs : List X) (x : X) (a : A) → Contains xs x → Contains (f x) a → Contains (flat_map f xs) a
contains_flat_map f [] x a (k, within, is) inside = absurd (omega arith)
contains_flat_map f (y ∷ ys) x a there inside = elim (contains_cases y ys x there) [
  | inl same ↦ Contains-append_left (f y) (flat_map f ys) a (subst (λ z. Contains (f z) a) (sym same) inside)
  | inr later ↦ Contains-append_right (f y) (flat_map f ys) a (contains_flat_map f ys x a later inside)
]

contains_placed : (aids : List (List ℕ)) (domain : List ℕ) (kind : ℕ) (thing goal : List ℕ) → Contains aids domain → Contains kinds kind → Contains aids thing
    → Contains aids goal → Contains (places_from aids) (domain ∷ (kind ∷ []) ∷ thing ∷ goal ∷ [])
unfolding places_from
contains_placed aids domain kind thing goal has_domain has_kind has_thing has_goal =
    contains_flat_map (λ d. flat_map (λ k. flat_map (λ t. map (λ g. d ∷ (k ∷ []) ∷ t ∷ g ∷ []) aids) aids) kinds) aids domain _ has_domain
    (contains_flat_map (λ k. flat_map (λ t. map (λ g. domain ∷ (k ∷ []) ∷ t ∷ g ∷ []) aids) aids) kinds kind _ has_kind
    (contains_flat_map (λ t. map (λ g. domain ∷ (kind ∷ []) ∷ t ∷ g ∷ []) aids) aids thing _ has_thing
    (contains_map (λ g. domain ∷ (kind ∷ []) ∷ thing ∷ g ∷ []) aids goal has_goal)))

module _ (tables : Tables) where
  has_none : Contains (aids_of tables) []
  unfolding aids_of
  has_none = contains_first _ _

  has_entry : (slot : ℕ) → IsSome (thing_in tables.entries.items slot) → Contains (aids_of tables) (domain_aid tables.entries.items slot)
  unfolding aids_of
  has_entry slot some = by (thing_in tables.entries.items slot) refl some
    where
      by : (o : Option Entry) → thing_in tables.entries.items slot ≡ o → IsSome o
          → Contains (aids_of tables) (unwrap_or (option_map (λ e. e.aid) (thing_in tables.entries.items slot)) [])
      by None at is = absurd cc
      by (Some entry) at is =
          rw at (contains_later _ _ _ (Contains-append_left _ _ entry.aid
          (contains_map (λ (e : Entry). e.aid) (things_in tables.entries.items) entry (used_from_held tables.entries.items slot entry at))))

  has_file : (slot : ℕ) → IsSome (thing_in tables.files.items slot) → Contains (aids_of tables) (file_aid tables.files.items slot)
  unfolding aids_of
  has_file slot some = by (thing_in tables.files.items slot) refl some
    where
      by : (o : Option LoadFile) → thing_in tables.files.items slot ≡ o → IsSome o
          → Contains (aids_of tables) (unwrap_or (option_map (λ f. f.aid) (thing_in tables.files.items slot)) [])
      by None at is = absurd cc
      by (Some file) at is =
          rw at (contains_later _ _ _ (Contains-append_right _ _ file.aid
          (contains_map (λ (f : LoadFile). f.aid) (things_in tables.files.items) file (used_from_held tables.files.items slot file at))))

  has_thing : (thing : Found) → IsSome (aid_of tables thing) → Contains (aids_of tables) (found_aid tables thing)
  has_thing (found.Entry slot) some = has_entry slot (of_mapped (λ (e : Entry). e.aid) (thing_in tables.entries.items slot) some)
  has_thing (found.File slot) some = has_file slot (of_mapped (λ (f : LoadFile). f.aid) (thing_in tables.files.items slot) some)

  has_domain : (slot : ℕ) → HoldsDomain tables slot → Contains (aids_of tables) (domain_aid tables.entries.items slot)
  has_domain slot holds = (let entry = held_domain tables slot holds in has_entry slot (rw entry.1 refl))

  act_thing : (act : Act) → AreUsed tables act → Contains (aids_of tables) (thing_of (deed_of tables act))
  act_thing (slot.Delete thing) is = has_thing thing is
  act_thing (slot.Related file) is = has_file file is
  act_thing (slot.Lock entry) is = has_entry entry is
  act_thing (slot.Move thing domain) is = has_thing thing is.0
  act_thing (slot.Install file) is = has_file file is
  act_thing slot.Load is = has_none

  act_goal : (act : Act) → AreUsed tables act → Contains (aids_of tables) (goal_of (deed_of tables act))
  act_goal (slot.Move thing domain) is = has_domain domain is.1
  act_goal _ is = has_none

  act_kind : (act : Act) → Contains kinds (deed_kind (deed_of tables act))
  unfolding kinds
  act_kind (slot.Delete thing) = (0, omega arith, refl)
  act_kind (slot.Related file) = (1, omega arith, refl)
  act_kind (slot.Lock entry) = (2, omega arith, refl)
  act_kind (slot.Move thing domain) = (3, omega arith, refl)
  act_kind (slot.Install file) = (4, omega arith, refl)
  act_kind slot.Load = (5, omega arith, refl)

  has_place : (c : Candidate) → IsCandidate tables c → Contains (places_from (aids_of tables)) (right_key (right_of tables c))
  has_place c is =
      contains_placed (aids_of tables) _ _ _ _ (has_domain c.domain is.0) (act_kind c.act) (act_thing c.act is.1) (act_goal c.act is.1)

  less_from : (o : Ordering) → is_lt o ≡ true → o ≡ Less
  less_from Less is = refl
  less_from Equal is = absurd cc
  less_from Greater is = absurd cc

  -- fewer are left after a candidate that comes after the last right
  pub fewer_left : (last : Option Right) (c : Candidate) → IsCandidate tables c → IsPast place_order (option_map right_key last) (right_key (right_of tables c))
      → rights_left tables (Some (right_of tables c)) < rights_left tables last
  unfolding rights_left
  fewer_left None c is past =
      let next = right_key (right_of tables c) in
      let all = places_from (aids_of tables) in
      let counted = length-filter (λ other. is_lt (place_order next other)) all in
      let most = count_by-le-length (λ other. is_lt (place_order next other)) all in
      omega arith
  fewer_left (Some last) c is past =
      let place = right_key last in
      let next = right_key (right_of tables c) in
      fewer (λ other. is_lt (place_order next other)) (λ other. is_lt (place_order place other))
      (λ other after. ap is_lt (place_total.trans place next other past (less_from (place_order next other) after)))
      (places_from (aids_of tables)) next (has_place c is) (ap is_lt (tied_itself place_total next)) (ap is_lt past)

-- how many turns are left with the candidate that comes next
abbrev pub turns_left : Tables → Option Candidate → ℕ
turns_left tables None = 0
turns_left tables (Some c) = suc (rights_left tables (Some (right_of tables c)))
