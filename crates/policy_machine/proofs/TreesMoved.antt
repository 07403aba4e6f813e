-- The tree of a domain where another domain moves a thing.
use Rattle.std.proofs.Common.{◌≡◌, ◌≢◌, ◌⊎◌, inl, inr, ℕ, cond, List, Option, None, Some, refl, ap, sym, subst, ◌∙◌}
use Rattle.std.specs.Prelude.{Contains, IsSome, map}
use Rattle.std.specs.Option.{option_map}
use Rattle.std.proofs.lemmas.List.Elements.{All-contains}
use Rattle.card_types.proofs.Members.{contains_map, mapped}
use Rattle.card_types.proofs.NamedThings.{aid_cases, aid_differs}
use Rattle.card_types.proofs.SameAid.{same_aid_decides}
use Rattle.policy_machine.specs.Prelude.{AFile, AKey, Admitted, AnEntry, AnObject, Entry, InTreeOf, IsAboveIn, IsAtOrAbove, IsDomainNamed, IsEntrusted, IsInCharge, IsMember, IsWellFile, IsWellKey, IsWellObject, LoadFile, MayMove, Member, MovesWith, Registry, acting, domain_of, entry_named, member_place, same_aid, with_thing_in_domain}
use Rattle.domain_tree.proofs.AboveBelow.{above_below_moved}
use Rattle.domain_tree.proofs.AboveChanges.{above_moved, above_others_of_moved, none_above_root}
use Rattle.domain_tree.proofs.Compared.{above_decided}
use Rattle.domain_tree.proofs.DomainsStay.{domains_after_move}
use Rattle.policy_machine.proofs.ChargeReaches.{charge_above, charge_place, entry_has_domain, file_found, file_has_none}
use Rattle.policy_machine.proofs.Strangers.{named_has_domain, upper_named}
use Rattle.policy_machine.proofs.TreeKept.{AreApart, KeepsElsewhere, SparesTree, out_of_reach, spares_tree}

-- things of which those with one AID are changed
module _ {X : Type 0} (name : X → List ℕ) (change : X → X) (thing : List ℕ) where
  abbrev some : X → X
  some x = cond (same_aid (name x) thing) (change x) x

  stays : (x : X) → name x ≢ thing → some x ≡ x
  stays x other = ap (λ b. cond b (change x) x) (aid_differs (name x) thing other)

  others_left : (xs : List X) (x : X) → Contains xs x → name x ≢ thing → Contains (map some xs) x
  others_left xs x is other = subst (Contains (map some xs)) (stays x other) (contains_map some xs x is)

  was_so : (xs : List X) (x : X) → Contains (map some xs) x
      → ((old : X) × Contains xs old × (name old ≡ thing) × (x ≡ change old)) ⊎ (Contains xs x × (name x ≢ thing))
  was_so xs x is =
      let from = mapped some xs x is in
      elim (aid_cases (name from.0) thing) [
        | inl same ↦ inl (from.0, from.1, same, sym from.2 ∙ ap (λ b. cond b (change from.0) from.0) ((same_aid_decides (name from.0) thing).1 same))
        | inr other ↦ inr (subst (λ (y : X). Contains xs y × (name y ≢ thing)) (sym (stays from.0 other) ∙ from.2) (from.1, other))
      ]

module _ (admitted : Admitted) (domain : List ℕ) (apart : AreApart admitted domain) (thing to : List ℕ) (may : MayMove admitted.at.registry thing to)
    (charged : (IsInCharge admitted.at.registry (acting admitted) thing → ⊥) → ⊥) (over : IsAboveIn admitted.at.registry thing to → ⊥)
    (entrusted : (member : Member) → MovesWith admitted.at.registry thing member → IsAtOrAbove admitted.at.registry domain to → to ≢ thing
    → IsEntrusted admitted domain member) where
  abbrev before : Registry
  before = admitted.at.registry

  abbrev after : Registry
  after = with_thing_in_domain before thing to

  abbrev entry_to : Entry → Entry
  entry_to entry = record entry { domain = to }

  abbrev file_to : LoadFile → LoadFile
  file_to file = record file { domain = to }

  -- the thing, where it has a domain, is below the acting domain
  reached : {P : Type 0} → domain_of before thing ≢ None → (IsAboveIn before (acting admitted) thing → ⊥) → P
  reached has away = absurd (charged (λ charge. away (charge_above before apart.of (acting admitted) thing charge has)))

  has_by : (x : List ℕ) → x ≡ thing → domain_of before x ≢ None → domain_of before thing ≢ None
  has_by x same has = subst (λ (a : List ℕ). domain_of before a ≢ None) same has

  elsewhere : KeepsElsewhere admitted after
  elsewhere x away has =
      domains_after_move before thing to x (λ same. reached (has_by x same has) (λ above. away (subst (IsAboveIn before (acting admitted)) (sym same) above)))

  -- the thing is not in the tree
  thing_out : {P : Type 0} (entry : Entry) → Contains before.entries entry → entry.aid ≡ thing → IsAtOrAbove before domain thing → P
  thing_out entry is same at =
      reached (has_by entry.aid same (entry_has_domain before apart.of entry is)) (λ above. out_of_reach admitted domain apart thing at (inr above))

  file_out : {P : Type 0} (file : LoadFile) → Contains before.files file → file.aid ≡ thing → IsAtOrAbove before domain file.domain → P
  file_out file is same at =
      absurd (charged (λ charge.
      out_of_reach admitted domain apart file.domain at
      (charge_place before apart.of (acting admitted) file is (subst (IsInCharge before (acting admitted)) (sym same) charge))))

  there : (member : Member) → IsMember before member → IsAtOrAbove before domain (member_place member) → IsMember after member
  there (AnEntry entry) is at = elim (aid_cases entry.aid thing) [
    | inl same ↦ thing_out entry is same (subst (IsAtOrAbove before domain) same at)
    | inr other ↦ others_left (λ (e : Entry). e.aid) entry_to thing before.entries entry is other
  ]
  there (AFile file) is at = elim (aid_cases file.aid thing) [
    | inl same ↦ file_out file is same at
    | inr other ↦ others_left (λ (f : LoadFile). f.aid) file_to thing before.files file is other
  ]
  there (AKey key) is at = is
  there (AnObject object) is at = is

  -- where the domain is above the thing then, the thing was moved into its tree
  moved_into : IsSome (entry_named before thing) → IsAboveIn after domain thing → IsAtOrAbove before domain to × (to ≢ thing)
  moved_into some above = elim (aid_cases to thing) [
    | inl same ↦
        absurd (none_above_root before thing apart.of (subst (MayMove before thing) same may) some domain
        (subst (λ (d : List ℕ). IsAboveIn (with_thing_in_domain before thing d) domain thing) same above))
    | inr other ↦ (by ((above_moved before thing to apart.of may some other domain).0 above), other)
  ]
    where
      by : (domain ≡ to) ⊎ IsAboveIn before domain to → IsAtOrAbove before domain to
      by (inl same) = inl (sym same)
      by (inr higher) = inr higher

  -- an entry that has a domain
  some_entry : (x : List ℕ) → domain_of before x ≢ None → IsSome (entry_named before x)
  some_entry x has = by (entry_named before x) refl
    where
      by : (o : Option Entry) → entry_named before x ≡ o → IsSome o
      by None named = absurd (has (ap (option_map (λ (e : Entry). e.domain)) named))
      by (Some entry) named = refl

  -- what comes to be in the tree was there, or is the thing or below it, which was moved there
  abbrev IsBrought : List ℕ → Type 0
  IsBrought x = IsAtOrAbove before thing x × IsAtOrAbove before domain to × (to ≢ thing)

  was_in_tree : (x : List ℕ) → (x ≡ thing → IsSome (entry_named before thing)) → IsAtOrAbove after domain x → IsAtOrAbove before domain x ⊎ IsBrought x
  was_in_tree x named (inl here) = inl (inl here)
  was_in_tree x named (inr above) = elim (aid_cases x thing) [
    | inl same ↦ (let into = moved_into (named same) (subst (IsAboveIn after domain) same above) in inr (inl same, into.0, into.1))
    | inr other ↦ elim (above_decided before apart.of thing x) [
      | inl below ↦ elim ((above_below_moved before thing to apart.of may domain x below).0 above) [
        | inl kept ↦ inl (inr kept.0)
        | inr higher ↦ (let into = moved_into (some_entry thing (upper_has x below)) higher in inr (inr below, into.0, into.1))
      ]
      | inr apart_from ↦ inl (inr ((above_others_of_moved before thing to apart.of may domain x other apart_from).0 above))
    ]
  ]
    where
      upper_has : (x : List ℕ) → IsAboveIn before thing x → domain_of before thing ≢ None
      upper_has x below = named_has_domain before thing (upper_named before apart.of thing x below)

  named_by : (x : List ℕ) → IsDomainNamed before x → x ≡ thing → IsSome (entry_named before thing)
  named_by x named same = some_entry thing (has_by x same (named_has_domain before x named))

  -- with the file the domain comes to be above, where it was above the new domain
  into_tree : to ≢ thing → IsAtOrAbove after domain to → IsAtOrAbove before domain to
  into_tree other (inl here) = inl here
  into_tree other (inr above) = inr ((above_others_of_moved before thing to apart.of may domain to other over).0 above)

  -- what a domain owns
  owned : (owner : List ℕ) → IsDomainNamed before owner → IsAtOrAbove after domain owner → IsAtOrAbove before domain owner ⊎ IsBrought owner
  owned owner named at = was_in_tree owner (named_by owner named) at

  moves_with : (member : Member) → IsAtOrAbove before thing (member_place member) → MovesWith before thing member
  moves_with (AFile file) at = inr at
  moves_with member at = at

  there_or_brought : (member : Member) → IsMember before member → IsAtOrAbove before domain (member_place member) ⊎ IsBrought (member_place member)
      → InTreeOf before domain member ⊎ IsEntrusted admitted domain member
  there_or_brought member was (inl at) = inl (was, at)
  there_or_brought member was (inr brought) = inr (entrusted member (moves_with member brought.0) brought.1 brought.2)

  new : (member : Member) → InTreeOf after domain member → InTreeOf before domain member ⊎ IsEntrusted admitted domain member
  new (AnEntry entry) (is, at) = elim (was_so (λ (e : Entry). e.aid) entry_to thing before.entries entry is) [
    | inl (old, was, same, it) ↦
        (let aid : entry.aid ≡ thing = ap (λ (e : Entry). e.aid) it ∙ same in
        let some = some_entry thing (has_by old.aid same (entry_has_domain before apart.of old was)) in
        elim (was_in_tree entry.aid (λ here. some) at) [
          | inl before_it ↦ thing_out old was same (subst (IsAtOrAbove before domain) aid before_it)
          | inr brought ↦ inr (entrusted (AnEntry entry) brought.0 brought.1 brought.2)
        ])
    | inr (was, other) ↦ there_or_brought (AnEntry entry) was (was_in_tree entry.aid (λ here. absurd (other here)) at)
  ]
  new (AFile file) (is, at) = elim (was_so (λ (f : LoadFile). f.aid) file_to thing before.files file is) [
    | inl (old, was, same, it) ↦
        (let aid : file.aid ≡ thing = ap (λ (f : LoadFile). f.aid) it ∙ same in
        let into : file.domain ≡ to = ap (λ (f : LoadFile). f.domain) it in
        let none : domain_of before thing ≡ None
        = subst (λ (a : List ℕ). domain_of before a ≡ None) same (file_has_none before apart.of old.aid old (file_found before apart.of old was)) in
        let other : to ≢ thing
        = (λ here. named_has_domain before to may.into (subst (λ (a : List ℕ). domain_of before a ≡ None) (sym here) none)) in
        inr (entrusted (AFile file) (inl aid) (into_tree other (subst (IsAtOrAbove after domain) into at)) other))
    | inr (was, other) ↦
        there_or_brought (AFile file) was (owned file.domain (All-contains (IsWellFile before) before.files file apart.of.well.files was).domain at)
  ]
  new (AKey key) (is, at) =
      there_or_brought (AKey key) is (owned key.owner (All-contains (IsWellKey before) before.keys key apart.of.well.keys is).owner at)
  new (AnObject object) (is, at) =
      there_or_brought (AnObject object) is (owned object.owner (All-contains (IsWellObject before) before.objects object apart.of.well.objects is).owner at)

  pub moved_spared : SparesTree admitted (with_thing_in_domain admitted.at.registry thing to) domain
  moved_spared = spares_tree admitted domain apart after elsewhere there new
