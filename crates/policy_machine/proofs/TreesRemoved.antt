-- The tree of a domain where things of another domain are deleted.
use Rattle.std.proofs.Common.{◌≡◌, ◌≢◌, inl, inr, ℕ, true, List, [], ◌∷◌, Option, None, Some, refl, ap, sym, subst, ◌∙◌}
use Rattle.std.specs.Prelude.{Contains, MatchOption, not}
use Rattle.std.specs.Option.{option_map}
use Rattle.std.proofs.lemmas.Bool.{not_from_false}
use Rattle.std.proofs.lemmas.List.Elements.{All-contains}
use Rattle.card_types.proofs.LeastOfList.{found_fits}
use Rattle.card_types.proofs.Members.{contains_filter, filtered}
use Rattle.card_types.proofs.NamedThings.{aid_differs, member_named}
use Rattle.card_types.proofs.SameAid.{aid_same_itself}
use Rattle.policy_machine.specs.Prelude.{AFile, AKey, Admitted, AnEntry, AnObject, ComesFrom, Entry, IsAboveIn, IsAtOrAbove, IsInCharge, IsMember, IsOfCard, IsPath, IsToGo, IsWellKey, IsWellObject, Key, LoadFile, Member, Object, Registry, acting, domain_of, entry_named, member_place, same_aid, without_applications, without_thing}
use Rattle.domain_tree.proofs.DomainsStay.{domains_after_applications, domains_after_entry}
use Rattle.policy_machine.proofs.ChargeReaches.{charge_above, charge_place, entry_has_domain}
use Rattle.policy_machine.proofs.Strangers.{named_has_domain}
use Rattle.policy_machine.proofs.TreeKept.{AreApart, KeepsElsewhere, SparesTree, out_of_reach, spares_tree}

-- the entries that are left were there
entry_was : (registry : Registry) (thing : List ℕ) (entry : Entry) → Contains (without_thing registry thing).entries entry → Contains registry.entries entry
entry_was registry thing entry is =
    let first = filtered (λ (e : Entry). not (same_aid e.aid thing)) (without_applications registry thing).entries entry is in
    (filtered (λ (e : Entry). not (same_aid e.file thing)) registry.entries entry first.0).0

-- an entry that is named is the one that was
pub named_was : (registry : Registry) → IsOfCard registry → (thing x : List ℕ) (entry : Entry) → entry_named (without_thing registry thing) x ≡ Some entry
    → entry_named registry x ≡ Some entry
named_was registry of thing x entry named =
    let found = found_fits (λ (e : Entry). same_aid e.aid x) (without_thing registry thing).entries entry named in
    member_named registry of entry (entry_was registry thing entry found.0) x found.1

module _ (admitted : Admitted) (domain : List ℕ) (apart : AreApart admitted domain) (thing : List ℕ)
    (charged : (x : List ℕ) → IsToGo admitted thing x → (IsInCharge admitted.at.registry (acting admitted) x → ⊥) → ⊥)
    (goes : (x : List ℕ) → ComesFrom admitted.at.registry thing x → IsToGo admitted thing x) where
  abbrev before : Registry
  before = admitted.at.registry

  abbrev after : Registry
  after = without_thing before thing

  -- what goes and has a domain is below the acting domain
  reached : {P : Type 0} (x : List ℕ) → IsToGo admitted thing x → domain_of before x ≢ None → (IsAboveIn before (acting admitted) x → ⊥) → P
  reached x to_go has away = absurd (charged x to_go (λ charge. away (charge_above before apart.of (acting admitted) x charge has)))

  elsewhere : KeepsElsewhere admitted after
  elsewhere x away has =
      domains_after_entry (without_applications before thing) thing x (λ same. reached x (inl same) has away)
      ∙ domains_after_applications before thing x (by (entry_named before x) refl)
    where
      by : (o : Option Entry) → entry_named before x ≡ o → MatchOption o (Unit {0}) (λ entry. entry.file ≢ thing)
      by None named = tt
      by (Some entry) named = λ from. reached x (goes x (subst (λ (o : Option Entry). MatchOption o ⊥ (λ e. e.file ≡ thing)) (sym named) from)) has away

  -- what is in the tree is not to go
  stays : (x : List ℕ) → IsAtOrAbove before domain x → domain_of before x ≢ None → IsToGo admitted thing x → ⊥
  stays x at has to_go = reached x to_go has (λ above. out_of_reach admitted domain apart x at (inr above))

  keeps_name : (x : List ℕ) → x ≢ thing → not (same_aid x thing) ≡ true
  keeps_name x other = not_from_false (same_aid x thing) (aid_differs x thing other)

  comes_from : (entry : Entry) → Contains before.entries entry → entry.file ≡ thing → ComesFrom before thing entry.aid
  comes_from entry is from =
      subst (λ (o : Option Entry). MatchOption o ⊥ (λ e. e.file ≡ thing)) (sym (member_named before apart.of entry is entry.aid (aid_same_itself entry.aid))) from

  owner_stays : (owner : List ℕ) → domain_of before owner ≢ None → IsAtOrAbove before domain owner → not (same_aid owner thing) ≡ true
  owner_stays owner has at = keeps_name owner (λ same. stays owner at has (inl same))

  there : (member : Member) → IsMember before member → IsAtOrAbove before domain (member_place member) → IsMember after member
  there (AnEntry entry) is at =
      let has = entry_has_domain before apart.of entry is in
      contains_filter (λ (e : Entry). not (same_aid e.aid thing)) (without_applications before thing).entries entry
      (contains_filter (λ (e : Entry). not (same_aid e.file thing)) before.entries entry is
      (keeps_name entry.file (λ from. stays entry.aid at has (goes entry.aid (comes_from entry is from)))))
      (owner_stays entry.aid has at)
  there (AFile file) is at =
      contains_filter (λ (f : LoadFile). not (same_aid f.aid thing)) before.files file is
      (keeps_name file.aid (λ same. charged file.aid (inl same) (λ charge.
      out_of_reach admitted domain apart file.domain at (charge_place before apart.of (acting admitted) file is charge))))
  there (AKey key) is at =
      contains_filter (λ (k : Key). not (same_aid k.owner thing)) before.keys key is
      (owner_stays key.owner (named_has_domain before key.owner (All-contains (IsWellKey before) before.keys key apart.of.well.keys is).owner) at)
  there (AnObject object) is at =
      contains_filter (λ (o : Object). not (same_aid o.owner thing)) before.objects object is
      (owner_stays object.owner (named_has_domain before object.owner (All-contains (IsWellObject before) before.objects object apart.of.well.objects is).owner) at)

  -- each step is one that was
  step_was : (x next : List ℕ) → domain_of after x ≡ Some next → domain_of before x ≡ Some next
  step_was x next steps = by (entry_named after x) refl steps
    where
      by : (o : Option Entry) → entry_named after x ≡ o → option_map (λ (e : Entry). e.domain) o ≡ Some next → domain_of before x ≡ Some next
      by None named on = cc
      by (Some entry) named on = ap (option_map (λ (e : Entry). e.domain)) (named_was before apart.of thing x entry named) ∙ on

  path_was : (from to : List ℕ) (path : List (List ℕ)) → IsPath (domain_of after) from path to → IsPath (domain_of before) from path to
  path_was from to [] leads = leads
  path_was from to (next ∷ path) leads = (step_was from next leads.0, path_was next to path leads.1)

  was_in_tree : (x : List ℕ) → IsAtOrAbove after domain x → IsAtOrAbove before domain x
  was_in_tree x (inl here) = inl here
  was_in_tree x (inr above) = inr (record { other = above.other; path = above.path; leads = path_was x domain above.path above.leads })

  was : (member : Member) → IsMember after member → IsMember before member
  was (AnEntry entry) is = entry_was before thing entry is
  was (AFile file) is = (filtered (λ (f : LoadFile). not (same_aid f.aid thing)) before.files file is).0
  was (AKey key) is = (filtered (λ (k : Key). not (same_aid k.owner thing)) before.keys key is).0
  was (AnObject object) is = (filtered (λ (o : Object). not (same_aid o.owner thing)) before.objects object is).0

  pub removed_spared : SparesTree admitted (without_thing admitted.at.registry thing) domain
  removed_spared =
      spares_tree admitted domain apart after elsewhere there (λ member in_it. inl (was member in_it.0, was_in_tree (member_place member) in_it.1))
