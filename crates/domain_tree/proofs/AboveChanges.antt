-- What is above what after a change, over any steps and of a registry.
use Rattle.std.proofs.Common.{◌≡◌, ◌≢◌, ◌⊎◌, inl, inr, ℕ, true, List, Option, None, Some, refl, ap, sym, subst, ◌∙◌}
use Rattle.std.specs.Prelude.{◌↔◌, IsSome, MatchOption}
use Rattle.card_types.proofs.AddedThing.{new_step, other_domain}
use Rattle.card_types.proofs.AddedThing as added
use Rattle.card_types.proofs.MovedThing.{step_thing}
use Rattle.card_types.proofs.NamedThings.{aid_cases, domain_leads}
use Rattle.card_types.proofs.RemovedThing.{none_steps}
use Rattle.card_types.specs.ChangeLaws.{IsOfCard, MayAddEntry, MayMove}
use Rattle.card_types.specs.Registry.{Entry, Registry, domain_of, entry_named, is_domain}
use Rattle.card_types.specs.RegistryChange.{IsEntryAdded, with_entries, with_thing_in_domain, without_entry}
use Rattle.card_types.specs.Well.{IsDomainNamed}
use Rattle.domain_tree.proofs.DomainsStay.{domains_after_change, domains_after_entry, domains_after_move}
use Rattle.domain_tree.proofs.LinesStay.{above_while, same_above}
use Rattle.domain_tree.proofs.Paths.{above_step, path_on_line, root_alone, step_above}
use Rattle.domain_tree.proofs.Stepped.{stepped}
use Rattle.domain_tree.specs.Above.{Above, AboveAdded, AboveChanged, AboveMoved, AboveOthersOfAdded, AboveOthersOfMoved, AboveRemoved, NoneAboveRoot}

-- a step leads to a domain that is there
pub step_to_domain : (registry : Registry) → IsOfCard registry → (x next : List ℕ) → domain_of registry x ≡ Some next → IsDomainNamed registry next
step_to_domain registry of x next steps = (let entry = stepped registry of x next steps in subst (IsDomainNamed registry) entry.2 entry.3.domain)

module _ (entry : Entry) (before after : Registry) (of : IsOfCard before) (may : MayAddEntry before entry) (is : IsEntryAdded entry before after) where
  abbrev with_entry : Registry
  with_entry = record before { entries = after.entries }

  to_others : (x next : List ℕ) → x ≢ entry.aid → domain_of before x ≡ Some next → next ≢ entry.aid
  to_others x next other steps same =
      subst (λ (o : Option Entry). MatchOption o ⊥ (λ e. is_domain e ≡ true)) (ap (entry_named before) same ∙ may.free.no_entry) (step_to_domain before of x next steps)

  others_alike : (a b : List ℕ) → b ≢ entry.aid → Above (domain_of with_entry) a b ↔ Above (domain_of before) a b
  others_alike a b other =
      same_above (domain_of before) (domain_of with_entry) (λ x. x ≢ entry.aid) to_others (added.other_step entry before after.entries of is.entries) a b other

  above_new : (a : List ℕ) → Above (domain_of with_entry) a entry.aid ↔ ((a ≡ entry.domain) ⊎ Above (domain_of before) a entry.domain)
  above_new a =
      let apart = other_domain entry before after.entries of may is.entries in
      let steps = new_step entry before after.entries of may is.entries in (
        λ above. elim (above_step (domain_of with_entry) aid_cases a entry.aid entry.domain steps above) [
          | inl same ↦ inl same
          | inr higher ↦ inr ((others_alike a entry.domain apart).0 higher)
        ],
        λ above. elim above [
          | inl same ↦ step_above (domain_of with_entry) a entry.aid entry.domain steps (λ alike. apart (sym same ∙ alike)) (inl same)
          | inr higher ↦
              step_above (domain_of with_entry) a entry.aid entry.domain steps
              (above_while (domain_of before) (domain_of with_entry) (λ x. x ≢ entry.aid) to_others (added.other_step entry before after.entries of is.entries) a entry.domain apart higher).1
              (inr ((others_alike a entry.domain apart).1 higher))
        ],
      )

pub above_added : AboveAdded
above_added entry before after of may is a =
    subst (λ (r : Registry). Above (domain_of r) a entry.aid ↔ ((a ≡ entry.domain) ⊎ Above (domain_of before) a entry.domain)) (sym is.same)
    (above_new entry before after of may is a)

pub above_others_of_added : AboveOthersOfAdded
above_others_of_added entry before after of may is a b other =
    subst (λ (r : Registry). Above (domain_of r) a b ↔ Above (domain_of before) a b) (sym is.same) (others_alike entry before after of may is a b other)

pub above_changed : AboveChanged
above_changed registry these change keeps a b =
    same_above (domain_of registry) (domain_of (with_entries registry these change)) (λ _. Unit {0}) (λ x next here steps. tt)
    (λ x here. domains_after_change registry these change keeps x) a b tt

pub above_removed : AboveRemoved
above_removed registry aid of may a b other =
    same_above (domain_of registry) (domain_of (without_entry registry aid)) (λ x. x ≢ aid) (none_steps registry aid of may) (domains_after_entry registry aid) a b other

module _ (registry : Registry) (aid domain : List ℕ) (of : IsOfCard registry) (may : MayMove registry aid domain) where
  -- a thing that is neither the one that is moved nor below it
  record IsElsewhere (x : List ℕ) : Type 0 where
    pub other : x ≢ aid
    pub not_below : Above (domain_of registry) aid x → ⊥

  stays_elsewhere : (x next : List ℕ) → IsElsewhere x → domain_of registry x ≡ Some next → IsElsewhere next
  stays_elsewhere x next is steps = record {
    other = λ same. is.not_below (step_above (domain_of registry) aid x next steps (λ alike. is.other (sym alike)) (inl (sym same)));
    not_below = λ above. is.not_below (step_above (domain_of registry) aid x next steps (λ alike. is.other (sym alike)) (inr above));
  }

  elsewhere_alike : (a b : List ℕ) → IsElsewhere b → Above (domain_of (with_thing_in_domain registry aid domain)) a b ↔ Above (domain_of registry) a b
  elsewhere_alike a b is =
      same_above (domain_of registry) (domain_of (with_thing_in_domain registry aid domain)) IsElsewhere stays_elsewhere (λ x here. domains_after_move registry aid domain x here.other) a b is

pub above_others_of_moved : AboveOthersOfMoved
above_others_of_moved registry aid domain of may a b other not_below =
    elsewhere_alike registry aid domain of may a b (record { other = other; not_below = not_below })

module _ (registry : Registry) (aid domain : List ℕ) (of : IsOfCard registry) (may : MayMove registry aid domain) where
  moved_steps : IsSome (entry_named registry aid) → domain_of (with_thing_in_domain registry aid domain) aid ≡ Some domain
  moved_steps some = by (entry_named registry aid) refl some
    where
      by : (o : Option Entry) → entry_named registry aid ≡ o → IsSome o → domain_of (with_thing_in_domain registry aid domain) aid ≡ Some domain
      by None at is = cc
      by (Some entry) at is = step_thing registry aid domain of may entry at

  new_elsewhere : domain ≢ aid → IsElsewhere registry aid domain of may domain
  new_elsewhere other = record {
    other = other;
    not_below = λ above.
        (let up = domain_leads registry of domain may.into in
        other (may.not_below up.0 up.1 (path_on_line (domain_of registry) domain aid up.0 above.path up.1 above.leads)));
  }

  thing_above : IsSome (entry_named registry aid) → domain ≢ aid → (a : List ℕ)
      → Above (domain_of (with_thing_in_domain registry aid domain)) a aid ↔ ((a ≡ domain) ⊎ Above (domain_of registry) a domain)
  thing_above some other a =
      let steps = moved_steps some in
      let alike = elsewhere_alike registry aid domain of may a domain (new_elsewhere other) in (
        λ above. elim (above_step (domain_of (with_thing_in_domain registry aid domain)) aid_cases a aid domain steps above) [
          | inl same ↦ inl same
          | inr higher ↦ inr (alike.0 higher)
        ],
        λ above. elim above [
          | inl same ↦ step_above (domain_of (with_thing_in_domain registry aid domain)) a aid domain steps (λ itself. other (sym same ∙ itself)) (inl same)
          | inr higher ↦
              (let there = above_while (domain_of registry) (domain_of (with_thing_in_domain registry aid domain)) (IsElsewhere registry aid domain of may)
              (stays_elsewhere registry aid domain of may) (λ x here. domains_after_move registry aid domain x here.other) a domain (new_elsewhere other) higher in
              step_above (domain_of (with_thing_in_domain registry aid domain)) a aid domain steps there.1.other (inr there.0))
        ],
      )

pub above_moved : AboveMoved
above_moved registry aid domain of may some other a = thing_above registry aid domain of may some other a

pub none_above_root : NoneAboveRoot
none_above_root registry aid of may some a above =
    above.other (sym (root_alone (domain_of (with_thing_in_domain registry aid aid)) aid a above.path (moved_steps registry aid aid of may some) above.leads))
