-- A command that some card has admitted: over these tables, for the security domain in a slot.
use Rattle.std.proofs.Common.{◌≡◌, ℕ, true, List, [], ◌∷◌, Option, None, Some, refl, ap, sym, subst, ◌∙◌}
use Rattle.std.specs.Prelude.{MatchOption}
use Rattle.card_core.specs.Prelude.{ActsIn, Admitted, Apdu, IsDomainNamed, IsLoadNamed, IsOfCard, LoadSession, Represents, State, Well, domain_aid, fresh, has, is_domain_held, is_domain_in, security_domain, thing_in}
use Rattle.card_types.proofs.Domains.{domain_aid_is}
use Rattle.card_types.proofs.EntryNames.{entry_in_slot}
use Rattle.card_types.specs.Registry as registry
use Rattle.card_types.specs.declared.tables.Entry.{Entry}
use Rattle.card_types.specs.declared.tables.Tables.{Tables}
use Rattle.policy_slots.specs.declared.live.LoadName.{LoadName}

used_domain : (entries : List (Option Entry)) (domain : ℕ) (found : Option Entry) → thing_in entries domain ≡ found → is_domain_held found ≡ true
    → (entry : Entry) × (thing_in entries domain ≡ Some entry) × (has security_domain entry.privileges ≡ true)
used_domain entries domain None at is = cc
used_domain entries domain (Some entry) at is = (entry, at, is)

-- the entry that is a domain
pub domain_there : (entries : List (Option Entry)) (domain : ℕ) → is_domain_in entries domain ≡ true
    → (entry : Entry) × (thing_in entries domain ≡ Some entry) × (has security_domain entry.privileges ≡ true)
domain_there entries domain is = used_domain entries domain (thing_in entries domain) refl is

-- a load session with the name that the code has given it
pub load_named : List (Option Entry) → Option LoadName → Option LoadSession
load_named entries None = None
load_named entries (Some name) = Some (record {
  channel = name.channel;
  aid = name.aid;
  domain = domain_aid entries name.domain;
  hash = [];
  announced = None;
  bytes = [];
  blocks = name.next;
})

module _ (page : ℕ → List ℕ) (tables : Tables) (said : registry.Registry) (says : Represents page tables said) (well : Well said) (domain : ℕ)
    (is_domain : is_domain_in tables.entries.items domain ≡ true) where
  -- it is one by name
  pub domain_named : IsDomainNamed said (domain_aid tables.entries.items domain)
  domain_named =
      let there = domain_there tables.entries.items domain is_domain in
      let named = ap (registry.entry_named said) (domain_aid_is tables.entries.items domain there.0 there.1) ∙ entry_in_slot page tables said says domain there.0 there.1 in
      subst (λ (e : Option registry.Entry). MatchOption e ⊥ (λ entry. registry.is_domain entry ≡ true)) (sym named) there.2

  pub of_card : IsOfCard said
  of_card = record { well = well; ascending = says.ascending }

  module _ (name : Option LoadName) (command : Apdu) where
    abbrev state : State
    state = record {
      registry = said;
      volatile = record { channels = Some (fresh (domain_aid tables.entries.items domain)) ∷ []; load = load_named tables.entries.items name };
    }

    abbrev pub some_admitted : Admitted
    some_admitted = record { before = state; at = state; channel = 0; command = command; session = None }

    pub some_acts : ActsIn page tables domain some_admitted
    some_acts =
        let there = domain_there tables.entries.items domain is_domain in
        record { says = says; well = well; entry = there.0; at = there.1; on = refl }

    pub some_load : IsLoadNamed tables.entries.items name some_admitted.at.volatile.load
    unfolding load_named
    some_load = by name
      where
        by : (n : Option LoadName) → IsLoadNamed tables.entries.items n (load_named tables.entries.items n)
        by None = tt
        by (Some n) = (refl, refl, refl, refl)
