-- PUT KEY keeps a registry well and its lists in order.
use Rattle.std.proofs.Common.{◌≡◌, ◌≢◌, true, ◌==◌, ◌⊎◌, inl, inr, ℕ, suc, ◌+◌, ◌<◌, ◌≤◌, ◌++◌, List, [], ◌∷◌, Option, None, Some, length, refl, ap, sym, subst, ◌∙◌, arith}
use Rattle.std.specs.Prelude.{All, Contains, MatchOption, filter}
use Rattle.std.proofs.lemmas.Bool.{and_from, cases_eq, cases_lt, eq-eqb, le-ltb, lt-ltb, false≢true}
use Rattle.std.proofs.lemmas.List.Elements.{All-head, All-nil, All-cons, All-tail}
use Rattle.card_types.proofs.Members.{contains_cases, contains_first, contains_later}
use Rattle.card_types.proofs.SameAid.{same_aid_decides}
use Rattle.card_types.proofs.SetMembers.{HasKeyNamed, whole_of}
use Rattle.policy_machine.specs.Prelude.{Admitted, AreKeysPut, AreKeysSent, AreOfOneLength, AsksToPut, Counter, HasFieldLengths, IsArranged, IsAscending, IsDomainNamed, IsKeyLength, IsKeyName, IsNewVersion, IsOfCard, IsWellCounter, IsWellKey, IsWholeSet, Key, KeysAsked, PuttingKeyFails, Registry, SentKey, Session, Well, acting, counter_order, counters_but, counters_from, has_key_version, is_key_numbered, key_count, key_order, keys_but, keys_from, keys_left, own_keys_left, same_aid, session_on, with_keys}
use Rattle.card_types.specs.declared.limits.TheConstants.{DOMAIN_KEYS, KEYS}
use Rattle.policy_machine.specs.declared.put_key.RulePK.TheVariants.{PK2, PK4}
use Rattle.policy_machine.proofs.Filtered.{any_there}
use Rattle.policy_machine.proofs.PutKeyKeys.{AreApart, counter_begun, key_added, length_of_added, put_well}

-- what is so of a key that is put
pub record IsNewKey (owner : List ℕ) (version identifier size : ℕ) (keys : List (List ℕ)) (key : Key) : Type 0 where
  pub owner_is : key.owner ≡ owner
  pub version_is : key.version ≡ version
  pub least : identifier ≤ key.identifier
  pub most : key.identifier < identifier + length keys
  pub size_is : length key.bytes ≡ size

abbrev has_size : ℕ → List ℕ → Type 0
has_size size bytes = length bytes ≡ size

-- keys of one length, that of a key
pub record HaveLengths (keys : List (List ℕ)) : Type 0 where
  pub size : ℕ
  pub is_length : IsKeyLength size
  pub each : All (has_size size) keys

module _ (owner : List ℕ) (version : ℕ) where
  pub new_key : (identifier size : ℕ) (keys : List (List ℕ)) → All (has_size size) keys → (key : Key)
      → Contains (keys_from owner version identifier keys) key → IsNewKey owner version identifier size keys key
  new_key identifier size [] sizes key there = (let low = there.1 in absurd (omega arith))
  new_key identifier size (bytes ∷ keys) sizes key there =
      let first : Key = record { owner = owner; version = version; identifier = identifier; bytes = bytes } in
      elim (contains_cases first (keys_from owner version (identifier + 1) keys) key there) [
        | inl same ↦ subst (IsNewKey owner version identifier size (bytes ∷ keys)) same (record {
          owner_is = refl;
          version_is = refl;
          least = omega arith;
          most = omega arith;
          size_is = All-head (has_size size) bytes keys sizes;
        })
        | inr later ↦
            (let is = new_key (identifier + 1) size keys (All-tail (has_size size) bytes keys sizes) key later in
            let least = is.least in
            let most = is.most in
            record { owner_is = is.owner_is; version_is = is.version_is; least = omega arith; most = omega arith; size_is = is.size_is })
      ]

  -- each key identifier is there
  pub has_new_key : (identifier : ℕ) (keys : List (List ℕ)) (at : ℕ) → identifier ≤ at → at < identifier + length keys
      → (key : Key) × Contains (keys_from owner version identifier keys) key × (key.owner ≡ owner) × (key.version ≡ version) × (key.identifier ≡ at)
  has_new_key identifier [] at least most = absurd (omega arith)
  has_new_key identifier (bytes ∷ keys) at least most =
      let first : Key = record { owner = owner; version = version; identifier = identifier; bytes = bytes } in
      elim (cases_lt identifier at) [
        | inr same ↦ (first, contains_first first (keys_from owner version (identifier + 1) keys), refl, refl, omega arith)
        | inl below ↦
            (let rest = has_new_key (identifier + 1) keys at (omega arith) (omega arith) in
            (rest.0, contains_later first (keys_from owner version (identifier + 1) keys) rest.0 rest.1, rest.2, rest.3, rest.4))
      ]

  pub length_keys_from : (identifier : ℕ) (keys : List (List ℕ)) → length (keys_from owner version identifier keys) ≡ length keys
  length_keys_from identifier [] = refl
  length_keys_from identifier (bytes ∷ keys) = ap suc (length_keys_from (identifier + 1) keys)

-- three keys are a key set, and one is a token or receipt key
abbrev pub AreOfVersion : ℕ → List (List ℕ) → Type 0
AreOfVersion version keys =
    ((0x01 ≤ version) × (version ≤ 0x6F) × (length keys ≡ 3)) ⊎ (((version ≡ 0x70) ⊎ (version ≡ 0x71)) × (length keys ≡ 1))

key_name : (version identifier : ℕ) (keys : List (List ℕ)) → AreOfVersion version keys → 1 ≤ identifier → identifier < 1 + length keys → IsKeyName version identifier
key_name version identifier keys (inl set) least most = (let count = set.2 in inl (set.0, set.1, least, omega arith))
key_name version identifier keys (inr one) least most = (let count = one.1 in inr (one.0, omega arith))

set_count : (version : ℕ) (keys : List (List ℕ)) → AreOfVersion version keys → version < 0x70 → length keys ≡ 3
set_count version keys (inl set) below = set.2
set_count version keys (inr (inl token, count)) below = absurd (omega arith)
set_count version keys (inr (inr receipt, count)) below = absurd (omega arith)

begun_counter : (owner : List ℕ) (version : ℕ) → version < 0x70
    → Contains (counters_from owner version) (record { owner = owner; version = version; number = 0 })
begun_counter owner version below = rw (lt-ltb version 0x70 below) (contains_first _ [])

-- the counter that begins is that of a key set
begun_is : (owner : List ℕ) (version : ℕ) (counter : Counter) → Contains (counters_from owner version) counter
    → (version < 0x70) × (counter ≡ record { owner = owner; version = version; number = 0 })
begun_is owner version counter there = elim (cases_lt version 0x70) [
  | inl below ↦ (
    below,
    elim (contains_cases _ [] counter (rw (lt-ltb version 0x70 below) at there)) [
      | inl same ↦ sym same
      | inr none ↦ (let low = none.1 in absurd (omega arith))
    ],
  )
  | inr above ↦ (let none = (rw (le-ltb version 0x70 above) at there).1 in absurd (omega arith))
]

-- Keys are put for a domain, in the place of those with a key version number.
module _ (registry : Registry) (well : Well registry) (owner : List ℕ) (domain : IsDomainNamed registry owner) (replaced version : ℕ)
    (new : List (List ℕ)) (sizes : HaveLengths new) (versioned : AreOfVersion version new)
    (free : (version ≢ replaced) × (has_key_version registry owner version ≡ true) → ⊥) (keys : List Key) (counters : List Counter)
    (keys_put : IsArranged key_order (keys_from owner version 1 new ++ keys_but owner replaced registry.keys) keys)
    (counters_put : IsArranged counter_order (counters_from owner version ++ counters_but owner replaced registry.counters) counters)
    (room : length (keys_but owner replaced registry.keys) + length new ≤ KEYS)
    (own_room : length (filter (λ key. same_aid key.owner owner) (keys_but owner replaced registry.keys)) + length new ≤ DOMAIN_KEYS) where
  abbrev added : List Key
  added = keys_from owner version 1 new

  abbrev new_counters : List Counter
  new_counters = counters_from owner version

  abbrev after : Registry
  after = with_keys registry keys counters

  has_key : (identifier : ℕ) → 1 ≤ identifier → identifier < 1 + length new → HasKeyNamed after owner version identifier
  has_key identifier least most =
      let key = has_new_key owner version 1 new identifier least most in
      record {
        key = key.0;
        is_there = key_added registry owner replaced added new_counters keys counters keys_put.same counters_put.same key.0 key.1;
        owner_is = key.2;
        version_is = key.3;
        identifier_is = key.4;
      }

  whole : version < 0x70 → IsWholeSet after owner version
  whole below =
      let count = set_count version new versioned below in
      whole_of after owner version
      (has_key 1 (omega arith) (omega arith)) (has_key 2 (omega arith) (omega arith)) (has_key 3 (omega arith) (omega arith))
      (record {
        counter = record { owner = owner; version = version; number = 0 };
        is_there = counter_begun registry owner replaced added new_counters keys counters keys_put.same counters_put.same _ (begun_counter owner version below);
        owner_is = refl;
        version_is = refl;
      })

  added_is : (key : Key) → Contains added key → IsNewKey owner version 1 sizes.size new key
  added_is = new_key owner version 1 sizes.size new sizes.each

  -- a key of the domain with the new key version number goes, where there is one
  apart : AreApart registry owner replaced added new_counters keys counters keys_put.same counters_put.same
  apart key other there here stays owned versioned =
      let is = added_is key there in
      let mine = (same_aid_decides other.owner owner).1 (owned ∙ is.owner_is) in
      let numbered : (v : ℕ) → version ≡ v → is_key_numbered owner v other ≡ true =
      λ v same. and_from (same_aid other.owner owner) (other.version == v) mine (eq-eqb other.version v (versioned ∙ is.version_is ∙ same)) in
      elim (cases_eq version replaced) [
        | inl same ↦ absurd (false≢true (sym stays ∙ numbered replaced same))
        | inr differs ↦ free (differs, any_there (is_key_numbered owner version) registry.keys other here (numbered version refl))
      ]

  key_well : (key : Key) → Contains added key → IsWellKey after key
  key_well key there =
      let is = added_is key there in
      record {
        owner = subst (IsDomainNamed registry) (sym is.owner_is) domain;
        size = subst IsKeyLength (sym is.size_is) sizes.is_length;
        size_of_set = length_of_added registry owner replaced added new_counters keys counters keys_put.same counters_put.same apart key there
            (λ other new. (added_is other new).size_is ∙ sym is.size_is);
        name = subst (λ (v : ℕ). IsKeyName v key.identifier) (sym is.version_is) (key_name version key.identifier new versioned is.least is.most);
        whole = λ below.
            subst (λ (o : List ℕ). IsWholeSet after o key.version) (sym is.owner_is)
            (subst (λ (v : ℕ). IsWholeSet after owner v) (sym is.version_is) (whole (subst (λ (v : ℕ). v < 0x70) is.version_is below)));
      }

  counter_well : (counter : Counter) → Contains new_counters counter → IsWellCounter after counter
  counter_well counter there =
      let is = begun_is owner version counter there in
      subst (IsWellCounter after) (sym is.1) (record { set = whole is.0; version = is.0; number = omega arith })

  pub new_keys_well : Well after
  new_keys_well =
      put_well registry owner replaced added new_counters keys counters keys_put.same counters_put.same well apart key_well counter_well
      (λ key there. (added_is key there).owner_is)
      (omega (arith, length_keys_from owner version 1 new)) (omega (arith, length_keys_from owner version 1 new))

  pub new_keys_ascending : IsAscending registry → IsAscending after
  new_keys_ascending ascending =
      record { entries = ascending.entries; files = ascending.files; keys = keys_put.ascending; counters = counters_put.ascending; objects = ascending.objects }

-- the keys that are sent have the length that is said, and are as many
sizes_sent : (dek : List ℕ) (size : ℕ) (sent : List SentKey) (keys : List (List ℕ)) → AreKeysSent dek sent keys → All (λ one. one.size ≡ size) sent
    → All (has_size size) keys × (length keys ≡ length sent)
sizes_sent dek size [] [] are said = (All-nil (has_size size), refl)
sizes_sent dek size [] (key ∷ keys) are said = absurd are
sizes_sent dek size (one ∷ sent) [] are said = absurd are
sizes_sent dek size (one ∷ sent) (key ∷ keys) are said =
    let rest = sizes_sent dek size sent keys are.1 (All-tail (λ k. k.size ≡ size) one sent said) in
    (All-cons (has_size size) key keys (are.0.size ∙ All-head (λ k. k.size ≡ size) one sent said) rest.0, ap suc rest.1)

pub keys_sent : (dek : List ℕ) (sent : List SentKey) (keys : List (List ℕ)) → AreKeysSent dek sent keys → All HasFieldLengths sent → AreOfOneLength sent
    → HaveLengths keys × (length keys ≡ length sent)
keys_sent dek [] keys are each alike =
    let sizes = sizes_sent dek 16 [] keys are (All-nil (λ k. k.size ≡ 16)) in
    (record { size = 16; is_length = inl refl; each = sizes.0 }, sizes.1)
keys_sent dek (one ∷ sent) keys are each alike =
    let sizes = sizes_sent dek alike.0 (one ∷ sent) keys are alike.1 in
    let is_length = subst IsKeyLength (All-head (λ k. k.size ≡ alike.0) one sent alike.1) (All-head HasFieldLengths one sent each).size in
    (record { size = alike.0; is_length = is_length; each = sizes.0 }, sizes.1)

in_session : (session : Option Session) (sent : List SentKey) (keys : List (List ℕ)) → MatchOption session ⊥ (λ s. AreKeysSent s.offer.dek sent keys)
    → All HasFieldLengths sent → AreOfOneLength sent → HaveLengths keys × (length keys ≡ length sent)
in_session None sent keys are each alike = absurd are
in_session (Some session) sent keys are each alike = keys_sent session.offer.dek sent keys are each alike

pub of_version : (p2 version : ℕ) (keys : List (List ℕ)) → IsNewVersion p2 version → length keys ≡ key_count p2 → AreOfVersion version keys
of_version p2 version keys (inl set) count = inl (set.1, set.2, count ∙ ap key_count set.0)
of_version p2 version keys (inr one) count = inr (one.1, count ∙ ap key_count one.0)

-- the card and the domain have room where no rule says otherwise
pub rooms : (admitted : Admitted) (asked : KeysAsked) → (PuttingKeyFails admitted asked PK4 → ⊥)
    → (length (keys_left admitted) + key_count admitted.command.p2 ≤ KEYS) × (length (own_keys_left admitted) + key_count admitted.command.p2 ≤ DOMAIN_KEYS)
rooms admitted asked passed =
    let card : KEYS < length (keys_left admitted) + key_count admitted.command.p2 → ⊥ = λ full. passed (inl full) in
    let domain : DOMAIN_KEYS < length (own_keys_left admitted) + key_count admitted.command.p2 → ⊥ = λ full. passed (inr full) in
    (omega (arith, card), omega (arith, domain))

-- it leaves a registry that a card may have
pub put_keeps : (admitted : Admitted) (asked : KeysAsked) (changed : Registry) → IsOfCard admitted.at.registry → IsDomainNamed admitted.at.registry (acting admitted)
    → AsksToPut admitted.command.p1 admitted.command.p2 admitted.command.body asked → (PuttingKeyFails admitted asked PK2 → ⊥) → (PuttingKeyFails admitted asked PK4 → ⊥)
    → (put : AreKeysPut admitted asked changed) → IsOfCard (with_keys admitted.at.registry put.keys put.counters)
put_keeps admitted asked changed of domain has untaken roomy put =
    let registry = admitted.at.registry in
    let sent = in_session (session_on admitted.at.volatile admitted.channel) asked.sent put.bytes put.opened has.each has.alike in
    let count : length put.bytes ≡ key_count admitted.command.p2 = sent.1 ∙ has.count in
    let versioned = of_version admitted.command.p2 asked.version put.bytes has.new count in
    let room = rooms admitted asked roomy in
    let card : length (keys_left admitted) + length put.bytes ≤ KEYS = (let r = room.0 in omega arith) in
    let own : length (own_keys_left admitted) + length put.bytes ≤ DOMAIN_KEYS = (let r = room.1 in omega arith) in
    record {
      well =
          new_keys_well registry of.well (acting admitted) domain admitted.command.p1 asked.version put.bytes sent.0 versioned untaken put.keys put.counters put.keys_put put.counters_put card own;
      ascending =
          new_keys_ascending registry of.well (acting admitted) domain admitted.command.p1 asked.version put.bytes sent.0 versioned untaken put.keys put.counters put.keys_put put.counters_put card own
          of.ascending;
    }
