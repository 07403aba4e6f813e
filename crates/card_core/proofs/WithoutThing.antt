-- A registry without a thing: what goes of it where the thing is an entry, and where it is an Executable Load File.
use Rattle.std.proofs.Common.{◌≡◌, ◌≢◌, ℕ, true, not, List, Option, None, Some, refl, ap, sym, subst, ◌∙◌}
use Rattle.std.specs.Prelude.{Contains, IsSome, MatchOption, filter}
use Rattle.std.proofs.lemmas.List.Elements.{All-contains}
use Rattle.card_types.proofs.LeastOfList.{found_fits, none_found}
use Rattle.card_types.proofs.SetMembers.{key_there}
use Rattle.card_types.proofs.NamedThings.{unfound_kept}
use Rattle.card_types.proofs.SameAid.{same_aid_decides}
use Rattle.card_core.specs.Prelude.{Counter, Entry, IsDomainNamed, IsWellCounter, IsWellEntry, IsWellFile, IsWellKey, IsWellObject, Key, LoadFile, Object, Registry, Well, entry_named, file_named, is_domain, same_aid, without_applications, without_entry, without_file, without_thing}
use Rattle.policy_machine.proofs.ObjectStored.{keeps_all}

-- a list without what none of it is
without_none : {X : Type 0} (name : X → List ℕ) (aid : List ℕ) (xs : List X) → ((x : X) → Contains xs x → name x ≢ aid) → filter (λ x. not (same_aid (name x) aid)) xs ≡ xs
without_none name aid xs none =
    keeps_all (λ x. same_aid (name x) aid) xs (none_found (λ x. same_aid (name x) aid) xs (λ x there fits. none x there ((same_aid_decides (name x) aid).0 fits)))

module _ (said : Registry) (well : Well said) (aid : List ℕ) where
  -- no entry and no file have one AID
  apart : (file : LoadFile) → file_named said aid ≡ Some file → entry_named said aid ≡ None
  apart file at =
      let found = found_fits (λ (f : LoadFile). same_aid f.aid aid) said.files file at in
      subst (λ (name : List ℕ). entry_named said name ≡ None) ((same_aid_decides file.aid aid).0 found.1)
      (All-contains (IsWellFile said) said.files file well.files found.0).apart

  -- nothing comes from it
  pub without_no_applications : ((entry : Entry) → Contains said.entries entry → entry.file ≢ aid) → without_applications said aid ≡ said
  without_no_applications none = ap (λ entries. record said { entries = entries }) (without_none (λ (e : Entry). e.file) aid said.entries none)

  -- the thing is an entry
  module _ (entry : Entry) (at : entry_named said aid ≡ Some entry) where
    no_file : file_named said aid ≡ None
    no_file = by (file_named said aid) refl
      where
        by : (o : Option LoadFile) → file_named said aid ≡ o → file_named said aid ≡ None
        by None is = is
        by (Some file) is = (let clash = sym at ∙ apart file is in cc)

    none_from : (other : Entry) → Contains said.entries other → other.file ≢ aid
    none_from other there same =
        let loaded = (All-contains (IsWellEntry said) said.entries other well.entries there).loaded in
        let clash = subst IsSome (ap (file_named said) same ∙ no_file) loaded in
        cc

    pub entry_alone : without_thing said aid ≡ without_entry said aid
    entry_alone =
        ap (λ registry. without_file (without_entry registry aid) aid) (without_no_applications none_from)
        ∙ ap (λ files. record (without_entry said aid) { files = files }) (keeps_all (λ (f : LoadFile). same_aid f.aid aid) said.files no_file)

  -- the thing is an Executable Load File
  module _ (file : LoadFile) (at : file_named said aid ≡ Some file) where
    no_entry : entry_named said aid ≡ None
    no_entry = apart file at

    not_owner : (owner : List ℕ) → IsDomainNamed said owner → owner ≢ aid
    not_owner owner named same = subst (λ (o : Option Entry). MatchOption o ⊥ (λ e. is_domain e ≡ true)) (ap (entry_named said) same ∙ no_entry) named

    key_owner : (key : Key) → Contains said.keys key → IsDomainNamed said key.owner
    key_owner key there = (All-contains (IsWellKey said) said.keys key well.keys there).owner

    counter_owner : (counter : Counter) → Contains said.counters counter → IsDomainNamed said counter.owner
    counter_owner counter there =
        let first = key_there said counter.owner counter.version 1 (All-contains (IsWellCounter said) said.counters counter well.counters there).set.first in
        subst (IsDomainNamed said) first.owner_is (key_owner first.key first.is_there)

    object_owner : (object : Object) → Contains said.objects object → IsDomainNamed said object.owner
    object_owner object there = (All-contains (IsWellObject said) said.objects object well.objects there).owner

    abbrev rest : Registry
    rest = without_applications said aid

    kept : without_entry rest aid ≡ rest
    kept =
        let entries = keeps_all (λ (e : Entry). same_aid e.aid aid) rest.entries
        (unfound_kept (λ (e : Entry). e.aid) (λ e. not (same_aid e.file aid)) (λ e. same_aid e.aid aid) said.entries no_entry) in
        let keys = without_none (λ (k : Key). k.owner) aid said.keys (λ key there. not_owner key.owner (key_owner key there)) in
        let counters = without_none (λ (c : Counter). c.owner) aid said.counters (λ counter there. not_owner counter.owner (counter_owner counter there)) in
        let objects = without_none (λ (o : Object). o.owner) aid said.objects (λ object there. not_owner object.owner (object_owner object there)) in
        (λ i. record rest { entries = entries i; keys = keys i; counters = counters i; objects = objects i })

    pub file_with_applications : without_thing said aid ≡ without_file (without_applications said aid) aid
    file_with_applications = ap (λ registry. without_file registry aid) kept
