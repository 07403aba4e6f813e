-- Rights by AIDs, and candidates by slots.
use Rattle.std.proofs.Common.{◌≡◌, ◌≢◌, inl, inr, ℕ, true, List, [], ◌∷◌, ◌++◌, Option, None, Some, refl, ap, sym, subst, ◌∙◌}
use Rattle.std.specs.Prelude.{IsSome, MatchOption, cond, codes}
use Rattle.std.specs.Option.{option_map}
use Rattle.std.specs.declared.cmp.Ordering.TheVariants.{Greater}
use Rattle.card_types.specs.Found.{aid_of}
use Rattle.card_types.specs.Privileges.{has, security_domain}
use Rattle.card_types.specs.Registry as registry
use Rattle.card_types.specs.Registry.{entry_named, file_named, is_domain}
use Rattle.card_types.specs.Represents.{Represents, domain_aid, file_aid, thing_in}
use Rattle.card_types.specs.Well.{IsDomainNamed}
use Rattle.card_types.specs.declared.found.Found.{Found}
use Rattle.card_types.specs.declared.found.Found.TheVariants as found
use Rattle.card_types.specs.declared.tables.Entry.{Entry}
use Rattle.card_types.specs.declared.tables.LoadFile.{LoadFile}
use Rattle.card_types.specs.declared.tables.Tables.{Tables}
use Rattle.card_types.proofs.Domains.{domain_aid_is}
use Rattle.card_types.proofs.EntryNames.{entry_in_slot, slot_of_entry}
use Rattle.card_types.proofs.FileNames.{file_in_slot, slot_of_file}
use Rattle.hex.specs.Hex.{encode_lower}
use Rattle.access_matrix.specs.Deeds.{AreUsed, HoldsDomain, IsThere, IsThing, deed_of, found_aid}
use Rattle.access_matrix.specs.Lines.{holds_locked, is_about_locked, line_as, verb_as}
use Rattle.access_matrix.specs.May.{May}
use Rattle.access_matrix.specs.Next.{HasAllowed, HasDomain, HasThing, IsCandidate, IsNextByKey, IsPast, NoneNext, place_order, right_of}
use Rattle.access_matrix.specs.Rights.{ComesAfter, IsNextRight, IsRight, NoRightAfter, right_key}
use Rattle.access_matrix.specs.Text.{deed_verb, is_locked, line_of, names_of}
use Rattle.access_matrix.specs.declared.act.Act.{Act}
use Rattle.access_matrix.specs.declared.act.Act.TheVariants as slot
use Rattle.access_matrix.specs.declared.candidate.Candidate.{Candidate}
use Rattle.access_matrix.specs.declared.deed.Deed.{Deed}
use Rattle.access_matrix.specs.declared.deed.Deed.TheVariants.{Delete, Related, Lock, Move, Install, Load}
use Rattle.access_matrix.specs.declared.deed.Right.{Right}
use Rattle.access_matrix.proofs.ActPlaces.{found_aid_is}
use Rattle.access_matrix.proofs.Somes.{is_some, of_mapped, some_is}
use Rattle.access_matrix.proofs.Scans.{held_domain, holds_domain}

module _ (page : ℕ → List ℕ) (tables : Tables) (said : registry.Registry) (says : Represents page tables said) where
  -- from slots to names
  entry_is_named : (slot : ℕ) → IsSome (thing_in tables.entries.items slot) → IsSome (entry_named said (domain_aid tables.entries.items slot))
  entry_is_named slot some =
      let entry = some_is (thing_in tables.entries.items slot) some in
      subst (λ (aid : List ℕ). IsSome (entry_named said aid)) (sym (domain_aid_is tables.entries.items slot entry.0 entry.1))
      (is_some _ _ (entry_in_slot page tables said says slot entry.0 entry.1))

  file_is_named : (slot : ℕ) → IsSome (thing_in tables.files.items slot) → IsSome (file_named said (file_aid tables.files.items slot))
  file_is_named slot some =
      let file = some_is (thing_in tables.files.items slot) some in
      let same : file_aid tables.files.items slot ≡ file.0.aid = found_aid_is tables (found.File slot) file.0.aid (ap (option_map (λ (f : LoadFile). f.aid)) file.1) in
      subst (λ (aid : List ℕ). IsSome (file_named said aid)) (sym same) (is_some _ _ (file_in_slot page tables said says slot file.0 file.1))

  thing_is_named : (thing : Found) → IsSome (aid_of tables thing) → IsThing said (found_aid tables thing)
  thing_is_named (found.Entry slot) some = inl (entry_is_named slot (of_mapped (λ (e : Entry). e.aid) (thing_in tables.entries.items slot) some))
  thing_is_named (found.File slot) some = inr (file_is_named slot (of_mapped (λ (f : LoadFile). f.aid) (thing_in tables.files.items slot) some))

  domain_is_named : (slot : ℕ) → HoldsDomain tables slot → IsDomainNamed said (domain_aid tables.entries.items slot)
  domain_is_named slot holds =
      let entry = held_domain tables slot holds in
      subst (IsDomainNamed said) (sym (domain_aid_is tables.entries.items slot entry.0 entry.1))
      (subst (λ (o : Option registry.Entry). MatchOption o ⊥ (λ e. is_domain e ≡ true)) (sym (entry_in_slot page tables said says slot entry.0 entry.1)) entry.2)

  is_there : (act : Act) → AreUsed tables act → IsThere said (deed_of tables act)
  is_there (slot.Delete thing) is = thing_is_named thing is
  is_there (slot.Related file) is = file_is_named file is
  is_there (slot.Lock entry) is = entry_is_named entry is
  is_there (slot.Move thing domain) is = (thing_is_named thing is.0, domain_is_named domain is.1)
  is_there (slot.Install file) is = file_is_named file is
  is_there slot.Load is = tt

  -- from names to slots
  slot_of_thing_entry : (aid : List ℕ) → IsSome (entry_named said aid)
      → (slot : ℕ) × IsSome (thing_in tables.entries.items slot) × HasThing tables (found.Entry slot) aid
  slot_of_thing_entry aid some =
      let named = some_is (entry_named said aid) some in
      let at = slot_of_entry page tables said says aid named.0 named.1 in
      (at.0, is_some _ at.1 at.2, ap (option_map (λ (e : Entry). e.aid)) at.2 ∙ ap Some at.4)

  slot_of_thing_file : (aid : List ℕ) → IsSome (file_named said aid)
      → (slot : ℕ) × IsSome (thing_in tables.files.items slot) × HasThing tables (found.File slot) aid
  slot_of_thing_file aid some =
      let named = some_is (file_named said aid) some in
      let at = slot_of_file page tables said says aid named.0 named.1 in
      (at.0, is_some _ at.1 at.2, ap (option_map (λ (f : LoadFile). f.aid)) at.2 ∙ ap Some at.4)

  slot_of_thing : (aid : List ℕ) → IsThing said aid → (thing : Found) × HasThing tables thing aid
  slot_of_thing aid (inl entry) = (let at = slot_of_thing_entry aid entry in (found.Entry at.0, at.2))
  slot_of_thing aid (inr file) = (let at = slot_of_thing_file aid file in (found.File at.0, at.2))

  slot_of_domain : (aid : List ℕ) → IsDomainNamed said aid → (slot : ℕ) × HasDomain tables slot aid
  slot_of_domain aid named = by (entry_named said aid) refl named
    where
      by : (o : Option registry.Entry) → entry_named said aid ≡ o → MatchOption o ⊥ (λ e. is_domain e ≡ true) → (slot : ℕ) × HasDomain tables slot aid
      by None is domain = absurd domain
      by (Some entry) is domain =
          (let at = slot_of_entry page tables said says aid entry is in
          let privileged : has security_domain at.1.privileges ≡ true = ap is_domain at.3 ∙ domain in
          (at.0, (holds_domain tables at.0 at.1 at.2 privileged, domain_aid_is tables.entries.items at.0 at.1 at.2 ∙ at.4)))

  act_of : (deed : Deed) → IsThere said deed → (act : Act) × AreUsed tables act × (deed_of tables act ≡ deed)
  act_of (Delete aid) is =
      (let at = slot_of_thing aid is in (slot.Delete at.0, is_some _ aid at.1, ap Delete (found_aid_is tables at.0 aid at.1)))
  act_of (Related file) is =
      (let at = slot_of_thing_file file is in (slot.Related at.0, at.1, ap Related (found_aid_is tables (found.File at.0) file at.2)))
  act_of (Lock aid) is =
      (let at = slot_of_thing_entry aid is in (slot.Lock at.0, at.1, ap Lock (found_aid_is tables (found.Entry at.0) aid at.2)))
  act_of (Move aid domain) is =
      (let at = slot_of_thing aid is.0 in
      let to = slot_of_domain domain is.1 in
      (slot.Move at.0 to.0, (is_some _ aid at.1, to.1.0), (λ i. Move (found_aid_is tables at.0 aid at.1 i) (to.1.1 i))))
  act_of (Install file) is =
      (let at = slot_of_thing_file file is in (slot.Install at.0, at.1, ap Install (found_aid_is tables (found.File at.0) file at.2)))
  act_of Load is = (slot.Load, tt, refl)

  candidate_of : (right : Right) → IsDomainNamed said right.domain → IsThere said right.deed
      → (c : Candidate) × IsCandidate tables c × (right_of tables c ≡ right)
  candidate_of right domain there =
      let from = slot_of_domain right.domain domain in
      let act = act_of right.deed there in (
        record { domain = from.0; act = act.0 },
        (from.1.0, act.1),
        (λ i. record { domain = from.1.1 i; deed = act.2 i }),
      )

  past_from : (last : Option Right) (right : Right) → IsPast place_order (option_map right_key last) (right_key right) → ComesAfter last right
  past_from None right past = tt
  past_from (Some l) right past = past

  to_past : (last : Option Right) (right : Right) → ComesAfter last right → IsPast place_order (option_map right_key last) (right_key right)
  to_past None right after = tt
  to_past (Some l) right after = after

  -- a right is a candidate that may be done
  allowed : (other : Right) → IsRight said other → (c : Candidate) × HasAllowed said tables c (right_key other)
  allowed other is =
      let c = candidate_of other is.domain is.there in (
        c.0,
        ((c.1, ap right_key c.2), subst (λ (right : Right). May said right.domain right.deed) (sym c.2) is.may),
      )

  pub next_right_is : (last : Option Right) (c : Candidate) → IsNextByKey (HasAllowed said tables) place_order (option_map right_key last) c
      → IsNextRight said last (right_of tables c)
  next_right_is last c next = record {
    is = record {
      domain = domain_is_named c.domain next.has.0.0.0;
      there = is_there c.act next.has.0.0.1;
      may = next.has.1;
    };
    after = past_from last (right_of tables c) (subst (IsPast place_order (option_map right_key last)) (sym next.has.0.1) next.past);
    least = λ other is after.
        (let at = allowed other is in
        subst (λ (p : List (List ℕ)). place_order p (right_key other) ≢ Greater) (sym next.has.0.1)
        (next.least at.0 (right_key other) at.1 (to_past last other after)));
  }

  pub no_right_after : (last : Option Right) → NoneNext (HasAllowed said tables) place_order (option_map right_key last) → NoRightAfter said last
  no_right_after last none other is after = (let at = allowed other is in none at.0 (right_key other) at.1 (to_past last other after))

  -- its line
  locked_in_slot : (slot : ℕ) → IsSome (thing_in tables.entries.items slot)
      → is_locked (entry_named said (domain_aid tables.entries.items slot)) ≡ holds_locked (thing_in tables.entries.items slot)
  locked_in_slot slot some =
      let entry = some_is (thing_in tables.entries.items slot) some in
      ap (λ aid. is_locked (entry_named said aid)) (domain_aid_is tables.entries.items slot entry.0 entry.1)
      ∙ ap is_locked (entry_in_slot page tables said says slot entry.0 entry.1) ∙ sym (ap holds_locked entry.1)

  verb_is : (act : Act) → AreUsed tables act → verb_as (is_about_locked tables act) (deed_of tables act) ≡ deed_verb said (deed_of tables act)
  verb_is (slot.Lock entry) is = sym (ap (λ locked. cond locked (codes "unlock ") (codes "lock ")) (locked_in_slot entry is))
  verb_is _ is = refl

  pub line_is : (c : Candidate) → IsCandidate tables c → line_as (is_about_locked tables c.act) (right_of tables c) ≡ line_of said (right_of tables c)
  line_is c is =
      let right = right_of tables c in
      ap (λ verb. verb ++ encode_lower right.domain ++ names_of right.deed ++ 10 ∷ []) (verb_is c.act is.1)
