-- What is least in a scan of slots is next in the order of AIDs.
use Rattle.std.proofs.Common.{◌≡◌, ◌≢◌, ℕ, Bool, true, ◌&&◌, List, Option, None, Some, refl, ap, sym, subst, ◌∙◌}
use Rattle.std.specs.Option.{option_map}
use Rattle.std.specs.declared.cmp.Ordering.{Ordering}
use Rattle.std.specs.declared.cmp.Ordering.TheVariants.{Less, Equal, Greater}
use Rattle.std.proofs.lemmas.Bool.{and_from, and_parts}
use Rattle.std.proofs.lemmas.Cmp.{nat_list_cmp_total}
use Rattle.card_types.specs.Aid.{aid_order, same_aid}
use Rattle.card_types.specs.Search.{is_above, IsLeast, NoneFits}
use Rattle.card_types.specs.Privileges.{has, security_domain}
use Rattle.card_types.specs.Represents.{thing_in}
use Rattle.card_types.specs.declared.found.Found.{Found}
use Rattle.card_types.specs.declared.found.Found.TheVariants as found
use Rattle.card_types.specs.declared.tables.Entry.{Entry}
use Rattle.card_types.specs.declared.tables.LoadFile.{LoadFile}
use Rattle.card_types.specs.declared.tables.Tables.{Tables}
use Rattle.card_types.proofs.Domains.{domain_aid_is}
use Rattle.card_types.proofs.Next.{above_from, held_from_name, to_above}
use Rattle.card_types.proofs.NotAbove.{not_above_third}
use Rattle.card_types.proofs.SameAid.{same_aid_decides}
use Rattle.access_matrix.specs.Deeds.{HoldsDomain}
use Rattle.access_matrix.specs.Next.{HasDomain, HasEntry, HasFile, HasThing, IsNextByKey, IsPast, NoneNext}

pub past_from : (after : Option (List ℕ)) (aid : List ℕ) → is_above after aid ≡ true → IsPast aid_order after aid
past_from None aid is = tt
past_from (Some after) aid is = above_from (Some after) aid is

pub to_past : (after : Option (List ℕ)) (aid : List ℕ) → IsPast aid_order after aid → is_above after aid ≡ true
to_past None aid past = refl
to_past (Some after) aid past = to_above (Some after) aid past

-- the slots hold, of what fits, just what has an AID past the last one
record Scans {T : Type 0} (name : T → List ℕ) (slots : List (Option T)) (fits : T → Bool) (Has : ℕ → List ℕ → Type 0) (after : Option (List ℕ)) : Type 0 where
  there : (slot : ℕ) (thing : T) → thing_in slots slot ≡ Some thing → fits thing ≡ true → Has slot (name thing) × IsPast aid_order after (name thing)
  back : (slot : ℕ) (aid : List ℕ) → Has slot aid → IsPast aid_order after aid
      → (thing : T) × (thing_in slots slot ≡ Some thing) × (fits thing ≡ true) × (name thing ≡ aid)

module _ {T : Type 0} (name : T → List ℕ) (slots : List (Option T)) (fits : T → Bool) (Has : ℕ → List ℕ → Type 0) (after : Option (List ℕ))
    (scans : Scans name slots fits Has after) where
  scan_some : (slot : ℕ) (thing : T) → IsLeast fits (λ a b. aid_order (name a) (name b)) slots slot thing → IsNextByKey Has aid_order after slot
  scan_some slot thing is =
      let there = scans.there slot thing is.at is.fitting in
      record {
        key = name thing;
        has = there.0;
        past = there.1;
        least = λ other another has past.
            (let at = scans.back other another has past in
            subst (λ (aid : List ℕ). aid_order (name thing) aid ≢ Greater) at.3 (is.least other at.0 at.1 at.2));
      }

  scan_none : NoneFits fits slots → NoneNext Has aid_order after
  scan_none none slot aid has past =
      let at = scans.back slot aid has past in
      none slot at.0 at.1 at.2

-- a slot with a security domain
pub holds_domain : (tables : Tables) (slot : ℕ) (entry : Entry) → thing_in tables.entries.items slot ≡ Some entry → has security_domain entry.privileges ≡ true
    → HoldsDomain tables slot
holds_domain tables slot entry at domain = rw at domain

pub held_domain : (tables : Tables) (slot : ℕ) → HoldsDomain tables slot
    → (entry : Entry) × (thing_in tables.entries.items slot ≡ Some entry) × (has security_domain entry.privileges ≡ true)
held_domain tables slot holds = by (thing_in tables.entries.items slot) refl
  where
    by : (o : Option Entry) → thing_in tables.entries.items slot ≡ o
        → (entry : Entry) × (thing_in tables.entries.items slot ≡ Some entry) × (has security_domain entry.privileges ≡ true)
    by None is = absurd (rw is at holds)
    by (Some entry) is = (entry, is, rw is at holds)

module _ (tables : Tables) (after : Option (List ℕ)) where
  entries_scan : Scans (λ (e : Entry). e.aid) tables.entries.items (λ e. is_above after e.aid) (HasEntry tables) after
  entries_scan = record {
    there = λ slot entry at fits. (ap (option_map (λ (e : Entry). e.aid)) at, past_from after entry.aid fits);
    back = λ slot aid named past.
        (let entry = held_from_name (λ (e : Entry). e.aid) tables.entries.items slot aid named in
        (entry.0, entry.1, ap (is_above after) entry.2 ∙ to_past after aid past, entry.2));
  }

  files_scan : Scans (λ (f : LoadFile). f.aid) tables.files.items (λ f. is_above after f.aid) (HasFile tables) after
  files_scan = record {
    there = λ slot file at fits. (ap (option_map (λ (f : LoadFile). f.aid)) at, past_from after file.aid fits);
    back = λ slot aid named past.
        (let file = held_from_name (λ (f : LoadFile). f.aid) tables.files.items slot aid named in
        (file.0, file.1, ap (is_above after) file.2 ∙ to_past after aid past, file.2));
  }

  domains_scan : Scans (λ (e : Entry). e.aid) tables.entries.items (λ e. has security_domain e.privileges && is_above after e.aid) (HasDomain tables) after
  domains_scan = record {
    there = λ slot entry at fits.
        (let parts = and_parts (has security_domain entry.privileges) (is_above after entry.aid) fits in
        ((holds_domain tables slot entry at parts.0, domain_aid_is tables.entries.items slot entry at), past_from after entry.aid parts.1));
    back = λ slot aid named past.
        (let entry = held_domain tables slot named.0 in
        let same : entry.0.aid ≡ aid = sym (domain_aid_is tables.entries.items slot entry.0 entry.1) ∙ named.1 in
        (entry.0, entry.1, and_from _ _ entry.2 (ap (is_above after) same ∙ to_past after aid past), same));
  }

  pub next_entry_is : (slot : ℕ) (entry : Entry) → IsLeast (λ e. is_above after e.aid) (λ a b. aid_order a.aid b.aid) tables.entries.items slot entry
      → IsNextByKey (HasEntry tables) aid_order after slot
  next_entry_is slot entry is = scan_some _ _ _ _ after entries_scan slot entry is

  pub no_next_entry : NoneFits (λ (e : Entry). is_above after e.aid) tables.entries.items → NoneNext (HasEntry tables) aid_order after
  no_next_entry none = scan_none _ _ _ _ after entries_scan none

  pub next_file_is : (slot : ℕ) (file : LoadFile) → IsLeast (λ f. is_above after f.aid) (λ a b. aid_order a.aid b.aid) tables.files.items slot file
      → IsNextByKey (HasFile tables) aid_order after slot
  next_file_is slot file is = scan_some _ _ _ _ after files_scan slot file is

  pub no_next_file : NoneFits (λ (f : LoadFile). is_above after f.aid) tables.files.items → NoneNext (HasFile tables) aid_order after
  no_next_file none = scan_none _ _ _ _ after files_scan none

  pub next_domain_is : (slot : ℕ) (entry : Entry)
      → IsLeast (λ e. has security_domain e.privileges && is_above after e.aid) (λ a b. aid_order a.aid b.aid) tables.entries.items slot entry
      → IsNextByKey (HasDomain tables) aid_order after slot
  next_domain_is slot entry is = scan_some _ _ _ _ after domains_scan slot entry is

  pub no_next_domain : NoneFits (λ (e : Entry). has security_domain e.privileges && is_above after e.aid) tables.entries.items
      → NoneNext (HasDomain tables) aid_order after
  no_next_domain none = scan_none _ _ _ _ after domains_scan none

  -- the next thing is an entry where no file past the last one is below it
  pub entry_is_next : (slot : ℕ) (entry : Entry) → IsLeast (λ e. is_above after e.aid) (λ a b. aid_order a.aid b.aid) tables.entries.items slot entry
      → ((other : ℕ) (file : LoadFile) → thing_in tables.files.items other ≡ Some file → is_above after file.aid ≡ true → aid_order entry.aid file.aid ≢ Greater)
      → IsNextByKey (HasThing tables) aid_order after (found.Entry slot)
  entry_is_next slot entry is files =
      let there = entries_scan.there slot entry is.at is.fitting in
      record { key = entry.aid; has = there.0; past = there.1; least = least }
    where
      least : (other : Found) (another : List ℕ) → HasThing tables other another → IsPast aid_order after another → aid_order entry.aid another ≢ Greater
      least (found.Entry other) another named past =
          (let at = entries_scan.back other another named past in
          subst (λ (aid : List ℕ). aid_order entry.aid aid ≢ Greater) at.3 (is.least other at.0 at.1 at.2))
      least (found.File other) another named past =
          (let at = files_scan.back other another named past in
          subst (λ (aid : List ℕ). aid_order entry.aid aid ≢ Greater) at.3 (files other at.0 at.1 at.2))

  pub file_is_next : (slot : ℕ) (file : LoadFile) → IsLeast (λ f. is_above after f.aid) (λ a b. aid_order a.aid b.aid) tables.files.items slot file
      → ((other : ℕ) (entry : Entry) → thing_in tables.entries.items other ≡ Some entry → is_above after entry.aid ≡ true → aid_order file.aid entry.aid ≢ Greater)
      → IsNextByKey (HasThing tables) aid_order after (found.File slot)
  file_is_next slot file is entries =
      let there = files_scan.there slot file is.at is.fitting in
      record { key = file.aid; has = there.0; past = there.1; least = least }
    where
      least : (other : Found) (another : List ℕ) → HasThing tables other another → IsPast aid_order after another → aid_order file.aid another ≢ Greater
      least (found.Entry other) another named past =
          (let at = entries_scan.back other another named past in
          subst (λ (aid : List ℕ). aid_order file.aid aid ≢ Greater) at.3 (entries other at.0 at.1 at.2))
      least (found.File other) another named past =
          (let at = files_scan.back other another named past in
          subst (λ (aid : List ℕ). aid_order file.aid aid ≢ Greater) at.3 (is.least other at.0 at.1 at.2))

  pub no_next_thing : NoneFits (λ (e : Entry). is_above after e.aid) tables.entries.items → NoneFits (λ (f : LoadFile). is_above after f.aid) tables.files.items
      → NoneNext (HasThing tables) aid_order after
  no_next_thing no_entry no_file (found.Entry slot) aid named past = scan_none _ _ _ _ after entries_scan no_entry slot aid named past
  no_next_thing no_entry no_file (found.File slot) aid named past = scan_none _ _ _ _ after files_scan no_file slot aid named past

-- not above what is not above a third
pub not_above_chain : (a b c : List ℕ) → aid_order a b ≢ Greater → aid_order b c ≢ Greater → aid_order a c ≢ Greater
not_above_chain a b c first second = by (aid_order a b) refl
  where
    by : (o : Ordering) → aid_order a b ≡ o → aid_order a c ≢ Greater
    by Less is = not_above_third nat_list_cmp_total a b c is second
    by Equal is = subst (λ (o : Ordering). o ≢ Greater) (sym (nat_list_cmp_total.congr a b c is)) second
    by Greater is = absurd (first is)

-- the one found with an AID is the domain that has it
pub domain_with : (tables : Tables) (aid : List ℕ) (slot : ℕ) (entry : Entry) → thing_in tables.entries.items slot ≡ Some entry
    → has security_domain entry.privileges && same_aid entry.aid aid ≡ true → HasDomain tables slot aid
domain_with tables aid slot entry at fits =
    let parts = and_parts (has security_domain entry.privileges) (same_aid entry.aid aid) fits in
    (holds_domain tables slot entry at parts.0, domain_aid_is tables.entries.items slot entry at ∙ (same_aid_decides entry.aid aid).0 parts.1)

pub no_domain_with : (tables : Tables) (aid : List ℕ) → NoneFits (λ (e : Entry). has security_domain e.privileges && same_aid e.aid aid) tables.entries.items
    → (slot : ℕ) → HasDomain tables slot aid → ⊥
no_domain_with tables aid none slot has =
    let entry = held_domain tables slot has.0 in
    let same : entry.0.aid ≡ aid = sym (domain_aid_is tables.entries.items slot entry.0 entry.1) ∙ has.1 in
    none slot entry.0 entry.1 (and_from _ _ entry.2 ((same_aid_decides entry.0.aid aid).1 same))
