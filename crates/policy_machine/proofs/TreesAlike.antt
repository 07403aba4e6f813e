-- The tree of a domain where each thing keeps its domain.
use Rattle.std.proofs.Common.{◌≡◌, inl, inr, ℕ, Bool, false, cond, List, refl, ap, sym, subst, ◌∙◌}
use Rattle.std.specs.Prelude.{◌↔◌, Contains, find, map}
use Rattle.std.specs.Option.{option_map}
use Rattle.std.proofs.lemmas.Bool.{cond_both}
use Rattle.card_types.proofs.Members.{contains_map, mapped}
use Rattle.policy_machine.specs.Prelude.{AFile, AKey, AnEntry, AnObject, Entry, InTreeOf, IsAtOrAbove, IsMember, Key, LoadFile, Member, Object, Registry, StepsStay, TreeStays, domain_of, member_place, same_aid, with_entries}
use Rattle.domain_tree.proofs.DomainsStay.{domains_after_change}
use Rattle.domain_tree.proofs.LinesStay.{above_stays, line_stays}

-- with the same entries each thing has the same domain
pub same_entries : (before after : Registry) → after.entries ≡ before.entries → (x : List ℕ) → domain_of after x ≡ domain_of before x
same_entries before after entries x = ap (λ (xs : List Entry). option_map (λ (e : Entry). e.domain) (find (λ (e : Entry). same_aid e.aid x) xs)) entries

-- the tree stays, and nothing is new in it
pub record LeavesTree (before after : Registry) (domain : List ℕ) : Type 0 where
  pub stays : TreeStays before after domain
  pub back : (member : Member) → InTreeOf after domain member → InTreeOf before domain member

module _ (before after : Registry) (same : (x : List ℕ) → domain_of after x ≡ domain_of before x) (domain : List ℕ) where
  steps : (x : List ℕ) → StepsStay before after x
  steps x = record { itself = same x; above = λ a higher. same a }

  -- the places in the tree are the same
  pub places_alike : (x : List ℕ) → IsAtOrAbove after domain x ↔ IsAtOrAbove before domain x
  places_alike x = (to, from)
    where
      to : IsAtOrAbove after domain x → IsAtOrAbove before domain x
      to (inl here) = inl here
      to (inr above) = inr ((above_stays before after x (steps x) domain).0 above)

      from : IsAtOrAbove before domain x → IsAtOrAbove after domain x
      from (inl here) = inl here
      from (inr above) = inr ((above_stays before after x (steps x) domain).1 above)

  -- what is in the tree is as before
  pub leaves_tree : ((member : Member) → IsMember before member → IsAtOrAbove before domain (member_place member) → IsMember after member)
      → ((member : Member) → IsMember after member → IsAtOrAbove before domain (member_place member) → IsMember before member) → LeavesTree before after domain
  leaves_tree there back = record {
    stays = record {
      members = λ member in_it. (there member in_it.0 in_it.1, (places_alike (member_place member)).1 in_it.1);
      line = line_stays before after domain (steps domain);
    };
    back = λ member in_it. (let at = (places_alike (member_place member)).0 in_it.1 in (back member in_it.0 at, at));
  }

-- the registry has the same entries, Executable Load Files, keys and data objects
pub same_lists_leave : (before after : Registry) → after.entries ≡ before.entries → after.files ≡ before.files → after.keys ≡ before.keys → after.objects ≡ before.objects
    → (domain : List ℕ) → LeavesTree before after domain
same_lists_leave before after entries files keys objects domain =
    leaves_tree before after (same_entries before after entries) domain there back
  where
    there : (member : Member) → IsMember before member → IsAtOrAbove before domain (member_place member) → IsMember after member
    there (AnEntry entry) is at = subst (λ (xs : List Entry). Contains xs entry) (sym entries) is
    there (AFile file) is at = subst (λ (xs : List LoadFile). Contains xs file) (sym files) is
    there (AKey key) is at = subst (λ (xs : List Key). Contains xs key) (sym keys) is
    there (AnObject object) is at = subst (λ (xs : List Object). Contains xs object) (sym objects) is

    back : (member : Member) → IsMember after member → IsAtOrAbove before domain (member_place member) → IsMember before member
    back (AnEntry entry) is at = subst (λ (xs : List Entry). Contains xs entry) entries is
    back (AFile file) is at = subst (λ (xs : List LoadFile). Contains xs file) files is
    back (AKey key) is at = subst (λ (xs : List Key). Contains xs key) keys is
    back (AnObject object) is at = subst (λ (xs : List Object). Contains xs object) objects is

-- entries outside of the tree are changed, in neither AID nor domain
module _ (registry : Registry) (these : List ℕ → Bool) (change : Entry → Entry)
    (keeps : (entry : Entry) → ((change entry).aid ≡ entry.aid) × ((change entry).domain ≡ entry.domain)) (domain : List ℕ)
    (outside : (x : List ℕ) → IsAtOrAbove registry domain x → these x ≡ false) where
  abbrev some : Entry → Entry
  some entry = cond (these entry.aid) (change entry) entry

  some_aid : (entry : Entry) → (some entry).aid ≡ entry.aid
  some_aid entry = cond_both (these entry.aid) (change entry) entry (λ (e : Entry). e.aid ≡ entry.aid) (λ _. (keeps entry).0) (λ _. refl)

  unchanged : (entry : Entry) → IsAtOrAbove registry domain entry.aid → some entry ≡ entry
  unchanged entry at = ap (λ b. cond b (change entry) entry) (outside entry.aid at)

  there : (member : Member) → IsMember registry member → IsAtOrAbove registry domain (member_place member) → IsMember (with_entries registry these change) member
  there (AnEntry entry) is at = subst (Contains (map some registry.entries)) (unchanged entry at) (contains_map some registry.entries entry is)
  there _ is at = is

  back : (member : Member) → IsMember (with_entries registry these change) member → IsAtOrAbove registry domain (member_place member) → IsMember registry member
  back (AnEntry entry) is at =
      let from = mapped some registry.entries entry is in
      let aid : from.0.aid ≡ entry.aid = sym (some_aid from.0) ∙ ap (λ (e : Entry). e.aid) from.2 in
      let same = unchanged from.0 (subst (IsAtOrAbove registry domain) (sym aid) at) in
      subst (Contains registry.entries) (sym same ∙ from.2) from.1
  back (AFile file) is at = is
  back _ is at = is

  pub entries_leave : LeavesTree registry (with_entries registry these change) domain
  entries_leave = leaves_tree registry (with_entries registry these change) (domains_after_change registry these change keeps) domain there back
