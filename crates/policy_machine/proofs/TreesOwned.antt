-- The tree of a domain where keys, data objects or Executable Load Files are put or taken that are not in it.
use Rattle.std.proofs.Common.{◌≡◌, ◌≢◌, inl, inr, ℕ, Bool, false, List, ◌++◌, sym, subst}
use Rattle.std.specs.Prelude.{Contains, filter, not}
use Rattle.std.specs.List.Sorted.{IsPermutation}
use Rattle.std.proofs.lemmas.Bool.{not_from_false}
use Rattle.std.proofs.lemmas.List.Elements.{Contains-append_cases, Contains-append_right}
use Rattle.std.proofs.lemmas.List.Sorted.{Contains-permutation, IsPermutation-sym}
use Rattle.card_types.proofs.Members.{contains_filter, filtered}
use Rattle.policy_machine.specs.Prelude.{AFile, AKey, Admitted, AnEntry, AnObject, Entry, IsAtOrAbove, IsMember, Key, LoadFile, Member, Object, Registry, acting, member_place}
use Rattle.policy_machine.proofs.TreeKept.{AreApart, SparesTree, out_of_reach, spares_left}
use Rattle.policy_machine.proofs.TreesAlike.{leaves_tree, same_entries}

-- the second list has what the first has, but for what belongs to the acting domain
pub record SameOfOthers {X : Type 0} (owner : X → List ℕ) (acting : List ℕ) (before after : List X) : Type 0 where
  pub there : (x : X) → Contains before x → owner x ≢ acting → Contains after x
  pub back : (x : X) → Contains after x → owner x ≢ acting → Contains before x

module _ (admitted : Admitted) (domain : List ℕ) (apart : AreApart admitted domain) (after : Registry) where
  abbrev before : Registry
  before = admitted.at.registry

  -- what is in the tree belongs to another domain than the acting one
  another : (owner : List ℕ) → IsAtOrAbove before domain owner → owner ≢ acting admitted
  another owner at same = out_of_reach admitted domain apart owner at (inl same)

  -- with the same entries, the same files but for those at or below the acting domain, and the same keys and objects of other owners
  pub owned_spared : (entries : after.entries ≡ before.entries)
      → ((file : LoadFile) → Contains before.files file → Contains after.files file)
      → ((file : LoadFile) → Contains after.files file → IsAtOrAbove before domain file.domain → Contains before.files file)
      → SameOfOthers (λ (key : Key). key.owner) (acting admitted) before.keys after.keys
      → SameOfOthers (λ (object : Object). object.owner) (acting admitted) before.objects after.objects
      → SparesTree admitted after domain
  owned_spared entries files_there files_back keys objects =
      let same = same_entries before after entries in
      spares_left admitted domain apart after same (leaves_tree before after same domain there back)
    where
      there : (member : Member) → IsMember before member → IsAtOrAbove before domain (member_place member) → IsMember after member
      there (AnEntry entry) is at = subst (λ (es : List Entry). Contains es entry) (sym entries) is
      there (AFile file) is at = files_there file is
      there (AKey key) is at = keys.there key is (another key.owner at)
      there (AnObject object) is at = objects.there object is (another object.owner at)

      back : (member : Member) → IsMember after member → IsAtOrAbove before domain (member_place member) → IsMember before member
      back (AnEntry entry) is at = subst (λ (es : List Entry). Contains es entry) entries is
      back (AFile file) is at = files_back file is at
      back (AKey key) is at = keys.back key is (another key.owner at)
      back (AnObject object) is at = objects.back object is (another object.owner at)

module _ {X : Type 0} (owner : X → List ℕ) (acting : List ℕ) where
  -- a list that stays
  pub same_list : (old new : List X) → new ≡ old → SameOfOthers owner acting old new
  same_list old new same = record {
    there = λ x is other. subst (λ (xs : List X). Contains xs x) (sym same) is;
    back = λ x is other. subst (λ (xs : List X). Contains xs x) same is;
  }

  -- one that stays so twice, or in another order
  pub same_then : (old next new : List X) → SameOfOthers owner acting old next → SameOfOthers owner acting next new → SameOfOthers owner acting old new
  same_then old next new one another = record {
    there = λ x is other. another.there x (one.there x is other) other;
    back = λ x is other. one.back x (another.back x is other) other;
  }

  pub same_arranged : (old next new : List X) → SameOfOthers owner acting old next → IsPermutation next new → SameOfOthers owner acting old new
  same_arranged old next new one arranged = record {
    there = λ x is other. Contains-permutation next new x arranged (one.there x is other);
    back = λ x is other. one.back x (Contains-permutation new next x (IsPermutation-sym next new arranged) is) other;
  }

  -- things of the acting domain go, and others of it come
  pub same_replaced : (goes : X → Bool) (added old : List X) → ((x : X) → owner x ≢ acting → goes x ≡ false) → ((x : X) → Contains added x → owner x ≡ acting)
      → SameOfOthers owner acting old (added ++ filter (λ x. not (goes x)) old)
  same_replaced goes added old left own = record {
    there = λ x is other.
        Contains-append_right added (filter (λ y. not (goes y)) old) x
        (contains_filter (λ y. not (goes y)) old x is (not_from_false (goes x) (left x other)));
    back = λ x is other. elim (Contains-append_cases added (filter (λ y. not (goes y)) old) x is) [
      | inl new ↦ absurd (other (own x new))
      | inr kept ↦ (filtered (λ y. not (goes y)) old x kept).0
    ];
  }
