-- Where something was found for a tag, there is such data.
use Rattle.std.proofs.Common.{◌≡◌, ◌≢◌, ℕ, List, [], ◌∷◌, ◌++◌, None, Some, refl, sym, subst, ◌∙◌, inl, inr, length, arith}
use Rattle.std.specs.Prelude.{map}
use Rattle.policy_rules.specs.Prelude.{Admitted, AreElements, AsksFor, HasData, IsFor, Represents, Spelling, Well, domain_aid, key_information, key_of, selected_on, tag_of, thing_in}
use Rattle.card_types.specs.Registry as registry
use Rattle.card_types.specs.declared.tables.Entry.{Entry}
use Rattle.card_types.specs.declared.tables.Tables.{Tables}
use Rattle.policy_rules.specs.declared.get_data.Datum.{Datum}
use Rattle.policy_rules.specs.declared.get_data.Datum.TheVariants.{Keys, Counter, Object}
use Rattle.policy_slots.proofs.OwnKeys.{keys_are, keys_from_next, next_named}

key_spelled : (key : registry.Key) → (bytes : List ℕ) × Spelling 0xC0 (key.identifier ∷ key.version ∷ 0x88 ∷ length key.bytes ∷ []) bytes
key_spelled key = (
  _,
  record {
    tag_field = 0xC0 ∷ [];
    length_field = 4 ∷ [];
    is_tag = (refl, omega arith, (λ zero. absurd (omega arith)), (λ on. absurd (omega arith)));
    is_length = (refl, omega arith);
    joined = refl;
  },
)

keys_spelled : (keys : List registry.Key) → (bytes : List ℕ) × AreElements (map key_information keys) bytes
keys_spelled [] = ([], refl)
keys_spelled (key ∷ keys) =
    let first = key_spelled key in
    let rest = keys_spelled keys in
    (first.0 ++ rest.0, (first.0, rest.0, first.1, rest.1, refl))

cons_not_nil : (x : registry.Key) (xs : List registry.Key) → x ∷ xs ≢ []
cons_not_nil x xs same = cc

module _ (page : ℕ → List ℕ) (tables : Tables) (said : registry.Registry) (says : Represents page tables said) (well : Well said)
    (domain : ℕ) (entry : Entry) (at : thing_in tables.entries.items domain ≡ Some entry) where
  abbrev aid : List ℕ
  aid = domain_aid tables.entries.items domain

  pub has_data : (tag : ℕ) (found : Datum) → IsFor tables said domain tag found → (value : List ℕ) × HasData said aid tag value
  has_data tag (Keys first) is =
      (let at_slot = is.2 in
      let next = next_named page tables said says well domain entry at None None at_slot.0 first.now tt at_slot.1 in
      let keys = keys_are page tables said says well domain entry at ∙ keys_from_next page tables said says well domain entry at None (key_of tables.entries.items first.now) next in
      let spelled = keys_spelled (registry.keys_of said aid) in
      (spelled.0, inl (is.0, ((λ none. cons_not_nil _ _ (sym keys ∙ none)), spelled.1))))
  has_data tag (Counter number) is = (_, inr (inl (is.0, is.2)))
  has_data tag (Object object) is = (object.now.value.items, inr (inr (is.0, is.1, is.4)))

-- what the command asks for, for the domain that is selected
module _ (admitted : Admitted) (domain : List ℕ) (tag : ℕ) (value : List ℕ) (on : selected_on admitted.at.volatile admitted.channel ≡ domain)
    (means : tag ≡ tag_of admitted.command.p1 admitted.command.p2) where
  pub asks : HasData admitted.at.registry domain tag value → AsksFor admitted value
  asks has =
      subst (λ (t : ℕ). HasData admitted.at.registry (selected_on admitted.at.volatile admitted.channel) t value) means
      (subst (λ (a : List ℕ). HasData admitted.at.registry a tag value) (sym on) has)

  pub asked_for : AsksFor admitted value → HasData admitted.at.registry domain tag value
  asked_for asked =
      subst (λ (a : List ℕ). HasData admitted.at.registry a tag value) on
      (subst (λ (t : ℕ). HasData admitted.at.registry (selected_on admitted.at.volatile admitted.channel) t value) (sym means) asked)
