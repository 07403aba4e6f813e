-- What the tables of a card say after a sequence counter rose.
use Rattle.std.proofs.Common.{◌≡◌, ℕ, ◌<◌, ◌∙◌, List, true, Some, sym, subst}
use Rattle.std.specs.Prelude.{slice_set}
use Rattle.card_types.proofs.DrawnCounter.{drawn_next, drawn_says, drawn_well}
use Rattle.card_core.specs.Prelude.{AreCards, Contents, HasNextCounter, Raises, Registry, Represents, SameElse, SetsKey, Well, domain_aid, keeps_counter, raised_key, thing_in, with_counter_raised}
use Rattle.card_types.specs.declared.limits.TheConstants.{COUNTER_LIMIT}
use Rattle.card_types.specs.declared.tables.KeyRec.{KeyRec}
use Rattle.card_types.specs.declared.tables.Tables.{Tables}
use Rattle.card_core.proofs.Cards.{drawn_cards}

some_is : {A : Type 0} (a b : A) → Some a ≡ Some b → a ≡ b
some_is a b same = cc

module _ {F : Type 0} (old new : Contents F) (same : SameElse old new) (tables : Tables) (is : tables ≡ old.tables) (slot : ℕ) (key : KeyRec)
    (found : thing_in tables.keys.items slot ≡ Some key) (follows : HasNextCounter tables.keys.items slot)
    (raises : Raises slot old.tables.keys.items new.tables.keys.items) where
  at : thing_in old.tables.keys.items slot ≡ Some key
  at = subst (λ (t : Tables). thing_in t.keys.items slot ≡ Some key) is found

  next : (keeps_counter key ≡ true) × (key.counter < COUNTER_LIMIT)
  next = drawn_next tables.keys.items slot key found follows

  keys : new.tables.keys.items ≡ slice_set old.tables.keys.items slot (Some (raised_key key))
  keys =
      subst (λ (k : KeyRec). new.tables.keys.items ≡ slice_set old.tables.keys.items slot (Some (raised_key k)))
      (some_is raises.key key (sym raises.at ∙ at)) raises.raised

  set : SetsKey old.tables new.tables slot (Some (raised_key key))
  set = record { life = same.life; entries = same.entries; files = same.files; keys = keys; objects = same.objects }

  -- they are a card's
  pub raised_are_cards : AreCards old.tables → AreCards new.tables
  raised_are_cards = drawn_cards old.tables new.tables slot key at next.0 set next.1

  -- the tables say the registry with that counter one higher
  module _ (page : ℕ → List ℕ) (said : Registry) (says : Represents page old.tables said) where
    pub says_raised : Represents page new.tables (with_counter_raised said (domain_aid tables.entries.items key.owner) key.version)
    says_raised =
        subst (λ (t : Tables). Represents page new.tables (with_counter_raised said (domain_aid t.entries.items key.owner) key.version)) (sym is)
        (drawn_says old.tables new.tables slot key at next.0 set page said says)

    pub raised_well : Well said → Well (with_counter_raised said (domain_aid tables.entries.items key.owner) key.version)
    raised_well well =
        subst (λ (t : Tables). Well (with_counter_raised said (domain_aid t.entries.items key.owner) key.version)) (sym is)
        (drawn_well old.tables new.tables slot key at next.0 set page said says next.1 well)
