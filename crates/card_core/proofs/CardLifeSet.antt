-- Tables in which the card is in another life cycle state.
use Rattle.std.proofs.Common.{◌≡◌, ℕ, List, length, refl, ap, sym, subst}
use Rattle.card_types.proofs.LifeChanges.{card_life_keeps}
use Rattle.card_core.specs.Prelude.{AreCards, Registry, Represents, with_card_life}
use Rattle.card_types.specs.declared.card_life.CardLife.{CardLife}
use Rattle.card_types.specs.declared.tables.Tables.{Tables}
use Rattle.card_core.proofs.Cards.{cards_after}

module _ (before after : Tables) (life : CardLife) (is : after ≡ record before { life = life }) where
  pub card_life_says : (page : ℕ → List ℕ) (said : Registry) → Represents page before said → Represents page after (with_card_life said life)
  card_life_says page said says = subst (λ (t : Tables). Represents page t (with_card_life said life)) (sym is) (record {
    life = refl;
    entries = says.entries;
    files = says.files;
    keys = says.keys;
    counters = says.counters;
    objects = says.objects;
    ascending = record {
      entries = says.ascending.entries;
      files = says.ascending.files;
      keys = says.ascending.keys;
      counters = says.ascending.counters;
      objects = says.ascending.objects;
    };
  })

  pub card_life_cards : AreCards before → AreCards after
  card_life_cards =
      cards_after before after (ap (λ (t : Tables). t.entries.items) is) (ap (λ (t : Tables). t.files.items) is)
      (ap (λ (t : Tables). length t.keys.items) is) (ap (λ (t : Tables). length t.objects.items) is)
      (λ page said says well. (
        with_card_life said life,
        card_life_says page said says,
        (card_life_keeps said life (record { well = well; ascending = says.ascending })).well,
      ))
