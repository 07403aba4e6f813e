-- The superblock, in store page 0: the letters GPCD, the number of the layout, and the life cycle state of the card.
use Rattle.std.specs.Prelude.{◌≡◌, ℕ, List, [], ◌∷◌, slice_index, slice_range}
use Rattle.card_types.specs.CardLife.{card_life_code}
use Rattle.card_types.specs.declared.card_life.CardLife.{CardLife}
use Rattle.rec_store.specs.StoreLayout.{layout_code}
use Rattle.rec_store.specs.declared.store_layout.Layout.{Layout}

pub record IsSuperblock (bytes : List ℕ) (layout : Layout) (life : CardLife) : Type 0 where
  pub letters : slice_range bytes 0 4 ≡ 0x47 ∷ 0x50 ∷ 0x43 ∷ 0x44 ∷ []
  pub number : slice_index bytes 4 ≡ layout_code layout
  pub code : slice_index bytes 5 ≡ card_life_code life
