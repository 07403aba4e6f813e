-- What is around a card.

-- A source, a sink and a device, or one thing of each. `format`, `show` and `mill` read nothing, and have `tt` for a source.
pub record Around (S K F : Type 0) : Type 0 where
  pub source : S
  pub sink : K
  pub flash : F

abbrev pub around : {S K F : Type 0} → S → K → F → Around S K F
around source sink flash = record { source = source; sink = sink; flash = flash }
