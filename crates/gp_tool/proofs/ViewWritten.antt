-- What was written of a view, by what was written of the registry or of the rights.
use Rattle.std.proofs.Common.{◌≡◌, ℕ, ◌++◌, take, Result, Ok, Err, refl}
use Rattle.std.specs.Prelude.{OnErr, OnOk}
use Rattle.card_types.specs.Registry.{Registry}
use Rattle.io_edge.specs.Streams.{SinkState}
use Rattle.gp_tool.specs.Show.{registry_text}
use Rattle.gp_tool.specs.Shown.{WritesFront, WritesWhole}
use Rattle.gp_tool.specs.declared.view.View.TheVariants as view

-- where both tell their content
module _ (flash writes : Type 0) (registry : Registry) (old new : SinkState) where
  pub registry_written : {E : Type 0} (result : Result (Unit {0}) E) → (flash → writes → OnOk result (new.written ≡ old.written ++ registry_text registry))
      → OnOk result (WritesWhole view.Registry (flash × writes) registry old new)
  registry_written (Ok done) wrote = (registry_text registry, refl, λ t. wrote t.0 t.1)
  registry_written (Err fault) wrote = tt

  pub registry_part : {E : Type 0} (result : Result (Unit {0}) E) → (flash → writes → OnErr result ((n : ℕ) × (new.written ≡ old.written ++ take n (registry_text registry))))
      → OnErr result (WritesFront view.Registry (flash × writes) registry old new)
  registry_part (Ok done) part = tt
  registry_part (Err fault) part = (registry_text registry, refl, λ t. part t.0 t.1)

  -- the lines of rights, where the sink alone need tell
  pub rights_written : WritesWhole view.Rights writes registry old new → WritesWhole view.Rights (flash × writes) registry old new
  rights_written (text, whole, wrote) = (text, whole, λ t. wrote t.1)

  pub rights_part : {E : Type 0} (result : Result (Unit {0}) E) → WritesFront view.Rights writes registry old new → OnErr result (WritesFront view.Rights (flash × writes) registry old new)
  rights_part (Ok done) front = tt
  rights_part (Err fault) (text, front, part) = (text, front, λ t. part t.1)
