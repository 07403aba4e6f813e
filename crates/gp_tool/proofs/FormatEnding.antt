-- How the verb `format` ends after its flush.
use Rattle.std.proofs.Common.{◌≡◌, ℕ, refl, sym, subst, inl, inr}
use Rattle.faults.specs.Faults.{Rose}
use Rattle.flash_core.specs.declared.flash.Flash.{Ghosts as Flash}
use Rattle.io_edge.specs.Streams.{SinkState}
use Rattle.line_runs.specs.Exit.{exit_status}
use Rattle.gp_tool.specs.Around.{Around}
use Rattle.gp_tool.specs.Ends.{EndCause}
use Rattle.gp_tool.specs.Flush.{AfterFlush}
use Rattle.gp_tool.specs.Formatted.{FormatEnds, IsFactoryCard}
use Rattle.line_runs.specs.declared.exit.Ending.{Ending}
use Rattle.line_runs.specs.declared.exit.Ending.TheVariants.{Finished, Failed, WriteFault}

module _ {F : Type 0} (device : Flash F) (writes : Type 0) (flash : F) (old new : SinkState) (same : writes → new.written ≡ old.written) where
  -- the device is the factory card
  pub format_done : (result : Ending) → AfterFlush writes Finished old new result → IsFactoryCard device flash → FormatEnds device writes result flash old new
  format_done result (inl done) card = subst (λ ending. FormatEnds device writes ending flash old new) (sym done.0) (card, same)
  format_done result (inr refused) card = subst (λ ending. FormatEnds device writes ending flash old new) (sym refused.0) (card, same, refused.1)

  -- the device failed
  pub format_failed : (result : Ending) → AfterFlush writes Failed old new result → FormatEnds device writes result flash old new
  format_failed result behind = subst (λ ending. FormatEnds device writes ending flash old new) (sym behind.0) same

-- where nothing fails all is done
pub formats_all : {F : Type 0} (device : Flash F) (writes : Type 0) (flash : F) (old new : SinkState) (before after : Around ℕ ℕ ℕ) (ending : Ending) → FormatEnds device writes ending flash old new → EndCause ending before after
    → (Rose before.sink after.sink → ⊥) → (Rose before.flash after.flash → ⊥) → exit_status ending ≡ 0
formats_all device writes flash old new before after Finished ends cause no_sink no_device = refl
formats_all device writes flash old new before after Failed ends cause no_sink no_device = absurd (no_device cause.2)
formats_all device writes flash old new before after WriteFault ends cause no_sink no_device = absurd (no_sink cause.1)
formats_all device writes flash old new before after _ ends cause no_sink no_device = absurd ends
