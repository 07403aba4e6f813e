-- The statuses of endings.
use Rattle.std.proofs.Common.{◌≢◌, arith}
use Rattle.line_runs.specs.declared.exit.Ending.{Ending}
use Rattle.line_runs.specs.declared.exit.Ending.TheVariants.{Finished}
use Rattle.line_runs.specs.Exit.{exit_status, status_with}

-- none is that of words without a form, of a card that was not powered on, or of want of memory
pub never_others : (ending : Ending) → (exit_status ending ≢ 1) × (exit_status ending ≢ 4) × (exit_status ending ≢ 7)
never_others Finished = (λ is. omega (arith, is), λ is. omega (arith, is), λ is. omega (arith, is))
never_others _ = (λ is. omega (arith, is), λ is. omega (arith, is), λ is. omega (arith, is))

-- none of a desk's is that of want of memory
pub desk_never : (ending : Ending) → status_with 10 ending ≢ 7
desk_never Finished is = omega (arith, is)
desk_never _ is = omega (arith, is)
