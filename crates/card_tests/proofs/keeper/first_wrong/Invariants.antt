use Rattle.card_tests.proofs.keeper.first_wrong.Given as goal

abbrev pub invariant-loop-number : goal.invariant-loop-number
invariant-loop-number g l = g.R.RecordKeeper.roomy l.keeper
