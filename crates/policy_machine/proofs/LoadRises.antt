-- LOAD raises receipt numbers as it should: the last block is confirmed, and no other.
use Rattle.std.proofs.Common.{◌≡◌, ◌⊎◌, inl, inr, ℕ, List, refl, ap, sym, ◌∙◌, arith}
use Rattle.policy_machine.specs.Prelude.{Admitted, Effect, EndsLoad, Holds, LoadConfirms, LoadEffect, LoadGoesOn, LoadSession, Registry, about_load, delegated_management, loading, no_confirmation, with_block}
use Rattle.policy_machine.proofs.AnsweredRises.{AllRise, answered_rises, none_rises}
use Rattle.policy_machine.proofs.Lawful.{some_same}
use Rattle.policy_machine.proofs.NumbersKept.{same_numbers}
use Rattle.policy_machine.proofs.RisingForms.{IsRising}

module _ (admitted : Admitted) (done : Effect) (does : LoadEffect admitted done) where
  abbrev next : LoadSession
  next = with_block does.load does.size does.bytes

  told : (aids : List (List ℕ)) → LoadConfirms admitted aids → Holds admitted delegated_management × (aids ≡ about_load next)
  told aids (holds, last, in_load) =
      (holds, in_load.2 ∙ ap about_load (some_same in_load.0 does.load (sym in_load.1.0 ∙ does.on.0)))

  load_rises : LoadGoesOn admitted next done ⊎ EndsLoad admitted next done → AllRise admitted (LoadConfirms admitted) done
  load_rises (inl goes) =
      none_rises admitted (LoadConfirms admitted) done (λ aids domain key so receipter. (let last = so.1 in let more = goes.more in omega arith))
      (same_numbers admitted.at.registry done.state.registry (ap (λ (r : Registry). r.entries) goes.registry))
  load_rises (inr ends) =
      answered_rises (Holds admitted delegated_management) admitted (about_load next) ends.changed no_confirmation done (LoadConfirms admitted) told
      (λ holds. (holds, ends.last, (does.load, does.on, refl)))
      (same_numbers admitted.at.registry ends.changed (ap (λ (r : Registry). r.entries) ends.added.same)) ends.answered

pub load_rising : IsRising loading
load_rising = record {
  rises = λ admitted done ready judges does. load_rises admitted done does does.taken;
  status = λ admitted done aids does so. does.status;
}
