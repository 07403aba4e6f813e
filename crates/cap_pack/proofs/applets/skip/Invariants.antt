use Rattle.cap_pack.proofs.AppletLists.{Passed}
use Rattle.cap_pack.proofs.applets.skip.Given as goal

abbrev pub invariant-loop : goal.invariant-loop
invariant-loop l = Passed l.counter l.rest l.bytes
