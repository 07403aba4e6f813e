-- All blocks that are left are taken.
use Rattle.std.proofs.Common.{ℕ, zero, suc, ◌+◌, ◌<◌, ◌≤◌, ◌==◌, List, ◌++◌, length, drop, true, Option, Some, refl, arith}
use Rattle.std.proofs.lemmas.Bool.{ne_eqb}
use Rattle.policy_machine.specs.State.{State}
use Rattle.scp03_card.specs.Session.{Session}
use Rattle.script_tool.specs.Load.{load_blocks}
use Rattle.cap_pack.proofs.BlockTaken.{ends_there, more_comes}
use Rattle.cap_pack.proofs.BlocksBrought.{AreLeft, left_after}
use Rattle.cap_pack.proofs.Coming.{Comes, file_with}
use Rattle.cap_pack.proofs.Reaching.{Leads}

pub blocks_loaded : (channel : ℕ) (file domain bytes : List ℕ) (left : ℕ) (state : State) (session : Session) (announced : Option ℕ) (so_far rest : List ℕ) (blocks : ℕ)
    → Comes state channel session file domain bytes announced so_far rest blocks → AreLeft left rest → blocks + left ≤ 256
    → Leads channel (file_with file domain bytes) state session (load_blocks 239 left blocks rest)
blocks_loaded channel file domain bytes zero state session announced so_far rest blocks comes are few =
    absurd (let some = comes.some in let none = are.few in omega (arith, some, none))
blocks_loaded channel file domain bytes (suc zero) state session announced so_far rest blocks comes are few =
    ends_there state channel session file domain bytes announced so_far rest blocks comes true (λ is. (let short = are.few in omega (arith, short))) refl
blocks_loaded channel file domain bytes (suc (suc left)) state session announced so_far rest blocks comes are few =
    let more = ne_eqb (suc left) 0 (λ none. omega (arith, none)) in
    let longer : 239 < length rest = (let many = are.more in omega (arith, many)) in
    let goes = more_comes state channel session file domain bytes announced so_far rest blocks comes (suc left == 0) (λ is. absurd (let clash = more in cc)) more longer (omega (arith, few)) in
    goes.leads (load_blocks 239 (suc left) (blocks + 1) (drop 239 rest))
    (blocks_loaded channel file domain bytes (suc left) goes.next _ (Some (length bytes)) (so_far ++ goes.piece) (drop 239 rest) (blocks + 1) goes.comes (left_after left rest are)
    (omega (arith, few)))
