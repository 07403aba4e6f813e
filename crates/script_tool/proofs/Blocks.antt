-- The blocks of an Executable Load File, sent one after the other.
use Rattle.std.proofs.Common.{◌≡◌, ◌<◌, ◌+◌, ◌-◌, ◌*◌, ◌/◌, ◌%◌, min, ℕ, zero, suc, List, length, take, drop, Option, Some, Bool, false, eqb, eq-eqb, Result, Ok, Err, refl, sym, subst, ap, ◌∙◌, inl, inr, arith}
use Rattle.std.specs.Prelude.{IsErr}
use Rattle.std.proofs.lemmas.Bool.{cases_eq, ne_eqb}
use Rattle.std.proofs.lemmas.Grind.{div_ceil_times}
use Rattle.std.proofs.lemmas.List.{drop-drop}
use Rattle.std.proofs.lemmas.Nat.{div-mul-add}
use Rattle.apdu_core.specs.Apdu.{Apdu}
use Rattle.apdu_core.specs.declared.reply.Status.{Status}
use Rattle.scp03_card.specs.Session.{Session}
use Rattle.scp03_host.specs.Wrapped.{room_for}
use Rattle.script_tool.proofs.PlayedRules.{continues_on}
use Rattle.script_tool.specs.Host.{Host, own_session}
use Rattle.script_tool.specs.InSession.{for_session, protecting, with_some}
use Rattle.script_tool.specs.Kept.{RepresentsHost}
use Rattle.script_lines.specs.Load.{beginning_load, block_command}
use Rattle.script_tool.specs.Loading.{block_count, loading_all, loading_blocks, playing_load}
use Rattle.script_tool.specs.Played.{Continues, ContinuesWith, IsBroken, IsPlayed, Leads, Plays}
use Rattle.script_tool.specs.Printed.{Printed, Reply, Said, status_printed}
use Rattle.script_tool.specs.Talk.{Ends, Talk}
use Rattle.script_tool.specs.declared.host_state.HostState.{HostState}
use Rattle.script_tool.specs.declared.link.CardLink.{Ghosts as CardLink}
use Rattle.script_tool.specs.declared.link.LinkFailed.{LinkFailed}
use Rattle.script_lines.specs.declared.load_file.LoadFile.{LoadFile}
use Rattle.script_tool.specs.declared.printout.Printout.{Printout}

-- a quotient rounded up, said in two ways
rounded_up : (n k : ℕ) → 0 < k → n / k + min 1 (n % k) ≡ (n + k - 1) / k
rounded_up n k some =
    let q : ℕ = n / k + min 1 (n % k) in
    let bounds = div_ceil_times n k some in
    let rest : n + k - 1 - q * k < k = omega (arith, bounds) in
    let whole : q * k + (n + k - 1 - q * k) ≡ n + k - 1 = omega (arith, bounds) in
    sym (div-mul-add q k (n + k - 1 - q * k) rest) ∙ ap (λ (m : ℕ). m / k) whole

-- whether it is the last one
is_last : (number count : ℕ) → number < count → eqb (number + 1) count ≡ eqb (count - (number + 1)) 0
is_last number count lt = elim (cases_eq (number + 1) count) [
  | inl is ↦ eq-eqb (number + 1) count is ∙ sym (eq-eqb (count - (number + 1)) 0 (omega arith))
  | inr not ↦ ne_eqb (number + 1) count not ∙ sym (ne_eqb (count - (number + 1)) 0 (λ none. not (omega arith)))
]

abbrev pub is_done : Printed → Type 0
is_done printed = status_printed printed ≡ Some (record { 0 = 0x9000 })

-- the talk is at a block: so many are left, from a number on
abbrev pub AtBlock : {L : Type 0} → CardLink L → L → L → Talk → (size left number : ℕ) → List ℕ → HostState → Printed → Type 0
AtBlock link old new talk size left number bytes kept printed = ContinuesWith link old new talk (loading_blocks size left number bytes) kept printed

stops : (size left number : ℕ) (bytes : List ℕ) (host : Host) (body : List ℕ) (status : ℕ) → (status ≡ 0x9000 → ⊥)
    → loading_blocks size left number bytes host body status ≡ Ends (Reply body status) host
stops size zero number bytes host body status not = refl
stops size (suc left) number bytes host body status not = rw (ne_eqb status 0x9000 not) refl

-- a reply that is not 9000 ends the line
pub stopped : {L : Type 0} (link : CardLink L) (old new : L) (talk : Talk) (size left number : ℕ) (bytes : List ℕ) (kept : HostState) (printed : Printed)
    → (is_done printed → ⊥) → AtBlock link old new talk size left number bytes kept printed → IsPlayed link old new talk printed kept
stopped link old new talk size left number bytes kept (Reply body status) not at = record {
  host = at.0;
  leads = subst (Leads link old new talk) (stops size left number bytes at.0 body status (λ is. not (ap (λ (s : ℕ). status_printed (Reply body s)) is))) at.1;
  stands = at.2;
}
stopped link old new talk size left number bytes kept (Said word) not at = at
stopped link old new talk size left number bytes kept _ not at = absurd at

-- the last block's reply ends the line
pub all_sent : {L : Type 0} (link : CardLink L) (old new : L) (talk : Talk) (size number : ℕ) (bytes : List ℕ) (kept : HostState) (printed : Printed)
    → AtBlock link old new talk size 0 number bytes kept printed → IsPlayed link old new talk printed kept
all_sent link old new talk size number bytes kept (Reply body status) at = record { host = at.0; leads = at.1; stands = at.2 }
all_sent link old new talk size number bytes kept (Said word) at = at
all_sent link old new talk size number bytes kept _ at = absurd at

-- a command is sent in the session
abbrev pub Sent : {L : Type 0} → CardLink L → L → L → Apdu → HostState → HostState → Result Printout LinkFailed → Type 0
Sent link old new command kept after result =
    (whole : Host) (rest : Host → List ℕ → ℕ → Talk) → RepresentsHost kept whole
    → Continues link old new (for_session whole (λ session. protecting whole session false command rest)) rest after result

one_block : {L : Type 0} (link : CardLink L) (a b c : L) (talk : Talk) (size left number : ℕ) (bytes : List ℕ) (kept after : HostState) (printed : Printed)
    (result : Result Printout LinkFailed) → is_done printed → AtBlock link a b talk size (suc left) number bytes kept printed
    → Sent link b c (block_command (eqb left 0) number (take size bytes)) kept after result
    → Continues link a c talk (loading_blocks size left (number + 1) (drop size bytes)) after result
one_block link a b c talk size left number bytes kept after (Reply body status) result done at sends =
    let same : ◌≡◌ {A = Status} (record { 0 = status }) (record { 0 = 0x9000 }) = cc in
    let is : status ≡ 0x9000 = ap (λ (s : Status). s.0) same in
    let rest = loading_blocks size left (number + 1) (drop size bytes) in
    let mid : Talk = for_session at.0 (λ session. protecting at.0 session false (block_command (eqb left 0) number (take size bytes)) rest) in
    let leads : Leads link a b talk mid = subst (λ (s : ℕ). Leads link a b talk (loading_blocks size (suc left) number bytes at.0 body s)) is at.1 in
    continues_on link a b c talk mid rest after result leads (sends at.0 rest at.2)
one_block link a b c talk size left number bytes kept after (Said word) result done at sends = absurd (cc)
one_block link a b c talk size left number bytes kept after _ result done at sends = absurd at

-- the next block of those that a list makes
pub next_block : {L : Type 0} (link : CardLink L) (a b c : L) (talk : Talk) (size count number : ℕ) (bytes : List ℕ) (kept after : HostState) (printed : Printed)
    (result : Result Printout LinkFailed) (command : Apdu) (block : List ℕ) → number < count → is_done printed
    → command ≡ block_command (eqb (number + 1) count) number block → block ≡ take size (drop (number * size) bytes)
    → AtBlock link a b talk size (count - number) number (drop (number * size) bytes) kept printed → Sent link b c command kept after result
    → Continues link a c talk (loading_blocks size (count - (number + 1)) (number + 1) (drop ((number + 1) * size) bytes)) after result
next_block link a b c talk size count number bytes kept after printed result command block lt done is next at sends =
    let left : ℕ = count - (number + 1) in
    let here : List ℕ = drop (number * size) bytes in
    let more : count - number ≡ suc left = omega arith in
    let there : number * size + size ≡ (number + 1) * size = omega arith in
    let sent : command ≡ block_command (eqb left 0) number (take size here) =
    is ∙ ap (λ (last : Bool). block_command last number block) (is_last number count lt) ∙ ap (block_command (eqb left 0) number) next in
    subst (λ (bytes : List ℕ). Continues link a c talk (loading_blocks size left (number + 1) bytes) after result)
    (drop-drop size (number * size) bytes ∙ ap (λ (n : ℕ). drop n bytes) there)
    (one_block link a b c talk size left number here kept after printed result done (subst (λ (n : ℕ). AtBlock link a b talk size n number here kept printed) more at)
    (subst (λ (apdu : Apdu). Sent link b c apdu kept after result) sent sends))

-- it begins with the first one
pub first_block : {L : Type 0} (link : CardLink L) (old new : L) (talk : Talk) (size count : ℕ) (bytes : List ℕ) (kept : HostState) (printed : Printed)
    → 0 < size → count ≡ length bytes / size + min 1 (length bytes % size)
    → AtBlock link old new talk size (block_count size bytes) 0 bytes kept printed → AtBlock link old new talk size (count - 0) 0 (drop (0 * size) bytes) kept printed
first_block link old new talk size count bytes kept printed some is at =
    let all : block_count size bytes ≡ count - 0 = sym (rounded_up (length bytes) size some) ∙ sym is ∙ omega arith in
    let none : 0 ≡ 0 * size = omega arith in
    subst (λ (n : ℕ). AtBlock link old new talk size (count - 0) 0 (drop n bytes) kept printed) none
    (subst (λ (n : ℕ). AtBlock link old new talk size n 0 bytes kept printed) all at)

-- a link that failed
pub broken : {L : Type 0} (link : CardLink L) (old new : L) (talk : Talk) (kept : HostState) (result : Result Printout LinkFailed) → IsErr result
    → IsBroken link old new talk → Plays link old new talk kept result
broken link old new talk kept (Ok printout) is b = absurd (cc)
broken link old new talk kept (Err failed) is b = b

-- INSTALL for load, sent in the session of the channel, goes on with all blocks of its size
pub load_begun : {L : Type 0} (link : CardLink L) (old new : L) (whole : Host) (session : Session) (file : LoadFile) (command : Apdu) (size : ℕ) (kept : HostState)
    (result : Result Printout LinkFailed) → own_session whole ≡ Some session → command ≡ beginning_load whole.tokens file → size ≡ room_for session.level
    → ((rest : Host → List ℕ → ℕ → Talk) → Continues link old new (protecting whole session false command rest) rest kept result)
    → Continues link old new (playing_load whole file) (loading_all size file) kept result
load_begun link old new whole session file command size kept result own is room sent =
    let go = λ (s : Session). protecting whole s false (beginning_load whole.tokens file) (loading_all (room_for s.level) file) in
    subst (λ (o : Option Session). Continues link old new (with_some o whole go) (loading_all size file) kept result) (sym own)
    (subst (λ (n : ℕ). Continues link old new (protecting whole session false (beginning_load whole.tokens file) (loading_all n file)) (loading_all size file) kept result) room
    (subst (λ (c : Apdu). Continues link old new (protecting whole session false c (loading_all size file)) (loading_all size file) kept result) is (sent (loading_all size file))))
