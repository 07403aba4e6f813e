-- A command that is sent in plain, and its reply.
use Rattle.std.proofs.Common.{◌≡◌, ℕ, List, [], ◌∷◌, length, None, true, false, nat_lt, Result, Ok, Err, refl, sym, subst, ◌∙◌}
use Rattle.std.specs.Prelude.{MatchOption, if◌then◌else◌}
use Rattle.std.proofs.lemmas.Bool.{le-ltb, lt-ltb}
use Rattle.scp03_host.specs.Unwrapped.{status_in}
use Rattle.script_tool.proofs.TalkRules.{goes_nothing}
use Rattle.script_tool.specs.Host.{Host, with_own}
use Rattle.script_tool.specs.InPlain.{after_select, body_in, has_selected, reading, send_in_plain}
use Rattle.script_tool.specs.InSession.{printing}
use Rattle.script_tool.specs.Kept.{RepresentsHost, printed_of}
use Rattle.script_tool.specs.Link.{Conveys}
use Rattle.script_tool.specs.Played.{Continues, ContinuesWith, IsPlayed, IsReadInPlain, Leads, Plays}
use Rattle.script_tool.specs.Printed.{Printed, Reply, Said, status_printed}
use Rattle.script_tool.specs.Talk.{Answered, Ends, Goes, Talk}
use Rattle.script_tool.specs.declared.host_state.HostState.{HostState}
use Rattle.script_tool.specs.declared.link.CardLink.{Ghosts as CardLink}
use Rattle.script_tool.specs.declared.link.LinkFailed.{LinkFailed}
use Rattle.script_tool.specs.declared.printout.Printout.{Printout}
use Rattle.script_tool.specs.declared.word.Word.TheVariants.{NoSession, Short}

-- one command, after whose reply the talk is another
answered : {L : Type 0} (link : CardLink L) (old new : L) (whole : Host) (bytes reply : List ℕ) (rest : Host → List ℕ → ℕ → Talk) (left : Talk)
    → Conveys link old new (Answered bytes reply ∷ []) → reading whole reply rest ≡ left → Leads link old new (send_in_plain whole bytes rest) left
answered link old new whole bytes reply rest left conveyed is = record {
  events = Answered bytes reply ∷ [];
  goes = (refl, subst (λ t. Goes t [] left) (sym is) (goes_nothing left));
  conveyed = conveyed;
}

pub plain_continues : {L : Type 0} (link : CardLink L) (old new : L) (whole : Host) (bytes reply : List ℕ) (rest : Host → List ℕ → ℕ → Talk)
    (kept : HostState) (printed : Printed) → Conveys link old new (Answered bytes reply ∷ []) → RepresentsHost kept whole → IsReadInPlain reply printed
    → ContinuesWith link old new (send_in_plain whole bytes rest) rest kept printed
plain_continues link old new whole bytes reply rest kept (Reply body status) conveyed represents is =
    let e : nat_lt (length reply) 2 ≡ false = le-ltb (length reply) 2 is.0 in
    let read : reading whole reply rest ≡ rest whole (body_in reply) (status_in reply) = rw (e) refl in
    let same : rest whole (body_in reply) (status_in reply) ≡ rest whole body status = λ i. rest whole (sym is.1 i) (sym is.2 i) in
    (whole, answered link old new whole bytes reply rest (rest whole body status) conveyed (read ∙ same), represents)
plain_continues link old new whole bytes reply rest kept (Said Short) conveyed represents is =
    let e : nat_lt (length reply) 2 ≡ true = lt-ltb (length reply) 2 is in
    let read : reading whole reply rest ≡ Ends (Said Short) whole = rw (e) refl in
    record { host = whole; leads = answered link old new whole bytes reply rest (Ends (Said Short) whole) conveyed read; stands = represents }
plain_continues link old new whole bytes reply rest kept (Said NoSession) conveyed represents is = absurd is
plain_continues link old new whole bytes reply rest kept _ conveyed represents is = absurd is

prints : {L : Type 0} (link : CardLink L) (old new : L) (talk : Talk) (kept : HostState) (printed : Printed) → ContinuesWith link old new talk printing kept printed
    → IsPlayed link old new talk printed kept
prints link old new talk kept (Reply body status) x = record { host = x.0; leads = x.1; stands = x.2 }
prints link old new talk kept (Said word) x = x
prints link old new talk kept _ x = absurd x

-- a line that prints the reply to its one command
pub continues_plays : {L : Type 0} (link : CardLink L) (old new : L) (talk : Talk) (kept : HostState) (result : Result Printout LinkFailed)
    → Continues link old new talk printing kept result → Plays link old new talk kept result
continues_plays link old new talk kept (Ok printout) x = prints link old new talk kept (printed_of printout) x
continues_plays link old new talk kept (Err failed) x = x

-- SELECT, by what it was answered
pub select_played : {L : Type 0} (link : CardLink L) (old new : L) (talk : Talk) (kept kept' : HostState) (printed : Printed)
    → ContinuesWith link old new talk after_select kept printed
    → MatchOption (status_printed printed) (kept' ≡ kept)
    (λ status. (whole : Host) → RepresentsHost kept whole → RepresentsHost kept' (if has_selected status.0 then with_own None whole else whole))
    → IsPlayed link old new talk printed kept'
select_played link old new talk kept kept' (Reply body status) x y = record {
  host = if has_selected status then with_own None x.0 else x.0;
  leads = x.1;
  stands = y x.0 x.2;
}
select_played link old new talk kept kept' (Said word) x y = subst (λ (k : HostState). IsPlayed link old new talk (Said word) k) (sym y) x
select_played link old new talk kept kept' _ x y = absurd x
