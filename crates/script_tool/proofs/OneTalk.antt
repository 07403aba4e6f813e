-- A talk whose replies are the same has one end.
use Rattle.std.proofs.Common.{◌≡◌, ℕ, List, [], ◌∷◌, refl, sym, subst, ap, ◌∙◌, inl, inr}
use Rattle.policy_machine.proofs.OneOutcome.{one_outcome}
use Rattle.policy_machine.specs.State.{State, powered_on}
use Rattle.policy_machine.specs.Step.{Outcome, Step}
use Rattle.scp03_card.specs.Session.{Session}
use Rattle.scp03_host.proofs.AgreementLemmas.{one_plain_reply}
use Rattle.scp03_host.specs.declared.refusals.ReplyRefusal.{ReplyRefusal}
use Rattle.scp03_host.specs.declared.refusals.ReplyRefusal.TheVariants.{Short, Mac, Padding}
use Rattle.script_tool.specs.Host.{Host}
use Rattle.script_tool.specs.Link.{LeadOn}
use Rattle.script_tool.specs.Once.{OneTalk}
use Rattle.script_tool.specs.Printed.{Printed}
use Rattle.script_tool.specs.Talk.{Answered, Ends, Event, Goes, IsReplyTaken, IsWhy, Plain, Refused, Reset, Resets, Sends, Taken, Takes, Talk}

why_once : (session : Session) (reply : List ℕ) (a b : ReplyRefusal) → IsWhy session reply a → IsWhy session reply b → a ≡ b
why_once session reply Short Short x y = refl
why_once session reply Short Mac x y = absurd (y.0 x)
why_once session reply Short Padding x y = absurd (y.0 x)
why_once session reply Mac Short x y = absurd (x.0 y)
why_once session reply Mac Mac x y = refl
why_once session reply Mac Padding x y = absurd (x.1 y.1)
why_once session reply Padding Short x y = absurd (x.0 y)
why_once session reply Padding Mac x y = absurd (y.1 x.1)
why_once session reply Padding Padding x y = refl

-- a reply is taken for one thing
taken_once : (session : Session) (reply : List ℕ) (a b : Taken) → IsReplyTaken session reply a → IsReplyTaken session reply b → a ≡ b
taken_once session reply (Plain body status) (Plain other another) x y =
    (let same = one_plain_reply session reply body other status another x y in λ i. Plain (same.0 i) (same.1 i))
taken_once session reply (Plain body status) (Refused why) x y = absurd (y.0 body status x)
taken_once session reply (Refused why) (Plain body status) x y = absurd (x.0 body status y)
taken_once session reply (Refused why) (Refused other) x y = ap Refused (why_once session reply why other x.1 y.1)

abbrev printed_at : Printed → Talk → Printed
printed_at other (Ends printed host) = printed
printed_at other _ = other

abbrev host_at : Host → Talk → Host
host_at other (Ends printed host) = host
host_at other _ = other

-- two ends that are the same print the same and leave the same host
same_end : (p q : Printed) (a b : Host) → Ends p a ≡ Ends q b → (p ≡ q) × (a ≡ b)
same_end p q a b is = (ap (printed_at p) is, ap (host_at a) is)

abbrev is_end : Talk → Type 0
is_end (Ends printed host) = Unit {0}
is_end _ = ⊥

-- an end is nothing else
no_reset : (p : Printed) (a : Host) (rest : Talk) → Ends p a ≡ Resets rest → ⊥
no_reset p a rest is = subst is_end is tt

no_send : (p : Printed) (a : Host) (bytes : List ℕ) (rest : List ℕ → Talk) → Ends p a ≡ Sends bytes rest → ⊥
no_send p a bytes rest is = subst is_end is tt

no_take : (p : Printed) (a : Host) (session : Session) (reply : List ℕ) (rest : Taken → Talk) → Ends p a ≡ Takes session reply rest → ⊥
no_take p a session reply rest is = subst is_end is tt

pub one_talk : OneTalk
one_talk (Ends printed host) state last another [] [] p q a b x lead y again =
    (let same = same_end p q a b (x ∙ sym y) in (refl, same.0, same.1, lead ∙ sym again))
one_talk (Ends printed host) state last another [] (f ∷ fs) p q a b x lead y again = absurd y
one_talk (Ends printed host) state last another (e ∷ es) fs p q a b x lead y again = absurd x
one_talk (Resets rest) state last another [] fs p q a b x lead y again = absurd (no_reset p a rest x)
one_talk (Resets rest) state last another (Answered c r ∷ es) fs p q a b x lead y again = absurd x
one_talk (Resets rest) state last another (Reset ∷ es) [] p q a b x lead y again = absurd (no_reset q b rest y)
one_talk (Resets rest) state last another (Reset ∷ es) (Answered c r ∷ fs) p q a b x lead y again = absurd y
one_talk (Resets rest) state last another (Reset ∷ es) (Reset ∷ fs) p q a b x lead y again =
    let same = one_talk rest (powered_on state.registry) last another es fs p q a b x lead y again in
    (ap (λ (all : List Event). Reset ∷ all) same.0, same.1, same.2, same.3)
one_talk (Sends bytes rest) state last another [] fs p q a b x lead y again = absurd (no_send p a bytes rest x)
one_talk (Sends bytes rest) state last another (Reset ∷ es) fs p q a b x lead y again = absurd x
one_talk (Sends bytes rest) state last another (Answered c r ∷ es) [] p q a b x lead y again = absurd (no_send q b bytes rest y)
one_talk (Sends bytes rest) state last another (Answered c r ∷ es) (Reset ∷ fs) p q a b x lead y again = absurd y
one_talk (Sends bytes rest) state last another (Answered c r ∷ es) (Answered d s ∷ fs) p q a b x (mid, (one, step, said, is), more) y (mid', (other, step', said', is'), more') =
    let commands : d ≡ c = y.0 ∙ sym x.0 in
    let same = one_outcome state c one other step (subst (λ (k : List ℕ). Step state k other) commands step') in
    let replies : s ≡ r = said' ∙ ap (λ (k : Outcome). k.reply) (sym same) ∙ sym said in
    let states : mid' ≡ mid = is' ∙ ap (λ (k : Outcome). k.state) (sym same) ∙ sym is in
    let goes : Goes (rest r) fs (Ends q b) = subst (λ (k : List ℕ). Goes (rest k) fs (Ends q b)) replies y.1 in
    let there : LeadOn mid fs another = subst (λ (k : State). LeadOn k fs another) states more' in
    let ends = one_talk (rest r) mid last another es fs p q a b x.1 more goes there in
    let events = ends.0 in
    (λ i. Answered (sym commands i) (sym replies i) ∷ events i, ends.1, ends.2, ends.3)
one_talk (Takes session reply rest) state last another es fs p q a b (inl x) lead y again = absurd (no_take p a session reply rest x.1)
one_talk (Takes session reply rest) state last another es fs p q a b (inr x) lead (inl y) again = absurd (no_take q b session reply rest y.1)
one_talk (Takes session reply rest) state last another es fs p q a b (inr x) lead (inr y) again =
    let same = taken_once session reply y.0 x.0 y.1 x.1 in
    one_talk (rest x.0) state last another es fs p q a b x.2 lead (subst (λ (t : Taken). Goes (rest t) fs (Ends q b)) same y.2) again
