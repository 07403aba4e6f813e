use Rattle.std.proofs.Common.{◌≡◌, ℕ, length, Option, None, Some, subst, sym, ap, ◌∙◌}
use Rattle.std.specs.Prelude.{IsErr}
use Rattle.apdu_core.specs.Apdu.{Short, apdu_of}
use Rattle.scp03_card.specs.Session.{Session}
use Rattle.scp03_host.specs.Wrapped.{having_sent, room_for, wrapped_command}
use Rattle.script_lines.specs.Channel.{channel_number}
use Rattle.script_tool.specs.Host.{own_session}
use Rattle.script_tool.specs.InSession.{protecting, with_some}
use Rattle.script_tool.specs.Kept.{MayBeSession, RepresentsHost, kept_on}
use Rattle.script_tool.specs.Played.{Continues, IsPlayed}
use Rattle.script_tool.specs.Printed.{Said}
use Rattle.script_tool.specs.Talk.{Talk}
use Rattle.script_tool.specs.declared.host_state.HostState.{HostState}
use Rattle.script_tool.specs.declared.word.Word.{Word}
use Rattle.script_tool.specs.declared.word.Word.TheVariants.{NoSession, TooLong}
use Rattle.script_tool.proofs.HostRules.{none_kept, own_changed, own_kept, sessions_same}
use Rattle.script_tool.proofs.PlayedRules.{ends_here}
use Rattle.script_tool.proofs.Protecting.{fits_room, not_refused, protecting_ends, protecting_sends, spoiled_sent, was_refused}
use Rattle.script_tool.proofs.in_session.send.Goals as goal

pub returns-in-Err-clause-goes_on : goal.returns-in-Err-clause-goes_on
returns-in-Err-clause-goes_on g c whole rest represents = by (own_session whole) (own_kept c.args.host.now whole represents)
  where
    left : HostState
    left = record {
      channel = c.args.host.now.channel;
      keys = c.args.host.now.keys;
      tokens = c.args.host.now.tokens;
      sessions = c.wrap.new.self;
      last = c.args.host.now.last;
    }

    stands : RepresentsHost left whole
    stands = sessions_same c.args.host.now whole c.wrap.new.self c.in-Err.ensures.unchanged.0 represents

    said : (word : Word) (talk : Talk) → c.in-Err.word ≡ word → IsPlayed g.L.CardLink c.args.link.now c.args.link.now talk (Said word) left
        → IsPlayed g.L.CardLink c.args.link.now c.args.link.now talk (Said c.in-Err.word) left
    said word talk is played = subst (λ (w : Word). IsPlayed g.L.CardLink c.args.link.now c.args.link.now talk (Said w) left) (sym is) played

    by : (o : Option Session) → MayBeSession (kept_on c.args.host.now.channel c.args.host.now.sessions) o
        → IsPlayed g.L.CardLink c.args.link.now c.args.link.now
        (with_some o whole (λ kept. protecting whole kept c.args.bad (apdu_of c.args.command.now) rest)) (Said c.in-Err.word) left
    by None may =
        (let none = sym c.in-Err.is ∙ c.wrap.ensures.none (none_kept (kept_on c.args.host.now.channel c.args.host.now.sessions) may) in
        said NoSession _ (cc) (ends_here g.L.CardLink c.args.link.now (Said NoSession) whole left stands))
    by (Some kept) may =
        (let long = (c.wrap.ensures.too_long kept may).0 (was_refused c.wrap.result c.in-Err.is) in
        said TooLong _ (c.in-Err.ensures.word kept may)
        (subst (λ (t : Talk). IsPlayed g.L.CardLink c.args.link.now c.args.link.now t (Said TooLong) left)
        (sym (protecting_ends whole kept c.args.bad (apdu_of c.args.command.now) rest long))
        (ends_here g.L.CardLink c.args.link.now (Said TooLong) whole left stands)))

pub returns-clause-goes_on : goal.returns-clause-goes_on
returns-clause-goes_on g c whole rest represents = by (own_session whole) (own_kept c.args.host.now whole represents)
  where
    by : (o : Option Session) → MayBeSession (kept_on c.args.host.now.channel c.args.host.now.sessions) o
        → Continues g.L.CardLink c.args.link.now c.exchange.new.link
        (with_some o whole (λ kept. protecting whole kept c.args.bad (apdu_of c.args.command.now) rest)) rest c.exchange.new.host c.exchange.result
    by None may =
        absurd (c.in_default.not-Err NoSession (c.wrap.ensures.none (none_kept (kept_on c.args.host.now.channel c.args.host.now.sessions) may)))
    by (Some kept) may =
        (let command = apdu_of c.args.command.now in
        let no : IsErr c.wrap.result → ⊥ = λ e. not_refused c.wrap.result c.in_default.is e in
        let fits = fits_room (IsErr c.wrap.result) (room_for kept.level) (length command.body) (c.wrap.ensures.too_long kept may) no in
        let short = subst (λ (n : ℕ). Short (wrapped_command kept command n) c.wrap.new.out.items) (ap channel_number represents.channel) (c.in_default.ensures.sent kept may) in
        let sent = spoiled_sent kept command (channel_number whole.channel) c.args.bad c.wrap.new.out.items c.spoil.new.command.items short c.spoil.ensures in
        let stands = own_changed c.args.host.now whole c.wrap.new.self (kept_on c.args.host.now.channel c.wrap.new.self) (Some (having_sent kept command))
        represents c.wrap.ensures.others (c.in_default.ensures.accepted kept may) in
        subst (λ (t : Talk). Continues g.L.CardLink c.args.link.now c.exchange.new.link t rest c.exchange.new.host c.exchange.result)
        (protecting_sends whole kept c.args.bad command rest c.spoil.new.command.items fits sent)
        (c.exchange.ensures.goes_on whole (having_sent kept command) rest stands))
