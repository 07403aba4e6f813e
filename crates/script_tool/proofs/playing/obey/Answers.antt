use Rattle.std.proofs.Common.{[], ◌∷◌}
use Rattle.script_tool.specs.Play.{playing_control}
use Rattle.script_tool.specs.Played.{IsPlayed}
use Rattle.std.proofs.Common.{[], ◌∷◌, refl, subst, sym}
use Rattle.policy_machine.specs.State.{powered_on}
use Rattle.script_tool.proofs.PlayedRules.{ends_here}
use Rattle.script_tool.specs.Host.{after_reset, host_on_channel, with_host_keys, with_tokens}
use Rattle.script_tool.specs.Printed.{Nothing}
use Rattle.script_tool.specs.Talk.{Reset}
use Rattle.script_lines.specs.declared.control.Control.{Control}
use Rattle.script_tool.specs.declared.host_state.HostState.{HostState}
use Rattle.script_tool.proofs.playing.obey.Goals as goal

pub returns-in-Channel-clause-played : goal.returns-in-Channel-clause-played
returns-in-Channel-clause-played g c whole represents =
    let kept : HostState = record { channel = c.in-Channel.channel; keys = c.args.host.now.keys; tokens = c.args.host.now.tokens; sessions = c.args.host.now.sessions; last = c.args.host.now.last } in
    subst (λ (k : Control). IsPlayed g.L.CardLink c.args.link.now c.args.link.now (playing_control whole k) Nothing kept) (sym c.in-Channel.is)
    (ends_here g.L.CardLink c.args.link.now Nothing (host_on_channel c.in-Channel.channel whole) kept
    (record { channel = refl; keys = represents.keys; tokens = represents.tokens; sessions = represents.sessions; last = represents.last }))

pub returns-in-Keys-clause-played : goal.returns-in-Keys-clause-played
returns-in-Keys-clause-played g c whole represents =
    let kept : HostState = record { channel = c.args.host.now.channel; keys = c.in-Keys.keys; tokens = c.args.host.now.tokens; sessions = c.args.host.now.sessions; last = c.args.host.now.last } in
    subst (λ (k : Control). IsPlayed g.L.CardLink c.args.link.now c.args.link.now (playing_control whole k) Nothing kept) (sym c.in-Keys.is)
    (ends_here g.L.CardLink c.args.link.now Nothing (with_host_keys c.in-Keys.keys whole) kept
    (record { channel = represents.channel; keys = refl; tokens = represents.tokens; sessions = represents.sessions; last = represents.last }))

pub returns-in-Tokens-clause-played : goal.returns-in-Tokens-clause-played
returns-in-Tokens-clause-played g c whole represents =
    let kept : HostState = record { channel = c.args.host.now.channel; keys = c.args.host.now.keys; tokens = c.in-Tokens.tokens; sessions = c.args.host.now.sessions; last = c.args.host.now.last } in
    subst (λ (k : Control). IsPlayed g.L.CardLink c.args.link.now c.args.link.now (playing_control whole k) Nothing kept) (sym c.in-Tokens.is)
    (ends_here g.L.CardLink c.args.link.now Nothing (with_tokens c.in-Tokens.tokens whole) kept
    (record { channel = represents.channel; keys = represents.keys; tokens = refl; sessions = represents.sessions; last = represents.last }))

pub returns-in-Reset-clause-played : goal.returns-in-Reset-clause-played
returns-in-Reset-clause-played g c whole represents =
    subst (λ (k : Control). IsPlayed g.L.CardLink c.args.link.now c.reset.new.self (playing_control whole k) Nothing c.reset-in-Reset.new.self) (sym c.in-Reset.is)
    (record {
      host = after_reset whole;
      leads = record {
        events = Reset ∷ [];
        goes = refl;
        conveyed = record {
          stands = λ state stands. (powered_on state.registry, refl, c.reset.ensures.stands state stands);
          came = λ start first inputs came. c.reset.ensures.sent start first inputs came;
          told = λ start before told. c.reset.ensures.conveyed start before told;
        };
      };
      stands = c.reset-in-Reset.ensures whole represents;
    })
