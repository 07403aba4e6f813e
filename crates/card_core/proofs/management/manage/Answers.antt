use Rattle.std.proofs.Common.{rules, ◌≡◌, ◌≢◌, ℕ, length, [], ◌∷◌, false, true, refl, sym, subst, true≢false, ◌∙◌}
use Rattle.std.proofs.lemmas.Bool.{eqb-true}
use Rattle.std.proofs.lemmas.List.Elements.{Contains-append_left}
use Rattle.std.proofs.lemmas.Map.Views.{Contains-from_any}
use Rattle.std.specs.List.{list_any}
use Rattle.std.specs.Prelude.{Contains, ◌==◌}
use Rattle.card_core.specs.Prelude.{IsChanging, IsInSession, changing, form_in, kept_of}
use Rattle.policy_machine.specs.declared.channels.TheConstants.{CHANNELS}
use Rattle.policy_rules.specs.declared.request.Request.{Request}
use Rattle.card_core.proofs.Acting.{acts_for, holds_for, managed_done}
use Rattle.card_core.proofs.Passed.{read_at}
use Rattle.card_core.proofs.management.manage.Goals as goal

-- the instruction is another than one that changes no registry
apart : (byte : ℕ) → list_any (λ other. byte == other) changing ≡ false → (request : Request) → IsChanging request → (form_in request).instruction ≢ byte
apart byte none request changes is = true≢false (sym (subst (λ (ins : ℕ). list_any (λ other. ins == other) changing ≡ true) is changes) ∙ none)

within : (request : Request) → IsChanging request → Contains changing (form_in request).instruction
within request = Contains-from_any eqb-true (form_in request).instruction changing

pub manage-requires-clause-domain : goal.manage-requires-clause-domain
manage-requires-clause-domain g c =
    let request = g.M.ManagedRequest.request c.args.request.now in
    let changes = g.met.M.ManagedRequest.changes c.args.request.now in
    c.requires.domain (apart 0xA4 refl request changes) (apart 0x70 refl request changes)

pub manage-requires-clause-secured : goal.manage-requires-clause-secured
manage-requires-clause-secured g c =
    let four : length c.args.channels.now.sessions ≡ CHANNELS = search rules in
    let request = g.M.ManagedRequest.request c.args.request.now in
    let changing_is = within request (g.met.M.ManagedRequest.changes c.args.request.now) in
    subst IsInSession (sym (read_at c.args.channels.now.sessions c.from-channel.result c.args.received.now.channel c.index-channels-channel.result four c.requires.channel c.from-channel.ensures))
    (c.requires.secured (Contains-append_left changing (0xF2 ∷ []) (form_in request).instruction changing_is))

pub returns-clause-changing : goal.returns-clause-changing
returns-clause-changing g c = within (g.M.ManagedRequest.request c.args.request.now) (g.met.M.ManagedRequest.changes c.args.request.now)

pub returns-clause-done : goal.returns-clause-done
returns-clause-done g c = λ place page judged whole shows sound asked.
    let card = kept_of c.args.records.now.tables c.args.channels.now in
    let number = c.args.received.now.channel in
    let slot = c.args.received.now.selected in
    let acts = acts_for page card judged shows sound number slot c.requires.channel asked.on c.requires.selected in
    let holds = holds_for page card judged shows sound number slot c.requires.channel asked.on c.requires.selected c.from-channel.result c.index-channels-channel.result c.from-channel.ensures in
    managed_done page card judged shows sound number slot c.requires.channel asked.on c.requires.selected c.manage.new.records.tables c.manage.new.reply.items c.manage.result
    c.manage.ensures.selected c.manage.ensures.free (c.manage.ensures.done page judged acts shows.says sound.fits.channels asked.asks holds)
