use Rattle.std.proofs.Common.{rules, ◌≡◌, ℕ, inr, inl, List, [], ◌∷◌, ◌++◌, OnOk, None, Option, Some, refl, ap, sym, subst, ◌∙◌, arith}
use Rattle.std.specs.Prelude.{unwrap_or}
use Rattle.card_core.specs.Prelude.{Effect, LoadSession, RepresentsLoad, RepresentsState, State, domain_aid, file_domain_for, install_load, load_begun, with_load}
use Rattle.policy_machine.proofs.Judging.{IsListed, does_so, judged}
use Rattle.policy_slots.specs.declared.live.Live.{Live}
use Rattle.card_core.proofs.LoadsKept.{refusal_loaded}
use Rattle.card_core.proofs.begin_load.begin_load.Goals as goal

listed : IsListed install_load
listed holds here = inr (inr (inr (inl here)))

pub judge_request-requires-clause-short : goal.judge_request-requires-clause-short
judge_request-requires-clause-short c = omega (arith, c.requires.formed.1.means.short, c.requires.formed.2)

pub returns-in_err-judged-clause-done : goal.returns-in_err-judged-clause-done
returns-in_err-judged-clause-done c page admitted acts says channels on request =
    refusal_loaded admitted page c.args.tables.now c.args.channels.now.live c.args.channels.now.loading.session c.args.reply.now.items c.from_residual.result c.in_err-judged.field-0.0 c.from_residual.ensures.1
    (judged install_load listed admitted request.form refl (Some c.in_err-judged.field-0.0) (c.in_err-judged.ensures.refused page admitted acts says.load request.means)) c.requires.empty

pub returns-clause-done : goal.returns-clause-done
returns-clause-done c page admitted acts says channels on request =
    let is = request.means in
    let given = is.given in
    let load : LoadSession = load_begun admitted given in
    let after : State = record { registry = admitted.at.registry; volatile = with_load admitted.at.volatile load } in
    let done : Effect = record { state = after; body = 0x00 ∷ []; status = 0x9000 } in
    let passed = c.in_ok-judged.ensures.passed page admitted acts says.load is in
    let domain : domain_aid c.args.tables.now.entries.items c.in_ok-judged.judged.found ≡ file_domain_for admitted given =
    ap (λ (o : Option (List ℕ)). unwrap_or o []) (c.in_ok-judged.ensures.found.found page admitted acts is) in
    let whole = subst (λ r. OnOk r (c.try_extend_from_slice.new.self.items ≡ c.new-hash.result.items ++ c.args.request.now.hash.now)) c.unwrap.ensures
    c.try_extend_from_slice.ensures.ok in
    let hash : c.try_extend_from_slice.new.self.items ≡ given.hash = whole ∙ ap (λ (bytes : List ℕ). bytes ++ c.args.request.now.hash.now) c.new-hash.ensures ∙ is.hash in
    record {
      judges = judged install_load listed admitted request.form refl None passed;
      done = done;
      does = does_so install_load listed admitted request.form done (record { given = given; asks = is.asks; registry = refl; volatile = refl; body = refl; status = refl });
      channels = refl;
      says = subst (λ (l : Live). RepresentsState page c.args.tables.now l after) (sym c.begin_load.ensures)
          (record { registry = says.registry; selected = says.selected; places = says.places; load = (on, is.file, domain, refl) });
      kept = subst (λ (l : LoadSession). RepresentsLoad page c.args.tables.now c.begin-session.result l)
          (λ i. record { channel = on i; aid = is.file i; domain = domain i; hash = hash i; announced = None; bytes = []; blocks = 0 })
          (c.begin-session.ensures.stands page c.args.tables.now c.args.channel);
      body_is = search rules;
      status_is = refl;
    }
