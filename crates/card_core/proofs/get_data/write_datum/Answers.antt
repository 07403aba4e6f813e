use Rattle.std.proofs.Common.{◌≡◌, ◌++◌, ℕ, List, [], None, Some, sym, ap, subst, ◌∙◌, inl}
use Rattle.card_core.specs.Prelude.{Appends, IsKeyInformation, IsLeast, Spelling, domain_aid, follows, name_order, thing_in}
use Rattle.card_core.proofs.get_data.write_datum.Goals as goal

-- what is appended to nothing is the element
appended : (tag : ℕ) (value old new : List ℕ) → old ≡ [] → Appends tag value old new → Spelling tag value new
appended tag value old new empty appends =
    subst (Spelling tag value) (sym (appends.2 ∙ ap (λ (front : List ℕ). front ++ appends.0) empty)) appends.1

pub returns-in-Keys-clause-written : goal.returns-in-Keys-clause-written
returns-in-Keys-clause-written c domain page said entry says well at found =
    let is = rw c.in-Keys.is at found in
    let least = is.2 in
    let owner = is.1 in
    let here = subst (λ (n : ℕ). thing_in c.args.tables.now.entries.items n ≡ Some entry) (sym owner) at in
    let own = subst (λ (n : ℕ). IsLeast (follows n None) name_order c.args.tables.now.keys.items least.0 c.in-Keys.first.now) (sym owner) least.1 in
    let listed = c.write_keys.ensures.listed c.args.tables.now c.deref.ensures.value (least.0, rw c.deref.ensures.value own) page said entry says well here in
    let spelled = appended c.args.tag c.deref-in-Keys.result.now c.args.reply.now.items c.append.new.out.items c.requires.empty c.append.ensures.appends in (
      c.write_keys.new.value.items,
      inl (is.0, subst (λ (n : ℕ). IsKeyInformation said (domain_aid c.args.tables.now.entries.items n) c.write_keys.new.value.items) owner listed),
      subst (λ (value : List ℕ). Spelling c.args.tag value c.append.new.out.items) c.deref-in-Keys.ensures.0 spelled,
    )
