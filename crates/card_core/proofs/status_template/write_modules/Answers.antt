use Rattle.std.proofs.Common.{◌≡◌, List, [], ◌∷◌, ◌++◌, true, refl, sym, subst, ◌∙◌}
use Rattle.card_core.specs.Prelude.{AreElements, Element, module_parts, same_aid}
use Rattle.card_types.specs.declared.factory.TheConstants.{FACTORY_FILE, FACTORY_MODULE}
use Rattle.card_core.proofs.StatusTemplates.{appended, part}
use Rattle.card_core.proofs.status_template.write_modules.Goals as goal

pub returns-then-eq-clause-parts : goal.returns-then-eq-clause-parts
returns-then-eq-clause-parts c elements are =
    let factory : same_aid c.args.file.now FACTORY_FILE ≡ true = rw (c.as_bytes.ensures.bytes, c.as_slice.ensures) at (sym c.eq.ensures ∙ c.if-eq.true) in
    let known : module_parts c.args.kind c.args.file.now ≡ part 0x84 FACTORY_MODULE ∷ [] = rw (c.if-kind-eq-WITH_MODULES.true, factory) refl in
    subst (λ (parts : List Element). AreElements (elements ++ parts) c.append.new.out.items) (sym known)
    (appended elements 0x84 FACTORY_MODULE FACTORY_MODULE c.args.value.now.items c.append.new.out.items are refl c.append.ensures.appends)
