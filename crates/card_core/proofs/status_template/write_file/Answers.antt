use Rattle.std.proofs.Common.{[], ◌∷◌, ◌++◌, refl}
use Rattle.card_core.specs.Prelude.{domain_aid, module_parts}
use Rattle.card_core.proofs.StatusTemplates.{appended, part}
use Rattle.card_core.proofs.status_template.write_file.Goals as goal

pub returns-clause-parts : goal.returns-clause-parts
returns-clause-parts c page said =
    let file = c.args.file.now in
    let domain = domain_aid c.args.tables.now.entries.items file.domain in
    let first = part 0x4F file.aid ∷ [] in
    let second = part 0x4F file.aid ∷ part 0x9F70 (0x01 ∷ []) ∷ [] in
    let one = appended [] 0x4F _ file.aid c.args.value.now.items c.append.new.out.items c.requires.empty c.as_bytes.ensures.bytes c.append.ensures.appends in
    let two = appended first 0x9F70 (0x01 ∷ []) (0x01 ∷ []) c.append.new.out.items c.append-2.new.out.items one refl c.append-2.ensures.appends in
    let three = c.write_modules.ensures.parts second two in
    appended (second ++ module_parts c.args.kind file.aid) 0xCC _ domain c.write_modules.new.value.items c.append-3.new.out.items three c.domain_name.ensures.named
    c.append-3.ensures.appends
