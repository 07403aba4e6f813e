use Rattle.std.proofs.Common.{ℕ, [], ◌∷◌, ap, ◌∙◌}
use Rattle.std.specs.Prelude.{if◌then◌else◌}
use Rattle.card_core.specs.Prelude.{card_life_code, domain_aid, file_aid, life_mark_code, privilege_bytes, same_aid}
use Rattle.card_types.specs.declared.card_life.CardLife.{CardLife}
use Rattle.card_types.specs.declared.factory.TheConstants.{ISSUER}
use Rattle.card_core.proofs.StatusTemplates.{appended, part}
use Rattle.card_core.proofs.status_template.write_entry.Goals as goal

pub returns-clause-parts : goal.returns-clause-parts
returns-clause-parts c said p1 life =
    let entry = c.args.entry.now in
    let life_under : CardLife → ℕ = λ card. if same_aid entry.aid ISSUER then card_life_code card else life_mark_code entry.life in
    let lives = life_under said.life ∷ [] in
    let given = privilege_bytes entry.privileges in
    let file = file_aid c.args.tables.now.files.items entry.file in
    let domain = domain_aid c.args.tables.now.entries.items entry.domain in
    let first = part 0x4F entry.aid ∷ [] in
    let second = part 0x4F entry.aid ∷ part 0x9F70 lives ∷ [] in
    let third = part 0x4F entry.aid ∷ part 0x9F70 lives ∷ part 0xC5 given ∷ [] in
    let fourth = part 0x4F entry.aid ∷ part 0x9F70 lives ∷ part 0xC5 given ∷ part 0xC4 file ∷ [] in
    let one = appended [] 0x4F _ entry.aid c.args.value.now.items c.append.new.out.items c.requires.empty c.as_bytes.ensures.bytes c.append.ensures.appends in
    let two = appended first 0x9F70 _ lives c.append.new.out.items c.append-2.new.out.items one
    (ap (λ (code : ℕ). code ∷ []) (c.life_of.ensures ∙ ap life_under life)) c.append-2.ensures.appends in
    let three = appended second 0xC5 _ given c.append-2.new.out.items c.append-3.new.out.items two c.to_bytes.ensures c.append-3.ensures.appends in
    let four = appended third 0xC4 _ file c.append-3.new.out.items c.append-4.new.out.items three c.file_name.ensures.named c.append-4.ensures.appends in
    appended fourth 0xCC _ domain c.append-4.new.out.items c.append-5.new.out.items four c.domain_name.ensures.named c.append-5.ensures.appends
