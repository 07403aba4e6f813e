use Rattle.std.proofs.Common.{◌-◌, ◌+◌, ◌∷◌, length, drop, take, ap, ◌∙◌, sym, arith, length-drop}
use Rattle.std.proofs.lemmas.List.{take_all}
use Rattle.script_lines.proofs.Split.{one_word, first_word}
use Rattle.script_lines.specs.Words.{words_of}
use Rattle.script_lines.proofs.words.cut.Goals as goal

pub returns-in-None : goal.returns-in-None
returns-in-None c = one_word c.args.text.now c.in-None.ensures

pub returns-in-Some : goal.returns-in-Some
returns-in-Some c =
    let text = c.args.text.now in
    let at = c.in-Some.at in
    let found = c.in-Some.ensures in
    let rest = take_all (length text - (at + 1)) (drop (at + 1) text) (omega (arith, length-drop (at + 1) text)) in
    first_word text at found.0 found.1 found.2 ∙ ap (λ l. take at text ∷ words_of l) (sym rest)
