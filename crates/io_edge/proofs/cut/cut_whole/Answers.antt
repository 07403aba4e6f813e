use Rattle.std.proofs.Common.{◌≡◌, ◌+◌, ◌++◌, length, take, drop, sym, ◌∙◌, arith, inl, refl}
use Rattle.std.proofs.lemmas.List.{take-take, length-take}
use Rattle.std.specs.Str.Lines.{strip_carriage_return}
use Rattle.io_edge.proofs.Whole.{whole_line}
use Rattle.io_edge.proofs.cut.cut_whole.Goals as goal

pub returns-then-text-gt-LINE_LIMIT-clause-stop : goal.returns-then-text-gt-LINE_LIMIT-clause-stop
returns-then-text-gt-LINE_LIMIT-clause-stop c left =
    let held = c.args.buffer.now.held in
    let whole = whole_line c.args.room c.args.at held left c.requires.found.0 c.requires.found.1 c.requires.found.2 c.requires.within in
    let len : length (strip_carriage_return (take c.args.at held)) ≡ c.stripped_len-text.result
    = rw (← c.held.ensures.held) c.stripped_len-text.ensures.len in
    (refl, (strip_carriage_return (take c.args.at held), inl (drop (c.args.at + 1) held ++ left, inl whole), omega (arith, len)))

pub returns-clause-line : goal.returns-clause-line
returns-clause-line c left =
    let held = c.args.buffer.now.held in
    let whole = whole_line c.args.room c.args.at held left c.requires.found.0 c.requires.found.1 c.requires.found.2 c.requires.within in
    let text : take c.stripped_len-text.result held ≡ strip_carriage_return (take c.args.at held)
    = (let short = simp length-take at c.stripped_len-text.ensures.within in
    sym (take-take c.stripped_len-text.result c.args.at held (omega arith)) ∙ rw (← c.held.ensures.held) c.stripped_len-text.ensures.stripped) in
    rw (c.cut.ensures.text, c.cut.ensures.held, text) (inl whole)
