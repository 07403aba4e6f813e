use Rattle.std.proofs.Common.{ℕ, List, Option, None, Some, IfNone, subst, sym}
use Rattle.std.specs.Prelude.{MatchOption}
use Rattle.script_lines.specs.Control.{SaysControl}
use Rattle.script_lines.specs.Line.{HasNoForm, SaysLine, SaysSending}
use Rattle.script_lines.specs.Words.{words_of}
use Rattle.script_lines.specs.declared.control.Control as control
use Rattle.script_lines.specs.declared.line.ScriptLine.{ScriptLine}
use Rattle.script_lines.specs.declared.line.ScriptLine.TheVariants.{Nothing, Control, Exchange, Quiet}
use Rattle.script_lines.proofs.line.ScriptLine.read.Goals as goal

no_form : {X : Type 0} (text : List ℕ) (after : ScriptLine) (read : Option X) → (SaysLine text Nothing → ⊥)
    → ((c : control.Control) → SaysControl (words_of text) c → ⊥)
    → MatchOption read ((line : ScriptLine) → SaysSending (words_of text) line → ⊥) (λ _. SaysSending (words_of text) after) → IfNone read (HasNoForm text)
no_form text after (Some x) something no_control reads = tt
no_form text after None something no_control reads = none
  where
    none : HasNoForm text
    none Nothing says = something says
    none (Control c) says = no_control c says
    none (Exchange e) says = reads (Exchange e) says
    none (Quiet e) says = reads (Quiet e) says

pub returns-clause-none : goal.returns-clause-none
returns-clause-none c =
    let words = c.new-words.ensures in
    no_form c.args.text.now c.sending.new.line c.sending.result (λ says. cc (c.says_nothing.ensures.1 says, c.if-says_nothing.false))
    (λ k says. c.in_default.ensures k (subst (λ w. SaysControl w k) (sym words) says))
    (subst (λ w. MatchOption c.sending.result ((line : ScriptLine) → SaysSending w line → ⊥) (λ _. SaysSending w c.sending.new.line)) words c.sending.ensures)
