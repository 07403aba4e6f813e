-- A text says at most one line.
use Rattle.std.proofs.Common.{◌≡◌, ℕ, List, [], ◌∷◌, refl, ap, sym, ◌∙◌, arith, slice_index, length, inl, inr, Bool}
use Rattle.std.specs.Prelude.{◌==◌, ◌||◌, if◌then◌else◌}
use Rattle.std.specs.List.{onto_first}
use Rattle.std.proofs.lemmas.List.Elements.{All-head}
use Rattle.script_lines.proofs.OneControl.{begins_control, one_control}
use Rattle.script_lines.proofs.OneKey.{first}
use Rattle.script_lines.proofs.OneVerb.{begins, one_exchange}
use Rattle.script_lines.specs.Control as controls
use Rattle.script_lines.specs.Exchange.{exchange_verb}
use Rattle.script_lines.specs.Verb.{verb_word}
use Rattle.script_lines.specs.Line.{IsBlank, IsComment, OneLine, SaysLine, SaysQuietly}
use Rattle.script_lines.specs.Words.{words_of}
use Rattle.script_lines.specs.declared.control.Control as control
use Rattle.script_lines.specs.declared.control.Control.TheVariants.{Reset, Channel, Keys, Tokens, Want}
use Rattle.script_lines.specs.declared.exchange.Exchange as exchange
use Rattle.script_lines.specs.declared.exchange.Exchange.TheVariants.{Select, Raw, Open, Send, Bad, Install, Selectable, Extradite, Load, Delete, PutKey, Store, Life, List as Listed, More}
use Rattle.script_lines.specs.declared.line.ScriptLine.{ScriptLine}
use Rattle.script_lines.specs.declared.line.ScriptLine.TheVariants.{Nothing, Control, Exchange, Quiet}
use Rattle.script_lines.specs.declared.tokens.Tokens.TheVariants.{Absent, Made, Damaged}

-- a verb that sends nothing begins with one of these letters: b, c, k, r, t, w
sends_nothing : ℕ → Bool
sends_nothing letter = letter == 98 || letter == 99 || letter == 107 || letter == 114 || letter == 116 || letter == 119

-- The kind of a line, one of four, by its first word: nothing, a verb that sends nothing, the quiet mark, a verb that
-- sends. Those of three letters send.
kind : List ℕ → ℕ
kind word =
    let letter = slice_index word 0 in
    if letter == 0 || letter == 35 then 0
    else if letter == 45 then 2
    else if length word == 3 then 3
    else if sends_nothing letter then 1
    else 3

abbrev kind_of : ScriptLine → ℕ
kind_of Nothing = 0
kind_of (Control control) = 1
kind_of (Quiet e) = 2
kind_of (Exchange e) = 3

control_kind : (c : control.Control) → kind (controls.control_verb c) ≡ 1
unfolding kind sends_nothing
control_kind Reset = refl
control_kind (Channel channel) = refl
control_kind (Keys keys) = refl
control_kind (Tokens Absent) = refl
control_kind (Tokens (Made key)) = refl
control_kind (Tokens (Damaged key)) = refl
control_kind (Want status) = refl

exchange_kind : (e : exchange.Exchange) → kind (verb_word (exchange_verb e)) ≡ 3
unfolding kind sends_nothing
exchange_kind (Select aid) = refl
exchange_kind (Raw bytes) = refl
exchange_kind (Open opening) = refl
exchange_kind (Send command) = refl
exchange_kind (Bad command) = refl
exchange_kind (Install installation) = refl
exchange_kind (Selectable aid) = refl
exchange_kind (Extradite extradition) = refl
exchange_kind (Load file) = refl
exchange_kind (Delete deletion) = refl
exchange_kind (PutKey putting) = refl
exchange_kind (Store field) = refl
exchange_kind (Life change) = refl
exchange_kind (Listed listing) = refl
exchange_kind (More listing) = refl

quiet_kind : (words : List (List ℕ)) (e : exchange.Exchange) → SaysQuietly words e → kind (first words) ≡ 2
unfolding kind
quiet_kind [] e x = absurd x
quiet_kind (mark ∷ words) e x = ap kind x.0

pub blank_first : (text : List ℕ) → IsBlank text → first (words_of text) ≡ []
unfolding words_of
blank_first [] blank = refl
blank_first (byte ∷ rest) blank =
    let space = All-head (λ b. b ≡ 32) byte rest blank in
    ap (λ b. first (words_of (b ∷ rest))) space

hash_first : (words : List (List ℕ)) → (rest : List ℕ) × (first (onto_first 35 words) ≡ 35 ∷ rest)
hash_first [] = ([], refl)
hash_first (word ∷ words) = (word, refl)

pub comment_first : (text : List ℕ) → IsComment text → (rest : List ℕ) × (first (words_of text) ≡ 35 ∷ rest)
unfolding words_of
comment_first text comment =
    let hash = hash_first (words_of comment.0) in
    (hash.0, ap (λ t. first (words_of t)) comment.1 ∙ hash.1)

no_kind : (kind [] ≡ 0) × ((rest : List ℕ) → kind (35 ∷ rest) ≡ 0)
unfolding kind
no_kind = (refl, λ rest. refl)

line_kind : (text : List ℕ) (line : ScriptLine) → SaysLine text line → kind (first (words_of text)) ≡ kind_of line
line_kind text Nothing (inl blank) = ap kind (blank_first text blank) ∙ no_kind.0
line_kind text Nothing (inr comment) = (let hash = comment_first text comment in ap kind hash.1 ∙ no_kind.1 hash.0)
line_kind text (Control c) x = ap kind (begins_control (words_of text) c x) ∙ control_kind c
line_kind text (Exchange e) x = ap kind (begins (words_of text) e x) ∙ exchange_kind e
line_kind text (Quiet e) x = quiet_kind (words_of text) e x

one_quiet : (words : List (List ℕ)) (a b : exchange.Exchange) → SaysQuietly words a → SaysQuietly words b → a ≡ b
one_quiet [] a b x y = absurd x
one_quiet (mark ∷ words) a b x y = one_exchange words a b x.1 y.1

pub one_line : OneLine
one_line text Nothing Nothing x y = refl
one_line text (Control a) (Control b) x y = ap Control (one_control (words_of text) a b x y)
one_line text (Exchange a) (Exchange b) x y = ap Exchange (one_exchange (words_of text) a b x y)
one_line text (Quiet a) (Quiet b) x y = ap Quiet (one_quiet (words_of text) a b x y)
one_line text a b x y =
    let e : kind_of a ≡ kind_of b = sym (line_kind text a x) ∙ line_kind text b y in
    absurd (omega (arith, e))
