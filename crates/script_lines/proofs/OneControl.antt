-- The words of a line that sends nothing say one thing.
use Rattle.std.proofs.Common.{◌≡◌, ◌+◌, ℕ, List, [], ◌∷◌, refl, ap, sym, ◌∙◌, arith, slice_index}
use Rattle.std.specs.Prelude.{◌==◌, if◌then◌else◌}
use Rattle.apdu_core.specs.declared.reply.Status.{Status}
use Rattle.script_lines.proofs.OneKey.{first, one_keys, one_tokens}
use Rattle.script_lines.proofs.OneValue.{one_status}
use Rattle.script_lines.specs.Channel.{SaysChannel, channel_number}
use Rattle.script_lines.specs.Control.{SayControl, SaysControl, SaysWant, control_verb}
use Rattle.script_lines.specs.declared.channel.Channel as channel
use Rattle.script_lines.specs.declared.channel.Channel.TheVariants.{Basic, First, Second, Third}
use Rattle.script_lines.specs.declared.control.Control as the_type
use Rattle.script_lines.specs.declared.control.Control.TheVariants.{Reset, Channel, Keys, Tokens, Want}
use Rattle.script_lines.specs.declared.tokens.Tokens.TheVariants.{Absent, Made, Damaged}

channel_coded : ℕ → channel.Channel
channel_coded n = if n == 0 then Basic else if n == 1 then First else if n == 2 then Second else Third

channel_back : (c : channel.Channel) → channel_coded (channel_number c) ≡ c
unfolding channel_coded
channel_back Basic = refl
channel_back First = refl
channel_back Second = refl
channel_back Third = refl

one_channel : (words : List (List ℕ)) (a b : channel.Channel) → SaysChannel words a → SaysChannel words b → a ≡ b
one_channel (number ∷ []) a b x y =
    let codes' : 48 + channel_number a ≡ 48 + channel_number b = ap (λ l. slice_index l 0) (sym x ∙ y) in
    let same : channel_number a ≡ channel_number b = omega (arith, codes') in
    sym (channel_back a) ∙ ap channel_coded same ∙ channel_back b
one_channel _ a b x y = absurd x

one_want : (words : List (List ℕ)) (a b : Status) → SaysWant words a → SaysWant words b → a ≡ b
one_want (status ∷ []) a b x y = one_status status a b x y
one_want _ a b x y = absurd x

pub begins_control : (words : List (List ℕ)) (c : the_type.Control) → SaysControl words c → first words ≡ control_verb c
begins_control (verb ∷ words) c x = x.0
begins_control [] c x = absurd x

-- the first letter of a verb, where the two verbs on tokens count as one
letter : List ℕ → ℕ
letter word = if slice_index word 0 == 98 then 116 else slice_index word 0

abbrev letter_of : the_type.Control → ℕ
letter_of Reset = 114
letter_of (Channel channel) = 99
letter_of (Keys keys) = 107
letter_of (Tokens tokens) = 116
letter_of (Want status) = 119

letter_back : (c : the_type.Control) → letter (control_verb c) ≡ letter_of c
unfolding letter
letter_back Reset = refl
letter_back (Channel channel) = refl
letter_back (Keys keys) = refl
letter_back (Tokens Absent) = refl
letter_back (Tokens (Made key)) = refl
letter_back (Tokens (Damaged key)) = refl
letter_back (Want status) = refl

one_after : (words : List (List ℕ)) (a b : the_type.Control) → control_verb a ≡ control_verb b → SayControl words a → SayControl words b → a ≡ b
one_after words Reset Reset e x y = refl
one_after words (Channel a) (Channel b) e x y = ap Channel (one_channel words a b x y)
one_after words (Keys a) (Keys b) e x y = ap Keys (one_keys words a b x y)
one_after words (Tokens a) (Tokens b) e x y = ap Tokens (one_tokens words a b e x y)
one_after words (Want a) (Want b) e x y = ap Want (one_want words a b x y)
one_after words a b e x y =
    let letters : letter_of a ≡ letter_of b = sym (letter_back a) ∙ ap letter e ∙ letter_back b in
    absurd (omega (arith, letters))

pub one_control : (words : List (List ℕ)) (a b : the_type.Control) → SaysControl words a → SaysControl words b → a ≡ b
one_control (verb ∷ words) a b x y = one_after words a b (sym x.0 ∙ y.0) x.1 y.1
one_control [] a b x y = absurd x
