-- What a desk writes: tokens and verdicts, a line each.
use Rattle.std.specs.Prelude.{ℕ, List, [], ◌∷◌, ◌++◌, Option, None, Some, codes}
use Rattle.std.specs.Int.{to_be_bytes, w16}
use Rattle.hex.specs.Hex.{encode_lower}
use Rattle.receipt_desk.specs.declared.verdict.Verdict.{Verdict}
use Rattle.receipt_desk.specs.declared.verdict.Verdict.TheVariants.{Fits, Form, Unique, Number, Mac}

-- a number in four digits
abbrev pub digits : ℕ → List ℕ
digits number = encode_lower (to_be_bytes w16 number)

-- the number that was wanted
abbrev pub want_text : Option ℕ → List ℕ
want_text None = codes "none"
want_text (Some number) = digits number

abbrev pub verdict_text : Verdict → List ℕ
verdict_text (Fits number) = codes "ok " ++ digits number
verdict_text Form = codes "form"
verdict_text Unique = codes "unique"
verdict_text (Number have want) = codes "number " ++ digits have ++ codes " want " ++ want_text want
verdict_text Mac = codes "mac"

abbrev pub verdict_line : Verdict → List ℕ
verdict_line verdict = verdict_text verdict ++ 10 ∷ []

abbrev pub token_line : List ℕ → List ℕ
token_line token = encode_lower token ++ 10 ∷ []
