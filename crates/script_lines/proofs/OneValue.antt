-- A word spells one value of each kind.
use Rattle.std.proofs.Common.{◌≡◌, ◌*◌, ℕ, List, [], ◌∷◌, length, refl, sym, ap, ◌∙◌, arith, slice_index, Ok, inl, inr, Bool, true, false, Option, Some, None}
use Rattle.std.specs.Prelude.{◌==◌, if◌then◌else◌, codes}
use Rattle.std.proofs.lemmas.Fmt.{decimal_is_IsNumeral}
use Rattle.std.specs.Str.Parse.{digits_value}
use Rattle.hex.proofs.HexLemmas.{decode_of-ok, decode_of-same}
use Rattle.hex.specs.Hex.{decode_of}
use Rattle.apdu_core.proofs.OneSpelling.{one_command, same_reply}
use Rattle.apdu_core.specs.Reply.{status_bytes}
use Rattle.apdu_core.specs.declared.reply.Status.{Status}
use Rattle.arrayvec.specs.ArrayVec.{ArrayVec}
use Rattle.card_types.proofs.OneOfCode.{level_by_code}
use Rattle.card_types.specs.Level.{code_of}
use Rattle.card_types.specs.declared.level.Level.{Level}
use Rattle.script_lines.specs.Install.{SpellsParameters, SpellsPrivileges, install_p1}
use Rattle.script_lines.specs.Load.{SpellsCount, SpellsDomain, hash_word}
use Rattle.script_lines.specs.Send.{SpellsPlain, apdu_with}
use Rattle.script_lines.specs.Words.{SpellsAid, SpellsByte, SpellsLevel, SpellsSome, SpellsStatus, SpellsUpTo}
use Rattle.script_lines.specs.declared.load_file.HashFunction.{HashFunction}
use Rattle.script_lines.specs.declared.load_file.HashFunction.TheVariants.{Sha1, Sha256}
use Rattle.script_lines.specs.declared.plain.Plain.{Plain}

pub one_vec : (a b : ArrayVec ℕ) → a.items ≡ b.items → a ≡ b
one_vec a b e = λ i. record { items = e i }

pub one_some : (count : ℕ) (word a b : List ℕ) → SpellsSome count word a → SpellsSome count word b → a ≡ b
unfolding SpellsSome
one_some count word a b x y = decode_of-same word a b x.0 y.0

pub some_digits : (count : ℕ) (word a : List ℕ) → SpellsSome count word a → length word ≡ 2 * count
unfolding SpellsSome
some_digits count word a x =
    let twice = (decode_of-ok word a x.0).2 in
    let same = x.1 in
    omega (arith, twice, same)

pub one_up_to : (most : ℕ) (word : List ℕ) (a b : ArrayVec ℕ) → SpellsUpTo most word a.items → SpellsUpTo most word b.items → a ≡ b
unfolding SpellsUpTo
one_up_to most word a b x y = one_vec a b (decode_of-same word a.items b.items x.0 y.0)

pub one_byte : (word : List ℕ) (a b : ℕ) → SpellsByte word a → SpellsByte word b → a ≡ b
unfolding SpellsByte
one_byte word a b x y = ap (λ l. slice_index l 0) (decode_of-same word (a ∷ []) (b ∷ []) x y)

pub one_aid : (word a b : List ℕ) → SpellsAid word a → SpellsAid word b → a ≡ b
unfolding SpellsAid
one_aid word a b x y = decode_of-same word a b x.0 y.0

pub one_level : (word : List ℕ) (a b : Level) → SpellsLevel word a → SpellsLevel word b → a ≡ b
one_level word a b x y = level_by_code a b (one_byte word (code_of a) (code_of b) x y)

pub one_status : (word : List ℕ) (a b : Status) → SpellsStatus word a → SpellsStatus word b → a ≡ b
unfolding SpellsStatus
one_status word a b x y =
    let bytes = decode_of-same word (status_bytes a.0) (status_bytes b.0) x y in
    let e = (same_reply [] [] a.0 b.0 bytes).1 in
    λ i. record { 0 = e i }

pub one_plain : (word : List ℕ) (a b : Plain) → SpellsPlain word a → SpellsPlain word b → a ≡ b
unfolding SpellsPlain
one_plain word a b x y =
    let bytes = decode_of-same word x.0 y.0 x.1 y.1 in
    let e = one_command (apdu_with a x.2.0) (apdu_with b y.2.0) y.0 (rw bytes at x.2.1) y.2.1 in
    λ i. record { ins = (e i).ins; p1 = (e i).p1; p2 = (e i).p2; body = record { items = (e i).body } }

-- one hyphen is no number of bytes
pub no_hyphen : (word bytes : List ℕ) → word ≡ codes "-" → decode_of word ≡ Ok bytes → ⊥
no_hyphen word bytes hyphen spells =
    let even = (decode_of-ok word bytes spells).0 in
    let one : length word ≡ 1 = ap (λ l. length l) hyphen in
    omega (arith, even, one)

p1_coded : ℕ → Bool
p1_coded code = if code == 0x0c then true else false

p1_back : (selectable : Bool) → p1_coded (install_p1 selectable) ≡ selectable
unfolding p1_coded
p1_back false = refl
p1_back true = refl

pub one_p1 : (word : List ℕ) (a b : Bool) → SpellsByte word (install_p1 a) → SpellsByte word (install_p1 b) → a ≡ b
one_p1 word a b x y = sym (p1_back a) ∙ ap p1_coded (one_byte word (install_p1 a) (install_p1 b) x y) ∙ p1_back b

pub one_privileges : (word : List ℕ) (a b : ArrayVec ℕ) → SpellsPrivileges word a.items → SpellsPrivileges word b.items → a ≡ b
unfolding SpellsPrivileges
one_privileges word a b x y = one_up_to 3 word a b x.0 y.0

pub one_parameters : (word : List ℕ) (a b : ArrayVec ℕ) → SpellsParameters word a.items → SpellsParameters word b.items → a ≡ b
unfolding SpellsParameters SpellsUpTo
one_parameters word a b (inl x) (inl y) = one_vec a b (x.1 ∙ sym y.1)
one_parameters word a b (inl x) (inr y) = absurd (no_hyphen word b.items x.0 y.0)
one_parameters word a b (inr x) (inl y) = absurd (no_hyphen word a.items y.0 x.0)
one_parameters word a b (inr x) (inr y) = one_up_to 127 word a b x y

pub one_domain : (word : List ℕ) (a b : Option (List ℕ)) → SpellsDomain word a → SpellsDomain word b → a ≡ b
unfolding SpellsDomain SpellsAid
one_domain word None None x y = refl
one_domain word None (Some b) x y = absurd (no_hyphen word b x y.0)
one_domain word (Some a) None x y = absurd (no_hyphen word a y x.0)
one_domain word (Some a) (Some b) x y = ap Some (one_aid word a b x y)

hash_coded : List ℕ → Option HashFunction
hash_coded word = if length word == 6 then Some Sha256 else if slice_index word 0 == 115 then Some Sha1 else None

hash_back : (hash : Option HashFunction) → hash_coded (hash_word hash) ≡ hash
unfolding hash_coded
hash_back None = refl
hash_back (Some Sha1) = refl
hash_back (Some Sha256) = refl

pub one_hash : (word : List ℕ) (a b : Option HashFunction) → word ≡ hash_word a → word ≡ hash_word b → a ≡ b
one_hash word a b x y = sym (hash_back a) ∙ ap hash_coded (sym x ∙ y) ∙ hash_back b

pub one_count : (word : List ℕ) (a b : ℕ) → SpellsCount word a → SpellsCount word b → a ≡ b
unfolding SpellsCount
one_count word a b x y =
    let first = x.2 in
    let second = y.2 in
    sym (decimal_is_IsNumeral a (omega (arith, first))).1 ∙ ap (digits_value 10) (sym x.0 ∙ y.0) ∙ (decimal_is_IsNumeral b (omega (arith, second))).1
