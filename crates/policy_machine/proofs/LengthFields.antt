-- Fields after their lengths, one after the other: what bytes begin with one, and what is read from them.
use Rattle.std.proofs.Common.{◌≡◌, ℕ, suc, ◌≤◌, List, [], ◌∷◌, ◌++◌, length, get_or, take, drop, refl, sym, ap, ◌∙◌, arith, append_assoc}
use Rattle.std.specs.List.{flat_map}
use Rattle.std.proofs.lemmas.List.{drop_at, nil_from_length, take_at}
use Rattle.std.proofs.lemmas.List.Elements.{All-cons, All-head, All-nil, All-tail}
use Rattle.policy_machine.specs.Prelude.{AreLengthFields, BeginsWithField, InstallData, IsInstallData, IsLoadData, LoadData, signed_fields, signed_load_fields, with_length}

abbrev pub IsShort : List ℕ → Type 0
IsShort field = length field ≤ 0x7F

-- bytes are so many fields at most in one way, or in none
abbrev pub NoLengthFields : ℕ → List ℕ → Type 0
NoLengthFields count bytes = (fields : List (List ℕ)) → length fields ≡ count → AreLengthFields fields bytes → ⊥

-- bytes begin with one field
module _ (a b bytes x y : List ℕ) (one : BeginsWithField a bytes x) (other : BeginsWithField b bytes y) where
  same_rest : a ++ x ≡ b ++ y
  same_rest = ap (drop 1) (sym one.spelled ∙ other.spelled)

  as_long : length a ≡ length b
  as_long = ap (λ (s : List ℕ). get_or s 0 0) (sym one.spelled ∙ other.spelled)

  pub one_field : a ≡ b
  one_field = sym (take_at a x (length a) refl) ∙ ap (take (length a)) same_rest ∙ take_at b y (length a) (sym as_long)

  pub rest_after : x ≡ y
  rest_after = sym (drop_at a x (length a) refl) ∙ ap (drop (length a)) same_rest ∙ drop_at b y (length a) (sym as_long)

pub first_begins : (field : List ℕ) (fields : List (List ℕ)) (bytes : List ℕ) → AreLengthFields (field ∷ fields) bytes
    → BeginsWithField field bytes (flat_map with_length fields)
first_begins field fields bytes are = record { short = All-head IsShort field fields are.short; spelled = are.spelled }

pub none_here : (count : ℕ) (bytes : List ℕ) → ((field rest : List ℕ) → BeginsWithField field bytes rest → ⊥) → NoLengthFields (suc count) bytes
none_here count bytes none [] number are = absurd (omega arith)
none_here count bytes none (field ∷ fields) number are = none field _ (first_begins field fields bytes are)

pub none_later : (field bytes rest : List ℕ) (count : ℕ) → BeginsWithField field bytes rest → NoLengthFields count rest → NoLengthFields (suc count) bytes
none_later field bytes rest count begins none [] number are = absurd (omega arith)
none_later field bytes rest count begins none (first ∷ fields) number are =
    none fields (omega arith) (record {
      short = All-tail IsShort first fields are.short;
      spelled = rest_after field first bytes rest _ begins (first_begins first fields bytes are);
    })

pub none_after : (bytes : List ℕ) → (length bytes ≡ 0 → ⊥) → NoLengthFields 0 bytes
none_after bytes more [] number are = more (ap length are.spelled)
none_after bytes more (field ∷ fields) number are = absurd (omega arith)

pub more_fields : (field : List ℕ) (fields : List (List ℕ)) (bytes rest : List ℕ) → BeginsWithField field bytes rest → AreLengthFields fields rest
    → AreLengthFields (field ∷ fields) bytes
more_fields field fields bytes rest begins are = record {
  short = All-cons IsShort field fields begins.short are.short;
  spelled = begins.spelled ∙ ap (λ (s : List ℕ). with_length field ++ s) are.spelled;
}

pub no_more_fields : (bytes : List ℕ) → length bytes ≡ 0 → AreLengthFields [] bytes
no_more_fields bytes none = record { short = All-nil IsShort; spelled = nil_from_length bytes none }

-- what stands before the fields that were not read yet
pub before_more : (field : List ℕ) (fields : List (List ℕ)) (bytes rest last : List ℕ) → BeginsWithField field bytes rest
    → rest ≡ flat_map with_length fields ++ last → bytes ≡ flat_map with_length (field ∷ fields) ++ last
before_more field fields bytes rest last begins spelled =
    begins.spelled ∙ ap (λ (s : List ℕ). with_length field ++ s) spelled ∙ sym (append_assoc (with_length field) (flat_map with_length fields) last)

-- the fields of bytes
pub one_fields : (xs ys : List (List ℕ)) (bytes : List ℕ) → length xs ≡ length ys → AreLengthFields xs bytes → AreLengthFields ys bytes → xs ≡ ys
one_fields [] [] bytes number one other = refl
one_fields [] (y ∷ ys) bytes number one other = absurd (omega arith)
one_fields (x ∷ xs) [] bytes number one other = absurd (omega arith)
one_fields (x ∷ xs) (y ∷ ys) bytes number one other =
    let here = first_begins x xs bytes one in
    let there = first_begins y ys bytes other in
    let first = one_field x y bytes _ _ here there in
    let rest = rest_after x y bytes _ _ here there in
    let behind = one_fields xs ys (flat_map with_length xs) (omega arith)
    (record { short = All-tail IsShort x xs one.short; spelled = refl })
    (record { short = All-tail IsShort y ys other.short; spelled = rest }) in
    (λ i. first i ∷ behind i)

-- the six of an INSTALL
abbrev data_of : List (List ℕ) → InstallData
data_of fields = record {
  first = get_or fields 0 [];
  second = get_or fields 1 [];
  third = get_or fields 2 [];
  privileges = get_or fields 3 [];
  parameters = get_or fields 4 [];
  token = get_or fields 5 [];
}

pub one_data : (a b : InstallData) (body : List ℕ) → IsInstallData a body → IsInstallData b body → a ≡ b
one_data a b body one other = ap data_of (one_fields (signed_fields a ++ a.token ∷ []) (signed_fields b ++ b.token ∷ []) body refl one other)

pub no_data : (body : List ℕ) → NoLengthFields 6 body → (given : InstallData) → IsInstallData given body → ⊥
no_data body none given is = none (signed_fields given ++ given.token ∷ []) refl is

-- the five of an INSTALL [for load]
abbrev load_data_of : List (List ℕ) → LoadData
load_data_of fields =
    record { file = get_or fields 0 []; domain = get_or fields 1 []; hash = get_or fields 2 []; parameters = get_or fields 3 []; token = get_or fields 4 [] }

pub one_load_data : (a b : LoadData) (body : List ℕ) → IsLoadData a body → IsLoadData b body → a ≡ b
one_load_data a b body one other = ap load_data_of (one_fields (signed_load_fields a ++ a.token ∷ []) (signed_load_fields b ++ b.token ∷ []) body refl one other)

pub no_load_data : (body : List ℕ) → NoLengthFields 5 body → (given : LoadData) → IsLoadData given body → ⊥
no_load_data body none given is = none (signed_load_fields given ++ given.token ∷ []) refl is
