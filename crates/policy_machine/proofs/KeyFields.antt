-- The key fields of PUT KEY: what bytes begin with one, and what keys are read from them.
use Rattle.std.proofs.Common.{◌≡◌, ℕ, suc, ◌+◌, ◌-◌, ◌≤◌, List, [], ◌∷◌, ◌++◌, length, get_or, take, drop, map, refl, sym, ap, subst, ◌∙◌, arith, append_assoc, length-append}
use Rattle.std.specs.Prelude.{All}
use Rattle.std.specs.List.{concat}
use Rattle.std.proofs.lemmas.List.{drop-drop, drop_at, drop_more, get_or_append_left, get_or_at, length-drop, nil_from_length, length-take-le, take-append-drop, take_at}
use Rattle.std.proofs.lemmas.List.Elements.{All-cons, All-head, All-nil, All-tail}
use Rattle.policy_machine.specs.Prelude.{AreFields, AreOfOneLength, BeginsWithKey, HasFieldLengths, IsKeyLength, NoFields, SentKey, key_field, sealed_size}

-- the places of the bytes that are the same in each field of a key of this length
pub record HasMarks (size : ℕ) (bytes : List ℕ) : Type 0 where
  pub is_length : IsKeyLength size
  pub long : sealed_size size + 7 ≤ length bytes
  pub kind : get_or bytes 0 0 ≡ 0x88
  pub key_data : get_or bytes 1 0 ≡ sealed_size size + 1
  pub key_size : get_or bytes 2 0 ≡ size
  pub check_size : get_or bytes (sealed_size size + 3) 0 ≡ 0x03

length_field : (key : SentKey) → HasFieldLengths key → length (key_field key) ≡ sealed_size key.size + 7
length_field key lengths =
    let sealed = lengths.sealed in
    let check = lengths.check in
    omega (arith, length-append key.sealed (0x03 ∷ key.check))

pub marks_from_field : (key : SentKey) (bytes rest : List ℕ) → BeginsWithKey key bytes rest → HasMarks key.size bytes
marks_from_field key bytes rest begins = subst (HasMarks key.size) (sym begins.spelled) (record {
  is_length = begins.lengths.size;
  long = (let field = length_field key begins.lengths in omega (arith, length-append (key_field key) rest));
  kind = refl;
  key_data = refl;
  key_size = refl;
  check_size =
      (let field = length_field key begins.lengths in
      let sealed = begins.lengths.sealed in
      get_or_append_left (key_field key) rest 0 (sealed_size key.size + 3) (omega arith)
      ∙ get_or_at (0x88 ∷ (sealed_size key.size + 1) ∷ key.size ∷ key.sealed) 0x03 key.check 0 (sealed_size key.size + 3) (omega arith));
})

-- the key of a field: its parts by the places where they begin and end
abbrev pub key_between : ℕ → ℕ → ℕ → List ℕ → SentKey
key_between size mark end bytes = record { size = size; sealed = take (mark - 3) (drop 3 bytes); check = take (end - (mark + 1)) (drop (mark + 1) bytes) }

pub field_from_marks : (size mark end : ℕ) (bytes : List ℕ) → mark ≡ sealed_size size + 3 → end ≡ mark + 4 → HasMarks size bytes
    → BeginsWithKey (key_between size mark end bytes) bytes (drop end bytes)
field_from_marks size mark end bytes at last marks =
    let long = marks.long in
    let kind = marks.kind in
    let key_data = marks.key_data in
    let key_size = marks.key_size in
    let check_size : get_or bytes mark 0 ≡ 0x03 = subst (λ (n : ℕ). get_or bytes n 0 ≡ 0x03) (sym at) marks.check_size in
    let first = drop_more bytes 0 0 (omega arith) in
    let second = drop_more bytes 1 0 (omega arith) in
    let third = drop_more bytes 2 0 (omega arith) in
    let behind = drop_more bytes mark 0 (omega arith) in
    let sealed : drop 3 bytes ≡ take (mark - 3) (drop 3 bytes) ++ drop mark bytes =
    sym (take-append-drop (mark - 3) (drop 3 bytes)) ∙ ap (λ (s : List ℕ). take (mark - 3) (drop 3 bytes) ++ s) (drop-drop (mark - 3) 3 bytes ∙ ap (λ (n : ℕ). drop n bytes) (omega arith)) in
    let check : drop (mark + 1) bytes ≡ take (end - (mark + 1)) (drop (mark + 1) bytes) ++ drop end bytes =
    sym (take-append-drop (end - (mark + 1)) (drop (mark + 1) bytes))
    ∙ ap (λ (s : List ℕ). take (end - (mark + 1)) (drop (mark + 1) bytes) ++ s) (drop-drop (end - (mark + 1)) (mark + 1) bytes ∙ ap (λ (n : ℕ). drop n bytes) (omega arith)) in
    let joined = append_assoc (take (mark - 3) (drop 3 bytes)) (0x03 ∷ take (end - (mark + 1)) (drop (mark + 1) bytes)) (drop end bytes) in
    record {
      lengths = record {
        size = marks.is_length;
        sealed = length-take-le (mark - 3) (drop 3 bytes) (omega (arith, length-drop 3 bytes)) ∙ omega arith;
        check = length-take-le (end - (mark + 1)) (drop (mark + 1) bytes) (omega (arith, length-drop (mark + 1) bytes)) ∙ omega arith;
      };
      spelled = cc;
    }

-- bytes begin with the field of one key
one_size : (a b : SentKey) (bytes x y : List ℕ) → BeginsWithKey a bytes x → BeginsWithKey b bytes y → a.size ≡ b.size
one_size a b bytes x y one other = sym (marks_from_field a bytes x one).key_size ∙ (marks_from_field b bytes y other).key_size

module _ (a b : SentKey) (bytes x y : List ℕ) (one : BeginsWithKey a bytes x) (other : BeginsWithKey b bytes y) where
  as_long : length (key_field b) ≡ length (key_field a)
  as_long = (let size = one_size a b bytes x y one other in omega (arith, length_field a one.lengths, length_field b other.lengths))

  pub one_rest : x ≡ y
  one_rest =
      sym (drop_at (key_field a) x (length (key_field a)) refl) ∙ ap (drop (length (key_field a))) (sym one.spelled ∙ other.spelled)
      ∙ drop_at (key_field b) y (length (key_field a)) as_long

  pub one_key : a ≡ b
  one_key =
      let size = one_size a b bytes x y one other in
      let field : key_field a ≡ key_field b =
      sym (take_at (key_field a) x (length (key_field a)) refl) ∙ ap (take (length (key_field a))) (sym one.spelled ∙ other.spelled)
      ∙ take_at (key_field b) y (length (key_field a)) as_long in
      let same : a.sealed ++ 0x03 ∷ a.check ≡ b.sealed ++ 0x03 ∷ b.check = ap (drop 3) field in
      let first = one.lengths.sealed in
      let second = other.lengths.sealed in
      let long : length b.sealed ≡ length a.sealed = omega arith in
      let sealed : a.sealed ≡ b.sealed =
      sym (take_at a.sealed (0x03 ∷ a.check) (length a.sealed) refl) ∙ ap (take (length a.sealed)) same ∙ take_at b.sealed (0x03 ∷ b.check) (length a.sealed) long in
      let check : a.check ≡ b.check =
      ap (drop 1) (sym (drop_at a.sealed (0x03 ∷ a.check) (length a.sealed) refl) ∙ ap (drop (length a.sealed)) same ∙ drop_at b.sealed (0x03 ∷ b.check) (length a.sealed) long) in
      (λ i. record { size = size i; sealed = sealed i; check = check i })

-- the first of the key fields, and those after it
pub first_of_fields : (key : SentKey) (keys : List SentKey) (bytes : List ℕ) → All HasFieldLengths (key ∷ keys) → bytes ≡ concat (map key_field (key ∷ keys))
    → BeginsWithKey key bytes (concat (map key_field keys))
first_of_fields key keys bytes each spelled = record { lengths = All-head HasFieldLengths key keys each; spelled = spelled }

abbrev pub has_size : ℕ → SentKey → Type 0
has_size size key = key.size ≡ size

tail_alike : (key : SentKey) (keys : List SentKey) → AreOfOneLength (key ∷ keys) → AreOfOneLength keys
tail_alike key keys alike = (alike.0, All-tail (has_size alike.0) key keys alike.1)

no_fields : AreFields 0 [] []
no_fields = record { number = refl; each = All-nil HasFieldLengths; alike = (0, All-nil (has_size 0)); spelled = refl }

pub more_fields : (key : SentKey) (bytes rest : List ℕ) (count : ℕ) (keys : List SentKey) → BeginsWithKey key bytes rest → All (has_size key.size) keys
    → AreFields count rest keys → AreFields (suc count) bytes (key ∷ keys)
more_fields key bytes rest count keys begins long fields = record {
  number = ap suc fields.number;
  each = All-cons HasFieldLengths key keys begins.lengths fields.each;
  alike = (key.size, All-cons (has_size key.size) key keys refl long);
  spelled = begins.spelled ∙ ap (λ (s : List ℕ). key_field key ++ s) fields.spelled;
}

-- no bytes are after the last key field
pub last_field : (key : SentKey) (bytes rest : List ℕ) → BeginsWithKey key bytes rest → length rest ≡ 0 → AreFields 1 bytes (key ∷ [])
last_field key bytes rest begins none =
    more_fields key bytes rest 0 [] begins (All-nil (has_size key.size)) (subst (λ (behind : List ℕ). AreFields 0 behind []) (sym (nil_from_length rest none)) no_fields)

-- the key that the bytes begin with is the first of the fields' keys, and the others' are after it
after_first : (key : SentKey) (bytes rest : List ℕ) (count : ℕ) (first : SentKey) (keys : List SentKey) → BeginsWithKey key bytes rest
    → AreFields (suc count) bytes (first ∷ keys) → (key ≡ first) × AreFields count rest keys
after_first key bytes rest count first keys begins fields =
    let here = first_of_fields first keys bytes fields.each fields.spelled in (
      one_key key first bytes rest (concat (map key_field keys)) begins here,
      record {
        number = (let number = fields.number in omega arith);
        each = All-tail HasFieldLengths first keys fields.each;
        alike = tail_alike first keys fields.alike;
        spelled = one_rest key first bytes rest (concat (map key_field keys)) begins here;
      },
    )

-- where the bytes are no key fields
pub none_here : (count : ℕ) (bytes : List ℕ) → ((key : SentKey) (rest : List ℕ) → BeginsWithKey key bytes rest → ⊥) → NoFields (suc count) bytes
none_here count bytes none [] fields = (let number = fields.number in absurd (omega arith))
none_here count bytes none (key ∷ keys) fields = none key _ (first_of_fields key keys bytes fields.each fields.spelled)

pub none_later : (key : SentKey) (bytes rest : List ℕ) (count : ℕ) → BeginsWithKey key bytes rest → NoFields count rest → NoFields (suc count) bytes
none_later key bytes rest count begins none [] fields = (let number = fields.number in absurd (omega arith))
none_later key bytes rest count begins none (first ∷ keys) fields = none keys (after_first key bytes rest count first keys begins fields).1

-- where three keys have two lengths, the bytes are no key fields
pub none_unlike : (enc mac dek : SentKey) (bytes second third rest : List ℕ) → BeginsWithKey enc bytes second → BeginsWithKey mac second third
    → BeginsWithKey dek third rest → (mac.size ≡ enc.size → dek.size ≡ enc.size → ⊥) → NoFields 3 bytes
none_unlike enc mac dek bytes second third rest one two three unlike [] fields = (let number = fields.number in absurd (omega arith))
none_unlike enc mac dek bytes second third rest one two three unlike (a ∷ []) fields = (let number = fields.number in absurd (omega arith))
none_unlike enc mac dek bytes second third rest one two three unlike (a ∷ b ∷ []) fields = (let number = fields.number in absurd (omega arith))
none_unlike enc mac dek bytes second third rest one two three unlike (a ∷ b ∷ c ∷ keys) fields =
    let size = fields.alike.0 in
    let all = fields.alike.1 in
    let later = All-tail (has_size size) a (b ∷ c ∷ keys) all in
    let first : a.size ≡ size = All-head (has_size size) a (b ∷ c ∷ keys) all in
    let next : b.size ≡ size = All-head (has_size size) b (c ∷ keys) later in
    let last : c.size ≡ size = All-head (has_size size) c keys (All-tail (has_size size) b (c ∷ keys) later) in
    let at_first = after_first enc bytes second 2 a (b ∷ c ∷ keys) one fields in
    let at_next = after_first mac second third 1 b (c ∷ keys) two at_first.1 in
    let at_last = after_first dek third rest 0 c keys three at_next.1 in
    let enc_size : enc.size ≡ size = ap (λ (k : SentKey). k.size) at_first.0 ∙ first in
    let mac_size : mac.size ≡ size = ap (λ (k : SentKey). k.size) at_next.0 ∙ next in
    let dek_size : dek.size ≡ size = ap (λ (k : SentKey). k.size) at_last.0 ∙ last in
    unlike (mac_size ∙ sym enc_size) (dek_size ∙ sym enc_size)

pub none_after : (bytes : List ℕ) → (length bytes ≡ 0 → ⊥) → NoFields 0 bytes
none_after bytes more [] fields = more (ap length fields.spelled)
none_after bytes more (key ∷ keys) fields = (let number = fields.number in absurd (omega arith))

-- the keys of key fields
pub one_fields : (xs ys : List SentKey) (bytes : List ℕ) (count : ℕ) → AreFields count bytes xs → AreFields count bytes ys → xs ≡ ys
one_fields [] [] bytes count one other = refl
one_fields [] (y ∷ ys) bytes count one other = (let a = one.number in let b = other.number in absurd (omega arith))
one_fields (x ∷ xs) [] bytes count one other = (let a = one.number in let b = other.number in absurd (omega arith))
one_fields (x ∷ xs) (y ∷ ys) bytes count one other =
    let begins = first_of_fields x xs bytes one.each one.spelled in
    let later = after_first x bytes (concat (map key_field xs)) (length xs) y ys begins (record {
      number = (let n = one.number in let m = other.number in omega arith);
      each = other.each;
      alike = other.alike;
      spelled = other.spelled;
    }) in
    let behind = one_fields xs ys (concat (map key_field xs)) (length xs)
    (record { number = refl; each = All-tail HasFieldLengths x xs one.each; alike = tail_alike x xs one.alike; spelled = refl }) later.1 in
    (λ i. later.0 i ∷ behind i)
