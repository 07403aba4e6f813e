-- What the blocks of an Executable Load File bring, one after the other.
use Rattle.std.proofs.Common.{◌≡◌, ℕ, suc, ◌+◌, ◌-◌, ◌*◌, ◌/◌, ◌%◌, ◌<◌, ◌≤◌, List, [], ◌∷◌, ◌++◌, length, take, drop, Bool, true, false, nat_lt, Option, None, Some, refl, sym, ap, ◌∙◌, arith, if◌then◌else◌, append_assoc, length-append, ltb-true, ltb-false}
use Rattle.std.proofs.Math.Seq.{drop-append-add, take-append-add}
use Rattle.std.proofs.lemmas.List.{append-nil, length-drop, nil_from_length, take-append-drop}
use Rattle.bertlv.specs.Length.{LengthBytes}
use Rattle.cmac_kdf.specs.Blocks.{IsBytes}
use Rattle.policy_machine.specs.LoadBlocks.{BringsBytes}
use Rattle.script_tool.specs.Load.{block_element, length_field}
use Rattle.script_tool.specs.Loading.{block_count}
use Rattle.cap_pack.proofs.Octets.{bytes_joined, bytes_more, no_bytes}

-- the length field spells the length, in three bytes at most
module _ (n : ℕ) (most : n ≤ 32_768) where
  field_by : (a b : Bool) → nat_lt n 0x80 ≡ a → nat_lt n 0x100 ≡ b
      → LengthBytes n (if a then n ∷ [] else if b then 0x81 ∷ n ∷ [] else 0x82 ∷ n / 0x100 ∷ n % 0x100 ∷ [])
  field_by true b short longer = (refl, ltb-true n 0x80 short)
  field_by false true short longer = (refl, refl, ltb-false n 0x80 short, ltb-true n 0x100 longer)
  field_by false false short longer =
      (let long = ltb-false n 0x100 longer in (refl, omega arith, long, omega (arith, most), omega arith))

  octets_by : (a b : Bool) → nat_lt n 0x80 ≡ a → nat_lt n 0x100 ≡ b → IsBytes (if a then n ∷ [] else if b then 0x81 ∷ n ∷ [] else 0x82 ∷ n / 0x100 ∷ n % 0x100 ∷ [])
  octets_by true b short longer = bytes_more n [] (let low = ltb-true n 0x80 short in omega (arith, low)) no_bytes
  octets_by false true short longer = bytes_more 0x81 (n ∷ []) (omega arith) (bytes_more n [] (ltb-true n 0x100 longer) no_bytes)
  octets_by false false short longer =
      bytes_more 0x82 (n / 0x100 ∷ n % 0x100 ∷ []) (omega arith)
      (bytes_more (n / 0x100) (n % 0x100 ∷ []) (omega (arith, most)) (bytes_more (n % 0x100) [] (omega arith) no_bytes))

  field_octets : IsBytes (length_field n)
  field_octets = octets_by (nat_lt n 0x80) (nat_lt n 0x100) refl refl

  field_spells : LengthBytes n (length_field n)
  field_spells = field_by (nat_lt n 0x80) (nat_lt n 0x100) refl refl

short_by : (a b : Bool) (n : ℕ) → length (if a then n ∷ [] else if b then 0x81 ∷ n ∷ [] else 0x82 ∷ n / 0x100 ∷ n % 0x100 ∷ []) ≤ 3
short_by true b n = omega arith
short_by false true n = omega arith
short_by false false n = omega arith

field_short : (n : ℕ) → length (length_field n) ≤ 3
field_short n = short_by (nat_lt n 0x80) (nat_lt n 0x100) n

pub element_octets : (bytes : List ℕ) → length bytes ≤ 32_768 → IsBytes bytes → IsBytes (block_element bytes)
element_octets bytes most are =
    bytes_more 0xC4 (length_field (length bytes) ++ bytes) (omega arith)
    (bytes_joined (length_field (length bytes)) bytes (field_octets (length bytes) most) are)

-- Of the bytes of a file some have come, and this is what is still to come: before the first block all of it, after its tag and its length.
abbrev pub IsAhead : List ℕ → Option ℕ → (so_far rest : List ℕ) → Type 0
IsAhead bytes None so_far rest = (so_far ≡ []) × (rest ≡ block_element bytes)
IsAhead bytes (Some size) so_far rest = (size ≡ length bytes) × (so_far ++ rest ≡ bytes)

-- the next block brings a piece
pub record Brings (bytes : List ℕ) (announced : Option ℕ) (last : Bool) (so_far rest : List ℕ) : Type 0 where
  pub piece : List ℕ
  pub brings : BringsBytes announced (record { last = last; field = take 239 rest }) (length bytes) piece
  pub joined : (so_far ++ piece) ++ drop 239 rest ≡ bytes

pub brought : (bytes : List ℕ) → 1 ≤ length bytes → length bytes ≤ 32_768 → (announced : Option ℕ) (last : Bool) (so_far rest : List ℕ)
    → IsAhead bytes announced so_far rest → Brings bytes announced last so_far rest
brought bytes some most None last so_far rest ahead =
    let field : List ℕ = length_field (length bytes) in
    let k : ℕ = 238 - length field in
    let whole : 238 ≡ length field + k = (let short = field_short (length bytes) in omega (arith, short)) in
    let front : take 238 (field ++ bytes) ≡ field ++ take k bytes = ap (λ (n : ℕ). take n (field ++ bytes)) whole ∙ take-append-add field bytes k in
    let back : drop 238 (field ++ bytes) ≡ drop k bytes = ap (λ (n : ℕ). drop n (field ++ bytes)) whole ∙ drop-append-add field bytes k in
    record {
      piece = take k bytes;
      brings = record {
        length_field = field;
        spells = field_spells (length bytes) most;
        some = λ none. omega (arith, none, some);
        joined = ap (take 239) ahead.1 ∙ ap (λ (s : List ℕ). 0xC4 ∷ s) front;
      };
      joined = (λ i. (ahead.0 i ++ take k bytes) ++ drop 239 (ahead.1 i)) ∙ ap (λ (s : List ℕ). take k bytes ++ s) back ∙ take-append-drop k bytes;
    }
brought bytes some most (Some size) last so_far rest ahead = record {
  piece = take 239 rest;
  brings = (sym ahead.0, refl);
  joined = append_assoc so_far (take 239 rest) (drop 239 rest) ∙ ap (λ (s : List ℕ). so_far ++ s) (take-append-drop 239 rest) ∙ ahead.1;
}

-- `left` blocks are still to come
pub record AreLeft (left : ℕ) (rest : List ℕ) : Type 0 where
  pub few : length rest ≤ 239 * left
  pub more : 239 * left < length rest + 239

pub left_of_all : (rest : List ℕ) → AreLeft (block_count 239 rest) rest
left_of_all rest = record { few = omega arith; more = omega arith }

pub left_after : (left : ℕ) (rest : List ℕ) → AreLeft (suc (suc left)) rest → AreLeft (suc left) (drop 239 rest)
left_after left rest are = record { few = omega (arith, are.few, length-drop 239 rest); more = omega (arith, are.more, length-drop 239 rest) }

-- the element of a file has few blocks
pub few_blocks : (bytes : List ℕ) → 1 ≤ length bytes → length bytes ≤ 32_768 → (1 ≤ block_count 239 (block_element bytes)) × (block_count 239 (block_element bytes) ≤ 138)
few_blocks bytes some most =
    let size : length (block_element bytes) ≡ 1 + length (length_field (length bytes)) + length bytes = omega (arith, length-append (length_field (length bytes)) bytes) in
    let short = field_short (length bytes) in
    (omega (arith, size, some), omega (arith, size, short, most))

-- with the last block all bytes have come
pub all_come : (bytes so_far rest : List ℕ) → length rest ≤ 239 → so_far ++ drop 239 rest ≡ bytes → so_far ≡ bytes
all_come bytes so_far rest few joined =
    let none : drop 239 rest ≡ [] = nil_from_length (drop 239 rest) (omega (arith, few, length-drop 239 rest)) in
    sym (append-nil so_far) ∙ ap (λ (s : List ℕ). so_far ++ s) (sym none) ∙ joined
