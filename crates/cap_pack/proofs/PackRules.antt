-- The commands of a CAP file, by their index.
use Rattle.std.proofs.Common.{◌≡◌, ◌≤◌, ◌<◌, ◌+◌, ◌-◌, ◌*◌, ℕ, zero, suc, List, [], ◌∷◌, ◌++◌, Option, Some, MatchOption, eqb, length, drop, take, map, refl, sym, ap, subst, ◌∙◌, arith, length-append}
use Rattle.std.specs.Prelude.{IsSome, option_map, slice_get}
use Rattle.std.specs.List.{flat_map}
use Rattle.std.proofs.lemmas.List.{drop-drop, length-map}
use Rattle.std.proofs.lemmas.Option.{slice_get-get_or, slice_get-map}
use Rattle.apdu_core.specs.Apdu.{Apdu}
use Rattle.card_types.specs.Aid.{IsAid}
use Rattle.script_tool.specs.Load.{block_command, block_element, load_blocks}
use Rattle.script_tool.specs.Loading.{block_count}
use Rattle.script_tool.specs.Tokens.{install_command}
use Rattle.script_lines.specs.declared.tokens.Tokens.TheVariants.{Absent}
use Rattle.tokens_receipts.specs.Receipt.{with_length}
use Rattle.cap_pack.specs.Pack.{block_at, block_size, installing_applet, installing_file, pack, send_line}
use Rattle.cap_pack.proofs.Fronts.{get_back, get_front}

-- ---- blocks

load_count : (size left number : ℕ) (bytes : List ℕ) → length (load_blocks size left number bytes) ≡ left
load_count size zero number bytes = refl
load_count size (suc left) number bytes = ap (λ (n : ℕ). suc n) (load_count size left (number + 1) (drop size bytes))

load_at : (size left number : ℕ) (bytes : List ℕ) (k : ℕ) → k < left
    → slice_get (load_blocks size left number bytes) k ≡ Some (block_command (eqb (left - (k + 1)) 0) (number + k) (take size (drop (k * size) bytes)))
load_at size zero number bytes k within = absurd (omega arith)
load_at size (suc left) number bytes zero within =
    let all : left ≡ suc left - 1 = omega arith in
    let none : number ≡ number + 0 = omega arith in
    let start : 0 ≡ 0 * size = omega arith in
    λ i. Some (block_command (eqb (all i) 0) (none i) (take size (drop (start i) bytes)))
load_at size (suc left) number bytes (suc k) within =
    let fewer : left - (k + 1) ≡ suc left - (suc k + 1) = omega arith in
    let later : number + 1 + k ≡ number + suc k = omega arith in
    let place : size + k * size ≡ suc k * size = omega arith in
    let rest : drop (k * size) (drop size bytes) ≡ drop (suc k * size) bytes = drop-drop (k * size) size bytes ∙ ap (λ (n : ℕ). drop n bytes) place in
    load_at size left (number + 1) (drop size bytes) k (omega arith) ∙ (λ i. Some (block_command (eqb (fewer i) 0) (later i) (take size (rest i))))

-- ---- the commands

abbrev pub count_in : List ℕ → ℕ
count_in bytes = block_count block_size (block_element bytes)

abbrev blocks_in : List ℕ → List Apdu
blocks_in bytes = load_blocks block_size (count_in bytes) 0 (block_element bytes)

-- how many there are
pub pack_length : (file bytes : List ℕ) (aids : List (List ℕ)) → length (pack file bytes aids) ≡ 1 + count_in bytes + length aids
pack_length file bytes aids =
    let blocks = load_count block_size (count_in bytes) 0 (block_element bytes) in
    let both = length-append (blocks_in bytes) (map (installing_applet file) aids) in
    let applets = length-map aids (installing_applet file) in
    omega (arith, blocks, both, applets)

block_of : (file bytes : List ℕ) (aids : List (List ℕ)) (k : ℕ) → k < count_in bytes
    → slice_get (pack file bytes aids) (suc k) ≡ Some (block_at (count_in bytes - (k + 1)) k (block_element bytes))
block_of file bytes aids k within =
    let count = load_count block_size (count_in bytes) 0 (block_element bytes) in
    let zero' : 0 + k ≡ k = omega arith in
    get_front (blocks_in bytes) (map (installing_applet file) aids) k (omega (arith, count))
    ∙ load_at block_size (count_in bytes) 0 (block_element bytes) k within
    ∙ (λ i. Some (block_command (eqb (count_in bytes - (k + 1)) 0) (zero' i) (take block_size (drop (k * block_size) (block_element bytes)))))

applet_of : (file bytes : List ℕ) (aids : List (List ℕ)) (k : ℕ) (aid : List ℕ) → count_in bytes ≤ k → Some aid ≡ slice_get aids (k - count_in bytes)
    → slice_get (pack file bytes aids) (suc k) ≡ Some (installing_applet file aid)
applet_of file bytes aids k aid beyond is =
    let count = load_count block_size (count_in bytes) 0 (block_element bytes) in
    get_back (blocks_in bytes) (map (installing_applet file) aids) k (omega (arith, count))
    ∙ ap (λ (n : ℕ). slice_get (map (installing_applet file) aids) (k - n)) count
    ∙ slice_get-map (installing_applet file) aids (k - count_in bytes)
    ∙ ap (option_map (installing_applet file)) (sym is)

-- ---- their lines

abbrev pub IsLineAt : (file bytes : List ℕ) (aids : List (List ℕ)) (index : ℕ) → List ℕ → Type 0
IsLineAt file bytes aids index line = MatchOption (slice_get (pack file bytes aids) index) ⊥ (λ command. line ≡ send_line command)

line_at : (file bytes : List ℕ) (aids : List (List ℕ)) (index k : ℕ) (line : List ℕ) (command : Apdu) → index ≡ k → slice_get (pack file bytes aids) k ≡ Some command
    → line ≡ send_line command → IsLineAt file bytes aids index line
line_at file bytes aids index k line command at there is =
    subst (λ (o : Option Apdu). MatchOption o ⊥ (λ command. line ≡ send_line command)) (sym (ap (slice_get (pack file bytes aids)) at ∙ there)) is

pub install_line : (file bytes : List ℕ) (aids : List (List ℕ)) (index : ℕ) (line : List ℕ) → index ≡ 0 → line ≡ send_line (installing_file file bytes) → IsLineAt file bytes aids index line
install_line file bytes aids index line at is = line_at file bytes aids index 0 line (installing_file file bytes) at refl is

pub block_line : (file bytes : List ℕ) (aids : List (List ℕ)) (index count number : ℕ) (line : List ℕ) → index ≡ suc number → count ≡ count_in bytes → number < count
    → line ≡ send_line (block_at (count - (number + 1)) number (block_element bytes)) → IsLineAt file bytes aids index line
block_line file bytes aids index count number line at many within is =
    line_at file bytes aids index (suc number) line (block_at (count_in bytes - (number + 1)) number (block_element bytes)) at (block_of file bytes aids number (omega (arith, many)))
    (is ∙ ap (λ (n : ℕ). send_line (block_at (n - (number + 1)) number (block_element bytes))) many)

pub applet_line : (file bytes : List ℕ) (aids : List (List ℕ)) (index count : ℕ) (aid line : List ℕ) → count < index → count ≡ count_in bytes
    → Some aid ≡ slice_get aids (index - 1 - count) → line ≡ send_line (installing_applet file aid) → IsLineAt file bytes aids index line
applet_line file bytes aids index count aid line beyond many is wrote =
    line_at file bytes aids index (suc (index - 1)) line (installing_applet file aid) (omega arith)
    (applet_of file bytes aids (index - 1) aid (omega (arith, many)) (is ∙ ap (λ (n : ℕ). slice_get aids (index - 1 - n)) many)) wrote

-- ---- their sizes

install_size : (p1 : ℕ) (fields : List (List ℕ)) → length (install_command Absent p1 fields).body ≡ length (flat_map with_length fields) + 1
install_size p1 fields = length-append (flat_map with_length fields) (0 ∷ [])

pub short_file : (file hash : List ℕ) → IsAid file → length hash ≤ 32 → length (install_command Absent 0x02 (file ∷ [] ∷ hash ∷ [] ∷ [])).body ≤ 239
short_file file hash is_aid short =
    omega (arith, install_size 0x02 (file ∷ [] ∷ hash ∷ [] ∷ []), length-append file (0 ∷ length hash ∷ hash ++ 0 ∷ []), length-append hash (0 ∷ []))

pub short_applet : (file aid : List ℕ) → IsAid file → IsAid aid → length (installing_applet file aid).body ≤ 239
short_applet file aid is_aid too =
    let last : List ℕ = 1 ∷ 0 ∷ 2 ∷ 0xC9 ∷ 0 ∷ [] in
    omega (
      arith,
      install_size 0x0C (file ∷ aid ∷ aid ∷ (0x00 ∷ []) ∷ (0xC9 ∷ 0x00 ∷ []) ∷ []),
      length-append file (length aid ∷ aid ++ (length aid ∷ aid ++ last)),
      length-append aid (length aid ∷ aid ++ last),
      length-append aid last,
    )

-- what follows the blocks is an applet
pub applet_there : (file bytes : List ℕ) (aids : List (List ℕ)) (index count : ℕ) (answer : Option (List ℕ)) → index < length (pack file bytes aids) → count ≡ count_in bytes → count < index
    → (index - 1 - count < length aids → answer ≡ slice_get aids (index - 1 - count)) → IsSome answer
applet_there file bytes aids index count answer within many beyond named =
    let less : index - 1 - count < length aids = omega (arith, within, many, pack_length file bytes aids) in
    subst (λ (o : Option (List ℕ)). IsSome o) (sym (named less ∙ slice_get-get_or aids (index - 1 - count) [] less)) refl
