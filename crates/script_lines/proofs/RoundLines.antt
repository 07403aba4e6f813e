-- Each line of a round is one of the language.
use Rattle.std.proofs.Common.{◌≡◌, ◌<◌, ◌≤◌, ℕ, List, [], ◌∷◌, ◌++◌, length, refl, arith, Some, None, inl, inr, false, length-append, append_assoc, subst, sym}
use Rattle.std.specs.Prelude.{codes, decimal}
use Rattle.std.specs.Int.{w64, to_be_bytes}
use Rattle.std.proofs.lemmas.Fmt.{length-decimal-le}
use Rattle.hex.specs.Hex.{decode_pairs, encode_with}
use Rattle.card_types.specs.Level.{code_of}
use Rattle.card_types.specs.declared.level.Level.{Level}
use Rattle.script_lines.proofs.Split.{one_word}
use Rattle.script_lines.proofs.Spelled.{aid_bytes, application_digits, challenge_digits, file_digits, level_digits, line_of, number, one_digits, plain, says, spelled_out, stored_digits}
use Rattle.script_lines.specs.Control.{SaysControl}
use Rattle.script_lines.specs.Install.{SpellsParameters, SpellsPrivileges}
use Rattle.script_lines.specs.Load.{SpellsCount, SpellsDomain}
use Rattle.script_lines.specs.Round.{application_of, challenge_of, digits_of, lines_of, round_file}
use Rattle.script_lines.specs.Words.{SpellsAid, SpellsByte, SpellsSome, SpellsUpTo}
use Rattle.script_lines.specs.Workload.{AreLines, IsScriptLine}
use Rattle.script_lines.specs.declared.control.Control.TheVariants.{Reset}
use Rattle.script_lines.specs.declared.exchange.Exchange.TheVariants.{Open, Install, Selectable, Load, Delete, Store, Life, List as Listed}
use Rattle.script_lines.specs.declared.line.ScriptLine.TheVariants.{Control}
use Rattle.script_lines.specs.declared.load_file.Content.TheVariants.{Filled}
use Rattle.script_lines.specs.declared.round.Round.{Round}

-- what the lines of a round need of its fields
pub record IsChosen (r : Round) : Type 0 where
  pub level : (level : Level) × (r.level ≡ code_of level)
  pub least : 1 ≤ r.count
  pub most : r.count ≤ 200
  pub byte : r.byte < 256

reset_line : IsScriptLine (codes "reset")
reset_line =
    ((Control Reset, subst (λ l. SaysControl l Reset) (sym (one_word (codes "reset") (plain (codes "reset") refl))) (refl, refl)), omega arith)

open_line : (r : Round) → IsChosen r → IsScriptLine (codes "open 00 " ++ digits_of r.level ++ codes " " ++ challenge_of r)
unfolding SpellsByte SpellsSome decode_pairs encode_with
open_line r h =
    let level = level_digits r.level h.level.0 h.level.1 in
    let challenge = challenge_digits r in (
      says (codes "00" ∷ digits_of r.level ∷ challenge_of r ∷ [])
          (Open (record { version = 0x00; level = h.level.0; challenge = to_be_bytes w64 r.challenge })) refl
          (plain (codes "00") refl, (spelled_out (digits_of r.level) _ level, (spelled_out (challenge_of r) _ challenge, tt)))
          (refl, level, (challenge, refl)),
      omega arith,
    )

store_line : (r : Round) → IsScriptLine (codes "store 4508" ++ challenge_of r)
unfolding SpellsUpTo encode_with
store_line r =
    let stored = stored_digits r in (
      says ((codes "4508" ++ challenge_of r) ∷ []) (Store (record { items = 0x45 ∷ 0x08 ∷ to_be_bytes w64 r.challenge }))
          refl (spelled_out (codes "4508" ++ challenge_of r) _ stored, tt) (stored, omega arith, omega arith),
      omega arith,
    )

load_line : (r : Round) → IsChosen r → IsScriptLine (codes "load " ++ round_file r ++ codes " - none fill " ++ decimal r.count ++ codes " " ++ digits_of r.byte)
unfolding SpellsAid SpellsByte SpellsCount SpellsDomain encode_with
load_line r h =
    let file = file_digits r in
    let byte = one_digits r.byte h.byte in
    let least = h.least in
    let most = h.most in
    let digits = length-decimal-le 3 r.count (omega arith) (omega (arith, most)) (omega (arith, most)) in
    let whole = length-append (decimal r.count) (32 ∷ digits_of r.byte) in
    let regrouped = append_assoc (decimal r.count) (codes " ") (digits_of r.byte) in
    let file_word = spelled_out (round_file r) _ file in
    let number_word = number r.count (omega (arith, most)) in
    subst (λ l. IsScriptLine (codes "load " ++ round_file r ++ codes " - none fill " ++ l)) (sym regrouped) (
      says (round_file r ∷ codes "-" ∷ codes "none" ∷ codes "fill" ∷ decimal r.count ∷ digits_of r.byte ∷ [])
          (Load (record { file = aid_bytes r 0x01; domain = None; hash = None; content = Filled (record { count = r.count; byte = r.byte }) }))
          refl (file_word, (plain (codes "-") refl, (plain (codes "none") refl, (plain (codes "fill") refl, (number_word, (spelled_out (digits_of r.byte) _ byte, tt))))))
          ((file, (omega arith, omega arith)), refl, refl, (refl, (refl, least, omega (arith, most)), byte)),
      omega (arith, digits, whole),
    )

install_line : (r : Round) → IsScriptLine (codes "install 04 " ++ round_file r ++ codes " " ++ application_of r ++ codes " " ++ application_of r ++ codes " 00 c900")
unfolding SpellsAid SpellsByte SpellsParameters SpellsPrivileges SpellsUpTo decode_pairs encode_with
install_line r =
    let file = file_digits r in
    let application = application_digits r in
    let file_word = spelled_out (round_file r) _ file in
    let word = spelled_out (application_of r) _ application in (
      says (codes "04" ∷ round_file r ∷ application_of r ∷ application_of r ∷ codes "00" ∷ codes "c900" ∷ [])
          (Install (record {
            selectable = false;
            file = aid_bytes r 0x01;
            «module» = aid_bytes r 0x02;
            aid = aid_bytes r 0x02;
            privileges = record { items = 0x00 ∷ [] };
            parameters = record { items = 0xc9 ∷ 0x00 ∷ [] };
          }))
          refl (plain (codes "04") refl, (file_word, (word, (word, (plain (codes "00") refl, (plain (codes "c900") refl, tt)))))) (
            refl,
            (file, (omega arith, omega arith)),
            (application, (omega arith, omega arith)),
            (application, (omega arith, omega arith)),
            ((refl, omega arith, omega arith), inl refl),
            inr (refl, omega arith, omega arith),
          ),
      omega arith,
    )

selectable_line : (r : Round) → IsScriptLine (codes "selectable " ++ application_of r)
unfolding SpellsAid encode_with
selectable_line r =
    let application = application_digits r in (
      says (application_of r ∷ []) (Selectable (aid_bytes r 0x02)) refl
          (spelled_out (application_of r) _ application, tt) (application, (omega arith, omega arith)),
      omega arith,
    )

list_line : IsScriptLine (codes "list 40")
unfolding SpellsByte decode_pairs
list_line = (
  says (codes "40" ∷ []) (Listed (record { p1 = 0x40; prefix = record { items = [] } })) refl
      (plain (codes "40") refl, tt) (refl, refl),
  omega arith,
)

-- `life 40 80` and `life 40 00`
life_line : (r : Round) (word : List ℕ) (p2 : ℕ) → SpellsByte word p2 → length word ≡ 2 → IsScriptLine (line_of (codes "life") (codes "40" ∷ word ∷ application_of r ∷ []))
unfolding SpellsAid SpellsByte decode_pairs encode_with
life_line r word p2 spells two =
    let application = application_digits r in
    let whole = length-append word (32 ∷ application_of r) in (
      says (codes "40" ∷ word ∷ application_of r ∷ []) (Life (record { p1 = 0x40; p2 = p2; aid = Some (aid_bytes r 0x02) }))
          refl (plain (codes "40") refl, (spelled_out word _ spells, (spelled_out (application_of r) _ application, tt)))
          (refl, spells, (application, (omega arith, omega arith))),
      omega (arith, two, whole),
    )

lock_line : (r : Round) → IsScriptLine (codes "life 40 80 " ++ application_of r)
unfolding SpellsByte decode_pairs
lock_line r = life_line r (codes "80") 0x80 refl refl

unlock_line : (r : Round) → IsScriptLine (codes "life 40 00 " ++ application_of r)
unfolding SpellsByte decode_pairs
unlock_line r = life_line r (codes "00") 0x00 refl refl

delete_line : (r : Round) → IsScriptLine (codes "delete " ++ round_file r ++ codes " 80")
unfolding SpellsAid SpellsByte decode_pairs encode_with
delete_line r =
    let file = file_digits r in (
      says (round_file r ∷ codes "80" ∷ []) (Delete (record { aid = aid_bytes r 0x01; p2 = 0x80 })) refl
          (spelled_out (round_file r) _ file, (plain (codes "80") refl, tt)) ((file, (omega arith, omega arith)), refl),
      omega arith,
    )

-- a round's lines, before others
pub round_lines : (r : Round) (others : List (List ℕ)) → IsChosen r → AreLines others → AreLines (lines_of r ++ others)
round_lines r others h rest =
    (reset_line, (open_line r h, (store_line r, (load_line r h, (install_line r, (selectable_line r, (list_line, (lock_line r, (unlock_line r, (delete_line r, rest))))))))))
