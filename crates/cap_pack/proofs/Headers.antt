-- Headers, put together and taken apart.
use Rattle.std.proofs.Common.{◌≡◌, ◌≤◌, ℕ, List, Option, None, Some, [], ◌∷◌, ◌++◌, length, take, drop, true, nat_eq, sym, ap, subst, ◌∙◌, append_assoc}
use Rattle.std.specs.Cmp.Lexicographic.{pointwise, same_text}
use Rattle.std.proofs.lemmas.List.{append_cancel_left, take-append-drop}
use Rattle.card_types.specs.Aid.{IsAid}
use Rattle.tokens_receipts.specs.Receipt.{with_length}
use Rattle.script_tool.specs.Words.{Reads}
use Rattle.cap_pack.specs.Cap.{HasHeader, IsHeader}
use Rattle.cap_pack.specs.Components.{AreComponents, Component, IsComponent, component_bytes}
use Rattle.cap_pack.specs.declared.component.TheConstants.{HEADER}
use Rattle.cap_pack.proofs.ComponentLists.{first_is}
use Rattle.cap_pack.proofs.Fronts.{same_fronts}

abbrev pub magic : List ℕ
magic = 0xDE ∷ 0xCA ∷ 0xFF ∷ 0xED ∷ []

-- content that begins with DECAFFED, five further bytes, and an AID after its length
pub header_read : (content after named aid rest : List ℕ) → content ≡ magic ++ after → 5 ≤ length after → named ≡ drop 5 after
    → length (take 5 after) ≡ 5 → IsAid aid → named ≡ with_length aid ++ rest → IsHeader aid content
header_read content after named aid rest begins some cut five is_aid is = record {
  unread = take 5 after;
  rest = rest;
  five = five;
  aid = is_aid;
  is = begins ∙ ap (λ (s : List ℕ). magic ++ s) (sym (take-append-drop 5 after) ∙ ap (λ (s : List ℕ). take 5 after ++ s) (sym cut ∙ is) ∙ sym (append_assoc (take 5 after) (with_length aid) rest));
}

-- what follows DECAFFED and five further bytes of a header
pub after_unread : (content after named file : List ℕ) → content ≡ magic ++ after → 5 ≤ length after → named ≡ drop 5 after
    → length (take 5 after) ≡ 5 → (header : IsHeader file content) → named ≡ with_length file ++ header.rest
after_unread content after named file begins some cut five header =
    let whole : magic ++ after ≡ magic ++ (header.unread ++ with_length file ++ header.rest) = sym begins ∙ header.is in
    let same : after ≡ header.unread ++ (with_length file ++ header.rest) =
    append_cancel_left magic after (header.unread ++ with_length file ++ header.rest) whole ∙ append_assoc header.unread (with_length file) header.rest in
    cut ∙ (same_fronts (take 5 after) header.unread (drop 5 after) (with_length file ++ header.rest) (five ∙ sym header.five) (take-append-drop 5 after ∙ same)).1

-- what a test for a prefix has told
pub begins_with : (content prefix after : List ℕ) → prefix ≡ magic → pointwise nat_eq (take (length prefix) content) prefix ≡ true
    → after ≡ drop (length prefix) content → content ≡ magic ++ after
begins_with content prefix after is passed cut =
    let front : take (length prefix) content ≡ prefix = same_text (take (length prefix) content) prefix (sym passed) in
    sym (take-append-drop (length prefix) content) ∙ (λ i. (front ∙ is) i ++ sym cut i)

with_tag : (c : Component) (others : List Component) (answer : Option (List ℕ)) → c.tag ≡ HEADER
    → Reads (λ file. IsHeader file c.content) answer → Reads (λ file. HasHeader file (c ∷ others)) answer
with_tag c others None tag reads = λ file has. reads file has.1
with_tag c others (Some file) tag reads = (tag, reads)

-- the first component tells the header
pub header_first : (cs : List Component) (c : Component) (x bytes : List ℕ) (answer : Option (List ℕ)) → AreComponents cs bytes → IsComponent c → bytes ≡ component_bytes c ++ x
    → c.tag ≡ HEADER → Reads (λ file. IsHeader file c.content) answer → Reads (λ file. HasHeader file cs) answer
header_first cs c x bytes answer are ic is tag reads =
    let first = first_is cs c x bytes are ic is in
    subst (λ (l : List Component). Reads (λ file. HasHeader file l) answer) (sym first.1) (with_tag c first.0 answer tag reads)
