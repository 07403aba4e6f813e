-- The lines of commands, of which the last ones wait for a write.
use Rattle.std.proofs.Common.{◌≡◌, ℕ, ◌+◌, ◌≤◌, List, [], ◌∷◌, ◌++◌, length, take, drop, Option, None, Some, Result, Ok, Err, refl, ap, sym, ◌∙◌, append_assoc}
use Rattle.std.specs.Prelude.{MatchOption, OnErr}
use Rattle.std.specs.List.{flat_map, slice_get}
use Rattle.std.proofs.lemmas.Grind.{flat_map-append}
use Rattle.std.proofs.lemmas.List.{append-nil, flat_map_more, take-append-drop, take_all, take_more}
use Rattle.std.proofs.lemmas.Option.{get_or_from_slice_get, slice_get_within}
use Rattle.apdu_core.specs.Apdu.{Apdu}
use Rattle.cap_pack.specs.Pack.{send_line}
use Rattle.gp_tool.proofs.Parts.{part_written}
use Rattle.gp_tool.specs.Cap.{pack_line}

-- a text of which a front was written, and the rest waits
abbrev pub Waits : (old written waiting text : List ℕ) → Type 0
Waits old written waiting text = (front : List ℕ) × (written ≡ old ++ front) × (front ++ waiting ≡ text)

module _ (old written waiting text : List ℕ) (waits : Waits old written waiting text) where
  -- what waits was written
  pub all_written : (new : List ℕ) → new ≡ written ++ waiting → new ≡ old ++ text
  all_written new wrote = wrote ∙ ap (λ w. w ++ waiting) waits.1 ∙ append_assoc old waits.0 waiting ∙ ap (λ t. old ++ t) waits.2

  pub none_waits : (new : List ℕ) → new ≡ written ++ waiting → Waits old new [] text
  none_waits new wrote = (text, all_written new wrote, append-nil text)

  -- more waits
  more_waits : (more longer : List ℕ) → text ++ more ≡ longer → Waits old written (waiting ++ more) longer
  more_waits more longer joined = (waits.0, waits.1, sym (append_assoc waits.0 waiting more) ∙ ap (λ t. t ++ more) waits.2 ∙ joined)

  -- a part of what waits was written
  part_waits : (more longer new : List ℕ) → text ++ more ≡ longer → (n : ℕ) × (new ≡ written ++ take n waiting) → (n : ℕ) × (new ≡ old ++ take n longer)
  unfolding more_waits
  part_waits more longer new joined part =
      let wrote = part_written old waits.0 waiting more written new waits.1 part in
      (wrote.0, wrote.1 ∙ ap (λ t. old ++ take wrote.0 t) (more_waits more longer joined).2)

module _ (commands : List Apdu) where
  -- the lines of the first so many commands
  abbrev pub lines_of_first : ℕ → List ℕ
  lines_of_first i = flat_map pack_line (take i commands)

  next_line : (i : ℕ) (command : Apdu) → slice_get commands i ≡ Some command → lines_of_first i ++ pack_line command ≡ lines_of_first (i + 1)
  next_line i command at =
      flat_map_more pack_line [] (take i commands) command
      ∙ ap (λ x. flat_map pack_line (take i commands ++ x ∷ [])) (sym (get_or_from_slice_get commands i command command at))
      ∙ ap (flat_map pack_line) (sym (take_more commands i command (slice_get_within commands i command at)))

  module _ (i : ℕ) (old written waiting : List ℕ) (waits : Waits old written waiting (lines_of_first i)) where
    -- the line of the command with this index waits too
    pub line_waits : (line : List ℕ) → MatchOption (slice_get commands i) ⊥ (λ command. line ≡ send_line command) → Waits old written (waiting ++ (line ++ 10 ∷ [])) (lines_of_first (i + 1))
    line_waits line made = by (slice_get commands i) refl made
      where
        by : (found : Option Apdu) → slice_get commands i ≡ found → MatchOption found ⊥ (λ command. line ≡ send_line command) → Waits old written (waiting ++ (line ++ 10 ∷ [])) (lines_of_first (i + 1))
        by None at is = absurd is
        by (Some command) at is =
            more_waits old written waiting (lines_of_first i) waits (line ++ 10 ∷ []) (lines_of_first (i + 1))
            (ap (λ l. lines_of_first i ++ (l ++ 10 ∷ [])) is ∙ next_line i command at)

    -- a part of what waits was written, and so a part of all lines
    pub lines_part : (new : List ℕ) → (n : ℕ) × (new ≡ written ++ take n waiting) → (n : ℕ) × (new ≡ old ++ take n (flat_map pack_line commands))
    lines_part new part =
        part_waits old written waiting (lines_of_first i) waits (flat_map pack_line (drop i commands)) (flat_map pack_line commands) new
        (sym (flat_map-append pack_line (take i commands) (drop i commands)) ∙ ap (flat_map pack_line) (take-append-drop i commands)) part

    -- what waits was written, with which all lines were
    pub lines_all : length commands ≤ i → (new : List ℕ) → new ≡ written ++ waiting → new ≡ old ++ flat_map pack_line commands
    lines_all most new wrote = all_written old written waiting (lines_of_first i) waits new wrote ∙ ap (λ (cs : List Apdu). old ++ flat_map pack_line cs) (take_all i commands most)

-- what holds anyhow holds on an error
pub on_err : {T E P : Type 0} (result : Result T E) → P → OnErr result P
on_err (Ok value) holds = tt
on_err (Err error) holds = holds
