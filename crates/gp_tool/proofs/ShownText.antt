-- The text of a registry, in the parts that it is written in.
use Rattle.std.proofs.Common.{◌≡◌, ℕ, List, ◌++◌, take, sym, ap, ◌∙◌, append_assoc}
use Rattle.std.specs.List.{flat_map}
use Rattle.card_types.specs.Registry.{Registry}
use Rattle.io_edge.specs.Streams.{SinkState}
use Rattle.gp_tool.proofs.Parts.{part_of_both, part_of_second, part_written}
use Rattle.gp_tool.specs.Show.{card_line, counter_line, entry_line, file_line, key_line, object_line, registry_text}

-- what a sink was given by its meaning
abbrev pub written_of : {K : Type 0} → (K → SinkState) → K → List ℕ
written_of state sink = (state sink).written

regroup : (a b c d e f : List ℕ) → a ++ b ++ c ++ d ++ e ++ f ≡ (a ++ b) ++ (c ++ (d ++ (e ++ f)))
regroup a b c d e f = simp append_assoc

module _ (registry : Registry) where
  abbrev front : List ℕ
  front = card_line registry.life ++ flat_map entry_line registry.entries

  abbrev files : List ℕ
  files = flat_map file_line registry.files

  abbrev owned : List ℕ
  owned = flat_map key_line registry.keys ++ (flat_map counter_line registry.counters ++ flat_map object_line registry.objects)

  in_parts : registry_text registry ≡ front ++ (files ++ owned)
  in_parts =
      regroup (card_line registry.life) (flat_map entry_line registry.entries) (flat_map file_line registry.files) (flat_map key_line registry.keys)
      (flat_map counter_line registry.counters) (flat_map object_line registry.objects)

  whole : (old new text : List ℕ) → text ≡ registry_text registry → (n : ℕ) × (new ≡ old ++ take n text) → (n : ℕ) × (new ≡ old ++ take n (registry_text registry))
  whole old new text is part = (part.0, part.1 ∙ ap (λ t. old ++ take part.0 t) is)

  pub all_shown : (s0 s1 s2 s3 : List ℕ) → s1 ≡ s0 ++ front → s2 ≡ s1 ++ files → s3 ≡ s2 ++ owned → s3 ≡ s0 ++ registry_text registry
  all_shown s0 s1 s2 s3 first second third =
      third ∙ ap (λ s. s ++ owned) (second ∙ ap (λ s. s ++ files) first) ∙ ap (λ s. s ++ owned) (append_assoc s0 front files)
      ∙ append_assoc s0 (front ++ files) owned ∙ ap (λ s. s0 ++ s) (append_assoc front files owned ∙ sym in_parts)

  pub part_of_front : (s0 s1 : List ℕ) → (n : ℕ) × (s1 ≡ s0 ++ take n front) → (n : ℕ) × (s1 ≡ s0 ++ take n (registry_text registry))
  part_of_front s0 s1 part = whole s0 s1 (front ++ (files ++ owned)) (sym in_parts) (part_of_both s0 front (files ++ owned) s1 part)

  pub part_of_files : (s0 s1 s2 : List ℕ) → s1 ≡ s0 ++ front → (n : ℕ) × (s2 ≡ s1 ++ take n files) → (n : ℕ) × (s2 ≡ s0 ++ take n (registry_text registry))
  part_of_files s0 s1 s2 first part = whole s0 s2 (front ++ (files ++ owned)) (sym in_parts) (part_written s0 front files owned s1 s2 first part)

  pub part_of_owned : (s0 s1 s2 s3 : List ℕ) → s1 ≡ s0 ++ front → s2 ≡ s1 ++ files → (n : ℕ) × (s3 ≡ s2 ++ take n owned) → (n : ℕ) × (s3 ≡ s0 ++ take n (registry_text registry))
  part_of_owned s0 s1 s2 s3 first second part =
      whole s0 s3 ((front ++ files) ++ owned) (append_assoc front files owned ∙ sym in_parts)
      (part_of_second s0 (front ++ files) owned s2 s3 (second ∙ ap (λ s. s ++ files) first ∙ append_assoc s0 front files) part)
