-- Words that name no workload.
use Rattle.std.proofs.Common.{◌≡◌, ℕ, ◌<◌, ◌≤◌, List, [], ◌∷◌, length, get_or, ap, subst, sym, ◌∙◌, arith}
use Rattle.std.specs.Prelude.{String, string_bytes, slice_index_or}
use Rattle.std.specs.declared.alloc.Global.{Global}
use Rattle.gp_tool.specs.Mill.{NameWorkload}
use Rattle.gp_tool.specs.Words.{HaveForm}
use Rattle.gp_tool.specs.declared.task.Task.TheVariants.{Cap, Desk, Format, Mill, Serve, Show}
use Rattle.gp_tool.specs.declared.workload.Workload.{Workload}

abbrev Word : Type 0
Word = String Global

-- three words
three_words : (x y z seed rounds : Word) → seed ≡ y → rounds ≡ z → ((work : Workload) → NameWorkload (string_bytes seed) (string_bytes rounds) work → ⊥)
    → HaveForm (x ∷ y ∷ z ∷ []) → ⊥
three_words x y z seed rounds second third none (Format, are) = (let long : 3 ≡ 1 = ap length are in omega (arith, long))
three_words x y z seed rounds second third none (Serve verb, are) = (let long : 3 ≡ 1 = ap length are in omega (arith, long))
three_words x y z seed rounds second third none (Show view, are) = (let long : 3 ≡ 1 = ap length are in omega (arith, long))
three_words x y z seed rounds second third none (Desk, are) = (let long : 3 ≡ 1 = ap length are in omega (arith, long))
three_words x y z seed rounds second third none (Cap, are) = (let long : 3 ≡ 1 = ap length are in omega (arith, long))
three_words x y z seed rounds second third none (Mill work, (first, last, are, names)) =
    let same : first ≡ string_bytes seed = sym (ap (λ (l : List (List ℕ)). get_or l 1 []) are) ∙ ap string_bytes (sym second) in
    let same' : last ≡ string_bytes rounds = sym (ap (λ (l : List (List ℕ)). get_or l 2 []) are) ∙ ap string_bytes (sym third) in
    none work (subst (λ (r : List ℕ). NameWorkload (string_bytes seed) r work) same' (subst (λ (s : List ℕ). NameWorkload s last work) same names))

pub no_form : (words : List Word) (seed rounds : Word) → 3 ≤ length words → length words < 4 → seed ≡ slice_index_or words 1 seed → rounds ≡ slice_index_or words 2 rounds
    → ((work : Workload) → NameWorkload (string_bytes seed) (string_bytes rounds) work → ⊥) → HaveForm words → ⊥
no_form (x ∷ y ∷ z ∷ []) seed rounds least most second third none form = three_words x y z seed rounds second third none form
no_form (x ∷ y ∷ z ∷ w ∷ words) seed rounds least most second third none form = omega (arith, most)
no_form _ seed rounds least most second third none form = omega (arith, least)
