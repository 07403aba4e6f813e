-- Words are of one task.
use Rattle.std.proofs.Common.{◌≡◌, ◌⊎◌, inl, inr, ℕ, ◌≤◌, List, [], ◌∷◌, length, slice_index, get_or, refl, ap, subst, sym, ◌∙◌, arith}
use Rattle.std.specs.Prelude.{◌==◌, String, cond, map, string_bytes}
use Rattle.std.specs.Str.Parse.{digits_value}
use Rattle.std.specs.declared.alloc.Global.{Global}
use Rattle.gp_tool.specs.Words.{AreOf, task_word}
use Rattle.gp_tool.specs.declared.task.Task.{Task}
use Rattle.gp_tool.specs.declared.task.Task.TheVariants.{Cap, Desk, Format, Mill, Serve, Show}
use Rattle.gp_tool.specs.declared.verb.Verb.TheVariants.{Run, Why, Replay, Play}
use Rattle.gp_tool.specs.declared.view.View.TheVariants.{Registry, Rights}
use Rattle.gp_tool.specs.declared.workload.Workload.{Workload}

abbrev Words : Type 0
Words = List (String Global)

-- the task that one word names, by its first letter and its length
abbrev by_letter : ℕ → ℕ → Task
by_letter first long =
    cond (first == 102) Format (cond (first == 119) (Serve Why) (cond (first == 112) (Serve Play) (cond (first == 115) (Show Registry)
    (cond (first == 97) (Show Rights) (cond (first == 100) Desk (cond (first == 99) Cap (cond (long == 3) (Serve Run) (Serve Replay))))))))

abbrev by_word : List ℕ → Task
by_word word = by_letter (slice_index word 0) (length word)

-- the task has one word
abbrev IsPlain : Task → Type 0
IsPlain (Mill work) = ⊥
IsPlain task = Unit {0}

is_by_word : (task : Task) → IsPlain task → by_word (task_word task) ≡ task
is_by_word Format plain = refl
is_by_word (Serve Run) plain = refl
is_by_word (Serve Why) plain = refl
is_by_word (Serve Replay) plain = refl
is_by_word (Serve Play) plain = refl
is_by_word (Mill work) plain = absurd plain
is_by_word (Show Registry) plain = refl
is_by_word (Show Rights) plain = refl
is_by_word Desk plain = refl
is_by_word Cap plain = refl

one_plain : (words : Words) (a b : Task) → IsPlain a → IsPlain b → map string_bytes words ≡ task_word a ∷ [] → map string_bytes words ≡ task_word b ∷ [] → a ≡ b
one_plain words a b plain plain' is is' =
    sym (is_by_word a plain) ∙ ap (λ (l : List (List ℕ)). by_word (get_or l 0 [])) (sym is ∙ is') ∙ is_by_word b plain'

abbrev workload_of : ℕ → ℕ → Workload
workload_of seed rounds = record { seed = seed; rounds = rounds }

one_workload : (a b : Workload) → a.seed ≡ b.seed → a.rounds ≡ b.rounds → a ≡ b
one_workload a b seed rounds = ap (λ (s : ℕ). workload_of s a.rounds) seed ∙ ap (λ (r : ℕ). workload_of b.seed r) rounds

one_mill : (words : Words) (a b : Workload) → AreOf (Mill a) words → AreOf (Mill b) words → a ≡ b
one_mill words a b (seed, rounds, is, names) (seed', rounds', is', names') =
    let same = sym is ∙ is' in
    let seeds : seed ≡ seed' = ap (λ (l : List (List ℕ)). get_or l 1 []) same in
    let ends : rounds ≡ rounds' = ap (λ (l : List (List ℕ)). get_or l 2 []) same in
    one_workload a b (sym names.0.2 ∙ ap (digits_value 10) seeds ∙ names'.0.2) (sym names.2.2 ∙ ap (digits_value 10) ends ∙ names'.2.2)

-- `mill` has more words than one
more_words : (words : Words) (task : Task) (work : Workload) → map string_bytes words ≡ task_word task ∷ [] → AreOf (Mill work) words → ⊥
more_words words task work is (seed, rounds, is', names) = (let long : 1 ≡ 3 = ap length (sym is ∙ is') in omega (arith, long))

abbrev IsMill : Task → Type 0
IsMill task = (work : Workload) × (task ≡ Mill work)

kind : (task : Task) → IsPlain task ⊎ IsMill task
kind Format = inl tt
kind (Serve verb) = inl tt
kind (Mill work) = inr (work, refl)
kind (Show view) = inl tt
kind Desk = inl tt
kind Cap = inl tt

plain_words : (words : Words) (task : Task) → IsPlain task → AreOf task words → map string_bytes words ≡ task_word task ∷ []
plain_words words Format plain are = are
plain_words words (Serve verb) plain are = are
plain_words words (Mill work) plain are = absurd plain
plain_words words (Show view) plain are = are
plain_words words Desk plain are = are
plain_words words Cap plain are = are

by_kinds : (words : Words) (a b : Task) → IsPlain a ⊎ IsMill a → IsPlain b ⊎ IsMill b → AreOf a words → AreOf b words → a ≡ b
by_kinds words a b (inl plain) (inl plain') are are' = one_plain words a b plain plain' (plain_words words a plain are) (plain_words words b plain' are')
by_kinds words a b (inl plain) (inr (work, is)) are are' =
    absurd (more_words words a work (plain_words words a plain are) (subst (λ (t : Task). AreOf t words) is are'))
by_kinds words a b (inr (work, is)) (inl plain) are are' =
    absurd (more_words words b work (plain_words words b plain are') (subst (λ (t : Task). AreOf t words) is are))
by_kinds words a b (inr (work, is)) (inr (work', is')) are are' =
    let same = one_mill words work work' (subst (λ (t : Task). AreOf t words) is are) (subst (λ (t : Task). AreOf t words) is' are') in
    is ∙ ap (λ (w : Workload). Mill w) same ∙ sym is'

pub one_task : (words : Words) (a b : Task) → AreOf a words → AreOf b words → a ≡ b
one_task words a b are are' = by_kinds words a b (kind a) (kind b) are are'

-- a workload has few rounds
pub few_rounds : (words : Words) (work : Workload) → AreOf (Mill work) words → work.rounds ≤ 10_000
few_rounds words work (seed, rounds, is, names) = names.4
