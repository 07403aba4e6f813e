-- What is known on the way from a slot up to its root.
use Rattle.std.proofs.Common.{◌≡◌, ◌≢◌, ◌⊎◌, inl, inr, ℕ, ◌+◌, ◌<◌, ◌≤◌, Bool, true, false, List, [], ◌∷◌, ◌++◌, length, Option, None, Some, refl, ap, sym, subst, ◌∙◌, arith}
use Rattle.std.proofs.lemmas.Bool.{cases_eq}
use Rattle.card_types.specs.Hierarchy.{IsLine, IsPath}
use Rattle.card_types.specs.Represents.{domain_slot, thing_in}
use Rattle.card_types.specs.declared.tables.Entry.{Entry}
use Rattle.card_types.proofs.Domains.{step_from_used, used_from_step}
use Rattle.card_types.proofs.LeastSoFar.{within_slots}
use Rattle.card_types.proofs.Lines.{line_steps}
use Rattle.domain_tree.specs.Above.{Above, IsFirstAbove, NoneAbove}
use Rattle.domain_tree.specs.Slots.{IsFreeOfLoops}
use Rattle.domain_tree.proofs.LineLength.{line_length}
use Rattle.domain_tree.proofs.Paths.{above_step, lead_to_each_other, path_more, root_alone}

-- below what is above something there is a step
pub steps_from : {A : Type 0} (step : A → Option A) (a b : A) → Above step a b → (next : A) × (step b ≡ Some next)
steps_from {A} step a b above = by above.path above.leads
  where
    by : (path : List A) → IsPath step b path a → (next : A) × (step b ≡ Some next)
    by [] leads = absurd (above.other (sym leads))
    by (next ∷ path) leads = (next, leads.0)

module _ (step : ℕ → Option ℕ) where
  -- what is above one is the next or above the next
  pub above_next : (a b next : ℕ) → step b ≡ Some next → Above step a b → (a ≡ next) ⊎ Above step a next
  above_next a b next steps above = above_step step cases_eq a b next steps above

  -- after the first the line is shorter
  pub line_after : (from next : ℕ) (line : List ℕ) → IsLine step from line → step from ≡ Some next → next ≢ from
      → (rest : List ℕ) × IsLine step next rest × (length rest < length line)
  line_after from next [] is steps on = absurd is
  line_after from next (x ∷ []) is steps on =
      let root : next ≡ from = (let itself = is.1 in cc) in
      absurd (on root)
  line_after from next (x ∷ y ∷ line) is steps on =
      let same : y ≡ next = (let second = is.2 in cc) in
      (y ∷ line, subst (λ (n : ℕ). IsLine step n (y ∷ line)) same is.3, omega arith)

  -- nothing is above a root
  pub none_above_root : (a root : ℕ) → step root ≡ Some root → Above step a root → ⊥
  none_above_root a root itself above = above.other (sym (root_alone step root a above.path itself above.leads))

  -- the next of what is above one is above it, or of the one itself
  pub next_above : (from at next : ℕ) (line : List ℕ) → IsLine step from line → (at ≡ from) ⊎ Above step at from → step at ≡ Some next → next ≢ at
      → Above step next from
  next_above from at next line is up steps on = elim up [
    | inl same ↦ record {
      other = λ alike. on (alike ∙ sym same);
      path = next ∷ [];
      leads = (ap step (sym same) ∙ steps, refl);
    }
    | inr above ↦ record {
      other = λ alike.
          (let back : IsPath step at (next ∷ []) from = (steps, alike) in
          above.other (sym (lead_to_each_other step from at line above.path (next ∷ []) is above.leads back)));
      path = above.path ++ next ∷ [];
      leads = path_more step from at next above.path above.leads steps;
    }
  ]

-- The climb so far: all that is looked for above the first is above this one too.
pub record IsReached (entries : List (Option Entry)) (fits : ℕ → Bool) (from at count : ℕ) : Type 0 where
  pub line : (entry : Entry) → thing_in entries at ≡ Some entry → (line : List ℕ) × IsLine (domain_slot entries) at line × (length line + count ≤ length entries)
  pub up : (at ≡ from) ⊎ Above (domain_slot entries) at from
  pub rest : (a : ℕ) → Above (domain_slot entries) a from → fits a ≡ true → Above (domain_slot entries) a at

module _ (entries : List (Option Entry)) (fits : ℕ → Bool) (free : IsFreeOfLoops entries) where
  pub reached_first : (from : ℕ) → IsReached entries fits from from 0
  reached_first from = record {
    line = λ entry at.
        (let line = free from entry at in
        (line.0, line.1, omega (arith, line_length entries from line.0 line.1)));
    up = inl refl;
    rest = λ a above fit. above;
  }

  -- the line of the slot below
  from_line : (from at : ℕ) (entry : Entry) → thing_in entries at ≡ Some entry → (at ≡ from) ⊎ Above (domain_slot entries) at from
      → (line : List ℕ) × IsLine (domain_slot entries) from line
  from_line from at entry here up = elim up [
    | inl same ↦ free from entry (subst (λ (s : ℕ). thing_in entries s ≡ Some entry) same here)
    | inr above ↦
        (let steps = steps_from (domain_slot entries) at from above in
        let used = used_from_step entries from steps.0 steps.1 in
        free from used.0 used.1)
  ]

  pub climbs : (from at count : ℕ) (entry : Entry) → thing_in entries at ≡ Some entry → entry.domain ≢ at → IsReached entries fits from at count
      → Above (domain_slot entries) entry.domain from
  climbs from at count entry here on reached =
      let line = from_line from at entry here reached.up in
      next_above (domain_slot entries) from at entry.domain line.0 line.1 reached.up (step_from_used entries at entry here) on

  -- the domain of an entry is in one of the slots
  pub domain_within : (at : ℕ) (entry : Entry) → thing_in entries at ≡ Some entry → entry.domain ≢ at → entry.domain < length entries
  domain_within at entry here on =
      let line = free at entry here in
      let rest = line_after (domain_slot entries) at entry.domain line.0 line.1 (step_from_used entries at entry here) on in
      let steps = line_steps (domain_slot entries) entry.domain rest.0 rest.1 in
      let used = used_from_step entries entry.domain steps.0 steps.1 in
      within_slots entries entry.domain used.0 used.1

  pub reached_next : (from at count : ℕ) (entry : Entry) → thing_in entries at ≡ Some entry → entry.domain ≢ at → fits entry.domain ≡ false
      → IsReached entries fits from at count → IsReached entries fits from entry.domain (count + 1)
  reached_next from at count entry here on misfit reached = record {
    line = λ domain there.
        (let line = reached.line entry here in
        let rest = line_after (domain_slot entries) at entry.domain line.0 line.1 (step_from_used entries at entry here) on in
        (rest.0, rest.1, omega (arith, rest.2, line.2)));
    up = inr (climbs from at count entry here on reached);
    rest = λ a above fit.
        elim (above_next (domain_slot entries) a at entry.domain (step_from_used entries at entry here) (reached.rest a above fit)) [
          | inl same ↦ (let clash = ap fits same in cc)
          | inr higher ↦ higher
        ];
  }

  pub first_above_reached : (from at count : ℕ) (entry : Entry) → thing_in entries at ≡ Some entry → entry.domain ≢ at → fits entry.domain ≡ true
      → IsReached entries fits from at count → IsFirstAbove (domain_slot entries) fits from entry.domain
  first_above_reached from at count entry here on fit reached = record {
    above = climbs from at count entry here on reached;
    fitting = fit;
    lowest = λ a above fits_too. above_next (domain_slot entries) a at entry.domain (step_from_used entries at entry here) (reached.rest a above fits_too);
    none_lower = λ a above fits_too lower.
        (let steps = step_from_used entries at entry here in
        let line = free at entry here in
        let rest = line_after (domain_slot entries) at entry.domain line.0 line.1 steps on in
        elim (above_next (domain_slot entries) a at entry.domain steps (reached.rest a above fits_too)) [
          | inl same ↦ lower.other (sym same)
          | inr higher ↦ lower.other (lead_to_each_other (domain_slot entries) entry.domain a rest.0 higher.path lower.path rest.1 higher.leads lower.leads)
        ]);
  }

  pub none_above_reached : (from at count : ℕ) (entry : Entry) → thing_in entries at ≡ Some entry → entry.domain ≡ at
      → IsReached entries fits from at count → NoneAbove (domain_slot entries) fits from
  none_above_reached from at count entry here root reached a above fit =
      none_above_root (domain_slot entries) a at (step_from_used entries at entry here ∙ ap Some root) (reached.rest a above fit)

  pub none_above_free : (from at count : ℕ) → thing_in entries at ≡ None → IsReached entries fits from at count → NoneAbove (domain_slot entries) fits from
  none_above_free from at count none reached a above fit =
      let steps = steps_from (domain_slot entries) a at (reached.rest a above fit) in
      let used = used_from_step entries at steps.0 steps.1 in
      let here = used.1 in cc

  pub none_above_end : (from at count : ℕ) → length entries ≤ count → IsReached entries fits from at count → NoneAbove (domain_slot entries) fits from
  none_above_end from at count past reached a above fit =
      let steps = steps_from (domain_slot entries) a at (reached.rest a above fit) in
      let used = used_from_step entries at steps.0 steps.1 in
      let line = reached.line used.0 used.1 in
      no_line line.0 line.1 (omega (arith, line.2))
    where
      no_line : (line : List ℕ) → IsLine (domain_slot entries) at line → length line ≤ 0 → ⊥
      no_line [] is short = is
      no_line (x ∷ line) is short = omega arith
