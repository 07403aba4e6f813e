use Rattle.std.proofs.Common.{◌≡◌, ◌≤◌, ◌<◌, ◌+◌, ◌⊎◌, inl, inr, subst, ℕ, arith}
use Rattle.std.proofs.Math.Nat.{eq-or-lt_of_le}
use Rattle.card_types.specs.KeySets.{HasKeys}
use Rattle.card_types.proofs.key_set.set_of.Goals as goal
use Rattle.card_types.proofs.key_set.set_of.Goals.{then-is_asked+in_default, else-is_asked}

-- a lower version is none of those before, so it is no lower
not_lower : (n other : ℕ) → (other < n → ⊥) → n ≤ other
not_lower n other none = grind arith

last_within : (other n : ℕ) → other < n + 1 → other ≤ n
last_within other n within = omega arith

pub returns-in-Some-clause-some : goal.returns-in-Some-clause-some
returns-in-Some-clause-some c = record {
  version = c.loop-candidate.candidate;
  asked = record { asked = c.is_asked.ensures.0 c.if-is_asked.true; least = omega arith; most = omega arith };
  whole = c.in-Some.ensures.some;
  lowest = λ other others asked keys. not_lower c.loop-candidate.candidate other (λ lower. c.loop-candidate.invariant other others lower asked keys);
}

pub loop-candidate-preserved : goal.loop-candidate-preserved
loop-candidate-preserved c other others within asked keys =
    elim (eq-or-lt_of_le (last_within other c.loop-candidate.candidate within)) [
      | inl same ↦ elim c.if-is_asked.branch [
        | then-is_asked+in_default w ↦
            w.in_default.ensures.none others (subst (λ (v : ℕ). HasKeys c.args.keys.now c.args.owner v others) same keys)
        | else-is_asked w ↦
            cc (c.is_asked.ensures.1 (subst (λ (v : ℕ). (c.args.version ≡ 0) ⊎ (c.args.version ≡ v)) same asked.asked), w.if-is_asked.false)
      ]
      | inr lower ↦ c.loop-candidate.invariant other others lower asked keys
    ]

pub returns-clause-none : goal.returns-clause-none
returns-clause-none c version slots asked keys =
    c.loop-candidate.invariant version slots (omega arith) asked keys
