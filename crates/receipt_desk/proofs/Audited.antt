-- What an audit tells of the receipts that its lines bring.
use Rattle.std.proofs.Common.{◌≡◌, ℕ, List, [], ◌∷◌, Bool, true, false, Some, refl, ap, sym, subst, ◌∙◌}
use Rattle.std.specs.Prelude.{◌||◌}
use Rattle.receipt_desk.specs.Audit.{AuditState, Does, aids_in, is_other, with_verdict}
use Rattle.receipt_desk.specs.Audited.{CleanAuditsTell, DoAll, slip_of}
use Rattle.receipt_desk.specs.InTurn.{JudgedInTurn, Slip, fits_from}
use Rattle.receipt_desk.specs.Judgement.{Judged, last_after}
use Rattle.receipt_desk.specs.declared.line.DeskLine.{DeskLine}
use Rattle.receipt_desk.specs.declared.line.DeskLine.TheVariants.{Nothing, Key, Sign, Receipt}
use Rattle.receipt_desk.specs.declared.receipted.Receipted.{Receipted}
use Rattle.receipt_desk.specs.declared.verdict.Verdict.{Verdict}
use Rattle.receipt_desk.specs.declared.verdict.Verdict.TheVariants.{Fits, Form, Unique as other_card, Number, Mac}
use Rattle.receipt_desk.proofs.InTurn.{first_fits}
use Rattle.receipt_desk.proofs.Verdicts.{next_is}

or_true : (b c : Bool) → b ≡ true → (b || c) ≡ true
or_true true c is = refl
or_true false c is = cc

or_other : (b c : Bool) → c ≡ true → (b || c) ≡ true
or_other true c is = refl
or_other false c is = is

-- once a verdict was another one, that stays
line_stays : (at next : AuditState) (line : DeskLine) (said : List ℕ) → Does at line next said → at.differs ≡ true → next.differs ≡ true
line_stays at next (Sign s) said does is = ap (λ (s : AuditState). s.differs) does.2 ∙ is
line_stays at next (Receipt r) said does is = ap (λ (s : AuditState). s.differs) does.4 ∙ or_true at.differs (is_other does.1) is
line_stays at next _ said does is = ap (λ (s : AuditState). s.differs) does.0 ∙ is

all_stay : (at end : AuditState) (lines : List DeskLine) → DoAll at lines end → at.differs ≡ true → end.differs ≡ true
all_stay at end [] does is = ap (λ (s : AuditState). s.differs) does ∙ is
all_stay at end (line ∷ lines) does is = all_stay does.0 end lines does.3 (line_stays at does.0 line does.1 does.2 is)

not_both : (b : Bool) → b ≡ true → b ≡ false → ⊥
not_both b is isnt = cc

-- a receipt that is judged, and the rest
module _ (at end : AuditState) (lines : List DeskLine) (key : List ℕ) (r : Receipted) (slip : Slip) (slips : List Slip) (brought : slip ≡ slip_of r)
    (clean : end.differs ≡ false)
    (later : (verdict : Verdict) → DoAll (with_verdict at verdict) lines end
    → JudgedInTurn key at.desk.unique (last_after verdict at.desk.last) slips (fits_from (last_after verdict at.desk.last) slips) end.desk.last) where
  other : (verdict : Verdict) → is_other verdict ≡ true → DoAll (with_verdict at verdict) lines end → ⊥
  other verdict is rest = not_both end.differs (all_stay (with_verdict at verdict) end lines rest (or_other at.differs (is_other verdict) is)) clean

  judged_and_rest : (verdict : Verdict) → Judged key at.desk.unique at.desk.last r.reply.items (aids_in r.aids) verdict → DoAll (with_verdict at verdict) lines end
      → JudgedInTurn key at.desk.unique at.desk.last (slip ∷ slips) (fits_from at.desk.last (slip ∷ slips)) end.desk.last
  judged_and_rest (Fits number) judged rest =
      let here = subst (λ (s : Slip). Judged key at.desk.unique at.desk.last s.reply s.aids (Fits number)) (sym brought) judged in
      first_fits key at.desk.unique at.desk.last number end.desk.last slip slips (next_is at.desk.last number judged.0).0 here (later (Fits number) rest)
  judged_and_rest Form judged rest = absurd (other Form refl rest)
  judged_and_rest other_card judged rest = absurd (other other_card refl rest)
  judged_and_rest (Number have want) judged rest = absurd (other (Number have want) refl rest)
  judged_and_rest Mac judged rest = absurd (other Mac refl rest)

pub clean_audits_tell : CleanAuditsTell
clean_audits_tell at end [] slips key own brings does clean =
    subst (λ (s : List Slip). JudgedInTurn key at.desk.unique at.desk.last s (fits_from at.desk.last s) end.desk.last) (sym brings)
    (refl, ap (λ (s : AuditState). s.desk.last) does)
clean_audits_tell at end (Nothing ∷ lines) slips key own brings does clean =
    clean_audits_tell at end lines slips key own brings (subst (λ (s : AuditState). DoAll s lines end) does.2.0 does.3) clean
clean_audits_tell at end (Sign s ∷ lines) slips key own brings does clean =
    clean_audits_tell at end lines slips key own brings (subst (λ (s : AuditState). DoAll s lines end) does.2.2 does.3) clean
clean_audits_tell at end (Receipt r ∷ lines) [] key own brings does clean = absurd brings
clean_audits_tell at end (Receipt r ∷ lines) (slip ∷ slips) key own brings does clean =
    let keys : Some does.2.0 ≡ Some key = sym does.2.2 ∙ own in
    let same : does.2.0 ≡ key = cc in
    let judged = subst (λ (k : List ℕ). Judged k at.desk.unique at.desk.last r.reply.items (aids_in r.aids) does.2.1) same does.2.3 in
    judged_and_rest at end lines key r slip slips brings.0 clean (λ verdict rest. clean_audits_tell (with_verdict at verdict) end lines slips key own brings.1 rest clean)
    does.2.1 judged (subst (λ (s : AuditState). DoAll s lines end) does.2.4 does.3)
clean_audits_tell at end (Key k ∷ lines) slips key own brings does clean = absurd brings
clean_audits_tell at end _ slips key own brings does clean = absurd brings
