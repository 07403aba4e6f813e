-- What an audit tells of the receipts that its lines bring.
use Rattle.std.specs.Prelude.{◌≡◌, ℕ, List, [], ◌∷◌, false, Some}
use Rattle.receipt_desk.specs.Audit.{AuditState, Does, aids_in}
use Rattle.receipt_desk.specs.InTurn.{JudgedInTurn, Slip, fits_from}
use Rattle.receipt_desk.specs.declared.line.DeskLine.{DeskLine}
use Rattle.receipt_desk.specs.declared.line.DeskLine.TheVariants.{Nothing, Sign, Receipt}
use Rattle.receipt_desk.specs.declared.receipted.Receipted.{Receipted}

abbrev pub slip_of : Receipted → Slip
slip_of r = record { reply = r.reply.items; aids = aids_in r.aids }

-- the lines bring these receipts in their order, and no other key, unique data or number
abbrev pub Bring : List DeskLine → List Slip → Type 0
Bring [] slips = slips ≡ []
Bring (Nothing ∷ lines) slips = Bring lines slips
Bring (Sign s ∷ lines) slips = Bring lines slips
Bring (Receipt r ∷ lines) [] = ⊥
Bring (Receipt r ∷ lines) (slip ∷ slips) = (slip ≡ slip_of r) × Bring lines slips
Bring (line ∷ lines) slips = ⊥

-- what lines say leads from one state to another
abbrev pub DoAll : AuditState → List DeskLine → AuditState → Type 0
DoAll at [] end = end ≡ at
DoAll at (line ∷ lines) end = (next : AuditState) × (said : List ℕ) × Does at line next said × DoAll next lines end

-- Where no verdict was another than that a receipt fits, the receipts since the last `key`, `unique` or `from` are the receipts of the
-- desk's key and unique data, with the numbers after the last one.
abbrev pub CleanAuditsTell : Type 0
CleanAuditsTell =
    (at end : AuditState) (lines : List DeskLine) (slips : List Slip) (key : List ℕ)
    → at.desk.key ≡ Some key → Bring lines slips → DoAll at lines end → end.differs ≡ false
    → JudgedInTurn key at.desk.unique at.desk.last slips (fits_from at.desk.last slips) end.desk.last
