use Rattle.std.proofs.Common.{rules, ◌≡◌, ◌+◌, [], ◌∷◌, ◌++◌, length, subst, sym}
use Rattle.card_core.proofs.ControlInformation.{control_information}
use Rattle.policy_machine.specs.Select.{IsControlInformation}
use Rattle.card_core.proofs.select.write_control_information.Goals as goal

pub returns-clause-written : goal.returns-clause-written
returns-clause-written c =
    let aid = c.args.aid.now in
    let spelled : c.try_extend_from_slice-3.new.self.items ≡ 0x6F ∷ (length aid + 8) ∷ 0x84 ∷ length aid ∷ (aid ++ (0xA5 ∷ 0x04 ∷ 0x9F ∷ 0x65 ∷ 0x01 ∷ 0xFF ∷ [])) = search rules in
    subst (IsControlInformation aid) (sym spelled) (control_information aid c.requires.aid)
