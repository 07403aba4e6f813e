use Rattle.std.proofs.Common.{◌≡◌, [], ◌∷◌, false, sym, ◌∙◌}
use Rattle.std.specs.List.{list_any}
use Rattle.std.specs.Prelude.{◌==◌}
use Rattle.policy_machine.proofs.Instructed.{among, any_after, found_among}
use Rattle.policy_machine.specs.Classes.{instructions_of, managing}
use Rattle.policy_machine.specs.declared.class.Class.TheVariants.{Plain, Secure}
use Rattle.policy_machine.specs.declared.instruction.TheConstants.{EXTERNAL_AUTHENTICATE, GET_DATA, INITIALIZE_UPDATE}
use Rattle.policy_machine.proofs.class.Class.has.Goals as goal

pub returns-else-contains : goal.returns-else-contains
returns-else-contains c =
    let none : list_any (λ one. one == c.args.ins) (GET_DATA ∷ INITIALIZE_UPDATE ∷ []) ≡ false = sym c.contains-in-Plain.ensures.value ∙ c.if-contains.false in
    let behind = any_after (GET_DATA ∷ INITIALIZE_UPDATE ∷ []) managing c.args.ins none in
    let found = c.contains-else-contains.ensures.value in
    rw c.in-Plain.is (
      (λ some. among (instructions_of Plain) c.args.ins (behind ∙ sym found ∙ some)),
      (λ there. found ∙ sym behind ∙ found_among (instructions_of Plain) c.args.ins there),
    )

pub returns-else-contains-2 : goal.returns-else-contains-2
returns-else-contains-2 c =
    let none : list_any (λ one. one == c.args.ins) (EXTERNAL_AUTHENTICATE ∷ GET_DATA ∷ []) ≡ false = sym c.contains-in-Secure.ensures.value ∙ c.if-contains-2.false in
    let behind = any_after (EXTERNAL_AUTHENTICATE ∷ GET_DATA ∷ []) managing c.args.ins none in
    let found = c.contains-else-contains-2.ensures.value in
    rw c.in-Secure.is (
      (λ some. among (instructions_of Secure) c.args.ins (behind ∙ sym found ∙ some)),
      (λ there. found ∙ sym behind ∙ found_among (instructions_of Secure) c.args.ins there),
    )
