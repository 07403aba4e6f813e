-- EXTERNAL AUTHENTICATE: what the laws over all commands need of the form.
use Rattle.std.proofs.Common.{inr, refl}
use Rattle.policy_machine.specs.Prelude.{external_authenticate}
use Rattle.policy_machine.proofs.ChangingBytes.{other_byte}
use Rattle.policy_machine.proofs.ExternalAuthenticateLaws.{external_authenticate_lawful}
use Rattle.policy_machine.proofs.FormLaws.{FormLaws, plain_laws}

pub external_authenticate_laws : FormLaws external_authenticate
external_authenticate_laws = plain_laws external_authenticate external_authenticate_lawful (λ admitted aids so. so) (other_byte 0x82 refl) (inr (inr refl))
