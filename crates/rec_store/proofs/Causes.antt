-- Causes of refusals.
use Rattle.std.proofs.Common.{◌≡◌, ℕ, ◌≤◌, Result, Ok, Err, sym, subst, arith}
use Rattle.std.specs.Prelude.{IfErr, IfOk, IsErrAnd}
use Rattle.flash_core.specs.Device.{NoneNew}
use Rattle.flash_core.specs.declared.flash.Flash.{Ghosts as Flash}
use Rattle.rec_store.specs.Contents.{CardFails, IsUnwritten, OpenFails, SlotsFail}
use Rattle.rec_store.specs.Reopens.{Reopens}
use Rattle.rec_store.specs.declared.open.OpenCause.{OpenCause}
use Rattle.rec_store.specs.declared.open.OpenCause.TheVariants.{Memory, FlashFailed, NotACard}
use Rattle.rec_store.proofs.Leaving.{unwritten_on}

pub no_card : {T : Type 0} (result : Result T OpenCause) (tells : Type 0) (before now : ℕ) (bad : Type 0) → IsErrAnd result (λ cause. cause ≡ NotACard) → (tells → bad) → IfErr result (SlotsFail tells before now bad)
no_card (Ok value) tells before now bad is why = tt
no_card (Err cause) tells before now bad is why = subst (SlotsFail tells before now bad) (sym is) why

-- the cause that is handed on
pub handed_on : {T : Type 0} (P : OpenCause → Type 0) (result : Result T OpenCause) (given : OpenCause) → IsErrAnd result (λ cause. cause ≡ given) → P given → IfErr result P
handed_on P (Ok value) given is why = tt
handed_on P (Err cause) given is why = subst P (sym is) why

pub each_err : {T : Type 0} (P Q : OpenCause → Type 0) → ((cause : OpenCause) → P cause → Q cause) → (result : Result T OpenCause) → IfErr result P → IfErr result Q
each_err P Q step (Ok value) why = tt
each_err P Q step (Err cause) why = step cause why

-- a cause from later on
pub fails_later : (tells : Type 0) (before mid now : ℕ) (bad also : Type 0) → before ≤ mid → (tells → bad → also) → (cause : OpenCause) → SlotsFail tells mid now bad cause → SlotsFail tells before now also cause
fails_later tells before mid now bad also later step (Memory refused) why = absurd why
fails_later tells before mid now bad also later step FlashFailed why = omega (arith, why, later)
fails_later tells before mid now bad also later step NotACard why = λ told. step told (why told)

-- why a card is not opened, where nothing was written before
pub opens_later : {F : Type 0} (device : Flash F) (old mid new : F) → device.faults old ≤ device.faults mid → (device.tells → IsUnwritten device old mid × NoneNew (device.may_leave old) (device.may_leave mid))
    → (cause : OpenCause) → CardFails device mid cause new → OpenFails device old cause new
opens_later device old mid new later same (Memory refused) why = absurd why
opens_later device old mid new later same FlashFailed why = omega (arith, why, later)
opens_later device old mid new later same NotACard why = λ told. record {
  none = λ registry reopens. (why told).none registry (subst (λ pages. Reopens pages registry) (sym (same told).0.pages) reopens);
  unwritten = unwritten_on device old mid new (same told).0 (same told).1 (why told).unwritten;
}

module _ {T E : Type 0} where
  pub each_ok : (result : Result T E) (P Q : T → Type 0) → ((value : T) → P value → Q value) → IfOk result P → IfOk result Q
  each_ok (Ok value) P Q step holds = step value holds
  each_ok (Err error) P Q step holds = tt

  pub also_ok : (result : Result T E) (P Q : T → Type 0) → IfOk result P → IfOk result Q → IfOk result (λ value. P value × Q value)
  also_ok (Ok value) P Q first second = (first, second)
  also_ok (Err error) P Q first second = tt

  pub each_error : (result : Result T E) (P Q : E → Type 0) → ((error : E) → P error → Q error) → IfErr result P → IfErr result Q
  each_error (Ok value) P Q step holds = tt
  each_error (Err error) P Q step holds = step error holds
