-- SELECT by partial AID (ISO/IEC 7816-4:2013, 11.1.1; GlobalPlatform Card Specification 2.3.1, 11.9 and chapter 6).
use Rattle.std.specs.Prelude.{◌≡◌, ℕ, ◌≤◌, List, [], ◌∷◌, Bool, true, false, ◌&&◌, ◌||◌, not, Option, None, MatchOption, find, length, if◌then◌else◌, ◌==◌, nat_eq, codes}
use Rattle.std.specs.List.{starts_with}
use Rattle.bertlv.specs.Spelling.{AreElements, Element, Spelling}
use Rattle.card_types.specs.Aid.{same_aid}
use Rattle.card_types.specs.Registry.{Entry, Registry}
use Rattle.card_types.specs.declared.card_life.CardLife.{CardLife}
use Rattle.card_types.specs.declared.card_life.CardLife.TheVariants as card
use Rattle.card_types.specs.declared.factory.TheConstants.{ISSUER}
use Rattle.card_types.specs.declared.life.Life.{Life}
use Rattle.card_types.specs.declared.life.Life.TheVariants as life
use Rattle.card_types.specs.declared.life.LifeMark.{LifeMark}
use Rattle.policy_machine.specs.Admission.{Admitted}
use Rattle.policy_machine.specs.CommandForm.{CommandForm, unreceipted_form}
use Rattle.policy_machine.specs.State.{Effect, with_selected}
use Rattle.policy_machine.specs.Refusal.{Refusal, refusal}
use Rattle.policy_machine.specs.declared.rule.Rule.{Rule}
use Rattle.policy_machine.specs.declared.rule.Rule.TheVariants.{SE}
use Rattle.policy_machine.specs.declared.select.RuleSE.{RuleSE}
use Rattle.policy_machine.specs.declared.select.RuleSE.TheVariants.{SE1}

-- by name, the first or only occurrence
abbrev pub SelectParameters : ℕ → ℕ → Type 0
SelectParameters p1 p2 = (p1 ≡ 0x04) × (p2 ≡ 0x00)

-- a partial AID, which may be empty
abbrev pub SelectField : List ℕ → Type 0
SelectField body = length body ≤ 16

abbrev pub is_merely_installed : Life → Bool
is_merely_installed life.Installed = true
is_merely_installed other = false

abbrev pub is_card_locked : CardLife → Bool
is_card_locked card.Locked = true
is_card_locked other = false

-- An entry with this AID and life cycle state fits: for an empty field the Issuer Security Domain alone, and otherwise an
-- entry whose AID begins with the partial AID, which is neither locked nor merely installed. On a locked card the Issuer
-- Security Domain alone can fit.
abbrev pub fits_as : CardLife → List ℕ → List ℕ → LifeMark → Bool
fits_as card_life partial aid mark =
    if length partial == 0 then same_aid aid ISSUER
    else starts_with nat_eq aid partial && not mark.locked && not (is_merely_installed mark.life)
    && (not (is_card_locked card_life) || same_aid aid ISSUER)

abbrev pub fits_select : CardLife → List ℕ → Entry → Bool
fits_select card_life partial entry = fits_as card_life partial entry.aid entry.life

-- the least fitting entry, which is the first, since entries are in ascending order of their AIDs
abbrev pub least_fitting : Registry → List ℕ → Option Entry
least_fitting registry partial = find (fits_select registry.life partial) registry.entries

abbrev pub select_refusal : RuleSE → Refusal
select_refusal SE1 = refusal (codes "SE1") 0x6A82

abbrev pub select_rules : List Rule
select_rules = SE SE1 ∷ []

abbrev pub SelectFails : Admitted → Rule → Type 0
-- no entry fits
SelectFails admitted (SE SE1) = least_fitting admitted.at.registry admitted.command.body ≡ None
SelectFails admitted rule = ⊥

-- the parts of the file control information: the AID, and the proprietary data
abbrev pub control_parts : (aid proprietary : List ℕ) → List Element
control_parts aid proprietary = record { tag = 0x84; value = aid } ∷ record { tag = 0xA5; value = proprietary } ∷ []

-- the file control information of an entry; its proprietary data are the longest data field of a command
pub record IsControlInformation (aid bytes : List ℕ) : Type 0 where
  pub proprietary : List ℕ
  pub template : List ℕ
  pub longest : Spelling 0x9F65 (0xFF ∷ []) proprietary
  pub parts : AreElements (control_parts aid proprietary) template
  pub whole : Spelling 0x6F template bytes

-- a warning says that the card is locked
abbrev pub selected_status : CardLife → ℕ
selected_status card_life = if is_card_locked card_life then 0x6283 else 0x9000

-- the entry is selected, and all that the channel had ends
pub record SelectsEntry (admitted : Admitted) (done : Effect) (entry : Entry) : Type 0 where
  pub registry : done.state.registry ≡ admitted.at.registry
  pub volatile : done.state.volatile ≡ with_selected admitted.at.volatile admitted.channel entry.aid
  pub body : IsControlInformation entry.aid done.body
  pub status : done.status ≡ selected_status admitted.at.registry.life

-- SELECT selects the least fitting entry
abbrev pub SelectEffect : Admitted → Effect → Type 0
SelectEffect admitted done = MatchOption (least_fitting admitted.at.registry admitted.command.body) ⊥ (SelectsEntry admitted done)

-- SELECT
abbrev pub select : CommandForm
select = unreceipted_form 0xA4 SelectParameters (λ p1 p2. SelectField) select_rules SelectFails SelectEffect
