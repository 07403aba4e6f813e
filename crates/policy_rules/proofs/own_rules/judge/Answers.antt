use Rattle.std.proofs.Common.{rules, ◌≡◌, ℕ, ◌<◌, List, length, None, Option, Some, inl, inr, refl, sym, ap, subst, ◌∙◌}
use Rattle.std.specs.Prelude.{option_copied, slice_index_or}
use Rattle.std.specs.Option.{option_map}
use Rattle.std.proofs.lemmas.List.{get_or_default}
use Rattle.policy_machine.specs.declared.channels.TheConstants.{CHANNELS}
use Rattle.policy_rules.specs.Prelude.{ActsIn, Admitted, FailsFirst, ForActingLive, IsCardStatusOf, IsFirst, IsForLoad, IsJudgedAfter, IsPlaceBefore, IsRequestOf, IsSound, Judges, LoadFails, Represents, RepresentsState, TellsChecks, Well, channel_at, command_form, front_rules, get_status, managed_card_status, managed_entry_status, managed_put_key, place_in, place_of, selected_on}
use Rattle.policy_machine.proofs.GetDataLaws.{get_passes, get_refused}
use Rattle.policy_machine.proofs.InitializeUpdateLaws.{offer_judged}
use Rattle.policy_machine.proofs.Judging.{by_err, judged_by}
use Rattle.policy_machine.proofs.ManageChannelLaws.{open_passes, open_refused}
use Rattle.policy_machine.specs.declared.rule.Rule.{Rule}
use Rattle.policy_machine.proofs.PutKeyLaws.{put_judged}
use Rattle.policy_machine.proofs.SelectLaws.{select_passes, select_refused}
use Rattle.policy_rules.proofs.DataAsked.{asked_for, asks, has_data}
use Rattle.policy_slots.proofs.Selected.{selected_acts, selected_entry}
use Rattle.policy_rules.specs.declared.request.Request.{Request}
use Rattle.policy_rules.proofs.own_rules.judge.Goals as goal
use Rattle.policy_rules.proofs.own_rules.judge.Goals.{After-unwrap-domain}

-- the domain that is selected acts
acts_in : (c : After-unwrap-domain) (page : ℕ → List ℕ) (admitted : Admitted) → RepresentsState page c.args.tables.now c.args.live.now admitted.at
    → IsSound admitted.at → c.args.channel ≡ admitted.channel → ActsIn page c.args.tables.now c.unwrap-domain.result admitted
acts_in c page admitted says sound here =
    let is : slice_index_or c.args.live.now.selected c.args.channel None ≡ Some c.unwrap-domain.result = search rules in
    selected_acts page c.args.tables.now c.args.live.now admitted c.args.channel c.unwrap-domain.result says sound c.requires.channel is here

-- what is judged so for a form is judged so of the command
form_judged : (c : After-unwrap-domain) (request : Request) (found : Option Rule) → c.args.request.now ≡ request
    → ForActingLive c.args.tables.now c.args.live.now c.unwrap-domain.result (λ page admitted. IsRequestOf request admitted.command → Judges admitted found)
    → (page : ℕ → List ℕ) (admitted : Admitted) → RepresentsState page c.args.tables.now c.args.live.now admitted.at → IsSound admitted.at → c.args.channel ≡ admitted.channel
    → IsRequestOf c.args.request.now admitted.command → IsJudgedAfter admitted.command.ins → TellsChecks c.args.checks_fit admitted → Judges admitted found
form_judged c request found is holds page admitted says sound here asked behind checks =
    holds page admitted (acts_in c page admitted says sound here) says sound.fits.channels (subst (λ (r : Request). IsRequestOf r admitted.command) is asked)

pub returns-in-Ok-clause-judged : goal.returns-in-Ok-clause-judged
returns-in-Ok-clause-judged c page admitted says sound here request behind checks =
    let asked = rw c.in-Select.is at request in
    (select_passes admitted c.in-Select.prefix.now asked.form asked.means _
    (c.in-Ok.ensures.found page admitted.at.registry says.registry)).0

pub returns-in-Err-clause-judged : goal.returns-in-Err-clause-judged
returns-in-Err-clause-judged c page admitted says sound here request behind checks =
    let asked = rw c.in-Select.is at request in
    select_refused admitted c.in-Select.prefix.now asked.form asked.means c.in-Err.rule (c.in-Err.ensures.none page admitted.at.registry says.registry)

pub returns-in-Ok-judge_more_channel-clause-judged : goal.returns-in-Ok-judge_more_channel-clause-judged
returns-in-Ok-judge_more_channel-clause-judged c page admitted says sound here request behind checks =
    let asked = rw c.in-MoreChannel.is at request in
    open_passes admitted asked.form _
    (c.in-Ok-judge_more_channel.ensures.found page c.args.tables.now admitted.at says sound.fits.channels)

pub returns-in-Err-judge_more_channel-clause-judged : goal.returns-in-Err-judge_more_channel-clause-judged
returns-in-Err-judge_more_channel-clause-judged c page admitted says sound here request behind checks =
    let asked = rw c.in-MoreChannel.is at request in
    open_refused admitted asked.form c.in-Err-judge_more_channel.rule asked.means
    (c.in-Err-judge_more_channel.ensures.none page c.args.tables.now admitted.at says sound.fits.channels)

pub returns-in-Ok-judge_get_data-clause-judged : goal.returns-in-Ok-judge_get_data-clause-judged
returns-in-Ok-judge_get_data-clause-judged c page admitted says sound here request behind checks =
    let asked = rw c.in-Get.is at request in
    let is : slice_index_or c.args.live.now.selected c.args.channel None ≡ Some c.unwrap-domain.result = search rules in
    let on = selected_entry page c.args.tables.now c.args.live.now admitted.at c.args.channel c.unwrap-domain.result says c.requires.channel is in
    let found = has_data page c.args.tables.now admitted.at.registry says.registry sound.well c.unwrap-domain.result on.0 on.1 c.in-Get.tag
    c.in-Ok-judge_get_data.field-0 (c.in-Ok-judge_get_data.ensures.found page admitted.at.registry on.0 says.registry sound.well on.1) in
    get_passes admitted asked.form found.0
    (asks admitted _ c.in-Get.tag found.0 (ap (selected_on admitted.at.volatile) (sym here) ∙ on.2) asked.means found.1)

pub returns-in-Err-judge_get_data-clause-judged : goal.returns-in-Err-judge_get_data-clause-judged
returns-in-Err-judge_get_data-clause-judged c page admitted says sound here request behind checks =
    let asked = rw c.in-Get.is at request in
    let is : slice_index_or c.args.live.now.selected c.args.channel None ≡ Some c.unwrap-domain.result = search rules in
    let on = selected_entry page c.args.tables.now c.args.live.now admitted.at c.args.channel c.unwrap-domain.result says c.requires.channel is in
    let none = c.in-Err-judge_get_data.ensures.none page admitted.at.registry on.0 says.registry sound.well on.1 in
    get_refused admitted asked.form c.in-Err-judge_get_data.rule
    (λ value for. none value (asked_for admitted _ c.in-Get.tag value (ap (selected_on admitted.at.volatile) (sym here) ∙ on.2) asked.means for))

pub returns-in-Ok-judge_initialize_update-clause-judged : goal.returns-in-Ok-judge_initialize_update-clause-judged
returns-in-Ok-judge_initialize_update-clause-judged c page admitted says sound here request behind checks =
    let asked = rw c.in-Initialize.is at request in
    let acts = acts_in (goal.at.returns-in-Ok-judge_initialize_update-clause-judged c).After-unwrap-domain page admitted says sound here in
    offer_judged admitted None asked.form
    (c.in-Ok-judge_initialize_update.ensures.passed page admitted acts asked.means.0)

pub returns-in-Err-judge_initialize_update-clause-judged : goal.returns-in-Err-judge_initialize_update-clause-judged
returns-in-Err-judge_initialize_update-clause-judged c page admitted says sound here request behind checks =
    let asked = rw c.in-Initialize.is at request in
    let acts = acts_in (goal.at.returns-in-Err-judge_initialize_update-clause-judged c).After-unwrap-domain page admitted says sound here in
    offer_judged admitted (Some c.in-Err-judge_initialize_update.rule) asked.form
    (c.in-Err-judge_initialize_update.ensures.refused page admitted acts asked.means.0)

pub returns-in-Authenticate-clause-judged : goal.returns-in-Authenticate-clause-judged
returns-in-Authenticate-clause-judged c page admitted says sound here request behind checks =
    let asked = rw c.in-Authenticate.is at request in
    absurd (behind.0 asked.form.0)

pub returns-in-PutKey-clause-judged : goal.returns-in-PutKey-clause-judged
returns-in-PutKey-clause-judged c page admitted says sound here request behind checks =
    let asked = rw c.in-PutKey.is at request in
    let acts = acts_in (goal.at.returns-in-PutKey-clause-judged c).After-unwrap-domain page admitted says sound here in
    put_judged admitted _ asked.form
    (rw c.err.ensures.value (by_err (FailsFirst (command_form managed_put_key) admitted) c.judge_put_key.result
    (c.judge_put_key.ensures.passed page admitted acts asked (checks asked.form.0)) (c.judge_put_key.ensures.refused page admitted acts asked (checks asked.form.0))))

pub returns-in-Store-clause-judged : goal.returns-in-Store-clause-judged
returns-in-Store-clause-judged c page admitted says sound here request behind checks =
    let asked = rw c.in-Store.is at request in
    let acts = acts_in (goal.at.returns-in-Store-clause-judged c).After-unwrap-domain page admitted says sound here in
    rw c.err-in-Store.ensures.value (by_err (Judges admitted) c.judge_store_data.result
    (c.judge_store_data.ensures.passed page admitted acts asked) (c.judge_store_data.ensures.refused page admitted acts asked))

pub returns-in-DeleteKey-clause-judged : goal.returns-in-DeleteKey-clause-judged
returns-in-DeleteKey-clause-judged c page admitted says sound here request behind checks =
    let asked = rw c.in-DeleteKey.is at request in
    let acts = acts_in (goal.at.returns-in-DeleteKey-clause-judged c).After-unwrap-domain page admitted says sound here in
    rw c.err-in-DeleteKey.ensures.value (by_err (Judges admitted) c.judge_delete_key.result
    (c.judge_delete_key.ensures.passed page admitted acts asked) (c.judge_delete_key.ensures.refused page admitted acts asked))

pub returns-in-DeleteObject-clause-judged : goal.returns-in-DeleteObject-clause-judged
returns-in-DeleteObject-clause-judged c = form_judged (goal.at.returns-in-DeleteObject-clause-judged c).After-unwrap-domain _ _ c.in-DeleteObject.is c.judge_form.ensures.judged

pub returns-in-Install-clause-judged : goal.returns-in-Install-clause-judged
returns-in-Install-clause-judged c = form_judged (goal.at.returns-in-Install-clause-judged c).After-unwrap-domain _ _ c.in-Install.is c.judge_form-in-Install.ensures.judged

pub returns-in-MakeSelectable-clause-judged : goal.returns-in-MakeSelectable-clause-judged
returns-in-MakeSelectable-clause-judged c = form_judged (goal.at.returns-in-MakeSelectable-clause-judged c).After-unwrap-domain _ _ c.in-MakeSelectable.is c.judge_form-in-MakeSelectable.ensures.judged

pub returns-in-Extradite-clause-judged : goal.returns-in-Extradite-clause-judged
returns-in-Extradite-clause-judged c = form_judged (goal.at.returns-in-Extradite-clause-judged c).After-unwrap-domain _ _ c.in-Extradite.is c.judge_form-in-Extradite.ensures.judged

pub returns-in-InstallLoad-clause-judged : goal.returns-in-InstallLoad-clause-judged
returns-in-InstallLoad-clause-judged c = form_judged (goal.at.returns-in-InstallLoad-clause-judged c).After-unwrap-domain _ _ c.in-InstallLoad.is c.judge_form-in-InstallLoad.ensures.judged

pub returns-in-CardStatus-clause-judged : goal.returns-in-CardStatus-clause-judged
returns-in-CardStatus-clause-judged c page admitted says sound here request behind checks =
    let asked = rw c.in-CardStatus.is at request in
    let acts = acts_in (goal.at.returns-in-CardStatus-clause-judged c).After-unwrap-domain page admitted says sound here in
    let means : IsCardStatusOf c.in-CardStatus.life admitted.command = record { parameters = asked.form.1; code_is = asked.means } in
    rw c.err-in-CardStatus.ensures.value (judged_by (command_form managed_card_status) (λ holds here. inl here) admitted asked.form refl _
    (c.judge_card_status.ensures.passed page admitted acts means) (c.judge_card_status.ensures.refused page admitted acts means))

pub returns-in-EntryStatus-clause-judged : goal.returns-in-EntryStatus-clause-judged
returns-in-EntryStatus-clause-judged c page admitted says sound here request behind checks =
    let asked = rw c.in-EntryStatus.is at request in
    let acts = acts_in (goal.at.returns-in-EntryStatus-clause-judged c).After-unwrap-domain page admitted says sound here in
    rw c.err-in-EntryStatus.ensures.value (judged_by (command_form managed_entry_status) (λ holds here. inr (inl here)) admitted asked.form refl _
    (c.judge_entry_status.ensures.passed page admitted acts asked.means) (c.judge_entry_status.ensures.refused page admitted acts asked.means))

pub returns-in-List-clause-judged : goal.returns-in-List-clause-judged
returns-in-List-clause-judged c page admitted says sound here request behind checks =
    let asked = rw c.in-List.is at request in
    absurd (behind.1 asked.form.0)

pub returns-in-List-clause-listed : goal.returns-in-List-clause-listed
returns-in-List-clause-listed c page admitted says sound here before request ins =
    let asked = rw c.in-List.is at request in
    let tables = c.args.tables.now in
    let slot = c.unwrap-domain.result in
    let at : slice_index_or c.args.live.now.selected c.args.channel None ≡ Some slot = search rules in
    let on = selected_entry page tables c.args.live.now admitted.before c.args.channel slot says c.requires.channel at in
    let acts : ActsIn page tables slot admitted = record {
      says = subst (Represents page tables) (sym before.0) says.registry;
      well = subst Well (sym before.0) sound.well;
      entry = on.0;
      at = on.1;
      on = before.1 ∙ ap (selected_on admitted.before.volatile) (sym here) ∙ on.2;
    } in
    let four : length c.args.live.now.places ≡ CHANNELS = search rules in
    let copied : option_copied c.as_ref-place.result ≡ slice_index_or c.args.live.now.places c.args.channel None =
    c.as_ref-place.ensures.value ∙ ap (λ (n : ℕ). slice_index_or c.args.live.now.places n c.index-live-from.result) c.from-in-List.ensures
    ∙ get_or_default c.args.live.now.places c.args.channel c.index-live-from.result None (subst (λ (n : ℕ). c.args.channel < n) (sym four) c.requires.channel) in
    let place : IsPlaceBefore (option_copied c.as_ref-place.result) admitted =
    ap (option_map place_of) copied ∙ says.places c.args.channel c.requires.channel ∙ ap (λ (n : ℕ). place_in (channel_at admitted.before.volatile n)) here in
    rw c.err-in-List.ensures.value (judged_by get_status (λ holds here. inl here) admitted asked.form refl _
    (c.judge_status.ensures.passed page admitted acts place asked.means) (c.judge_status.ensures.refused page admitted acts place asked.means))

pub returns-in-Load-clause-judged : goal.returns-in-Load-clause-judged
returns-in-Load-clause-judged c page admitted says sound here request behind checks =
    let asked = rw c.in-Load.is at request in
    absurd (behind.2 asked.form.0)

pub returns-in-Load-clause-numbered : goal.returns-in-Load-clause-numbered
returns-in-Load-clause-numbered c page admitted says sound here request ins =
    let asked = rw c.in-Load.is at request in
    let acts = acts_in (goal.at.returns-in-Load-clause-numbered c).After-unwrap-domain page admitted says sound here in
    let is_for : IsForLoad c.args.tables.now c.args.live.now.load c.args.channel admitted = record { named = says.load; on = here } in
    rw c.err-in-Load.ensures.value (by_err (λ found. IsFirst (LoadFails admitted) front_rules found) c.judge_load.result
    (c.judge_load.ensures.passed page admitted acts is_for asked.means) (c.judge_load.ensures.refused page admitted acts is_for asked.means))
