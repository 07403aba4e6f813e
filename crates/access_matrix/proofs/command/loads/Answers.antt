use Rattle.std.proofs.Common.{◌≡◌, [], ◌∷◌, refl, ◌∙◌}
use Rattle.std.specs.List.{flat_map}
use Rattle.std.specs.Prelude.{IsTrue, replicate}
use Rattle.card_types.specs.Privileges.{delegated_management}
use Rattle.card_types.specs.Represents.{domain_aid}
use Rattle.policy_machine.specs.Delegation.{Holds}
use Rattle.policy_machine.specs.InstallLoad.{install_load}
use Rattle.policy_slots.specs.StateShown.{IsLoadNamed}
use Rattle.policy_slots.specs.declared.live.Live.{Live}
use Rattle.std.proofs.Common.{None, subst, sym}
use Rattle.tokens_receipts.specs.Receipt.{with_length}
use Rattle.access_matrix.specs.There.{judged_there}
use Rattle.access_matrix.proofs.DeedCommands.{load_accepted, load_command, load_front, load_request, told_token}
use Rattle.access_matrix.proofs.DomainSelected.{acts_there, used_entry}
use Rattle.access_matrix.proofs.JudgedOnce.{passes_told}
use Rattle.access_matrix.proofs.command.loads.Goals as goal

pub returns : goal.returns
returns c page said says well =
    let tables = c.args.tables.now in
    let slot = c.args.domain in
    let domain = domain_aid tables.entries.items slot in
    let file = c.free_aid-file.result in
    let given = c.token_for-token.result in
    let command = load_command file given in
    let admitted = judged_there said domain command in
    let entry = used_entry tables slot c.requires.domain in
    let acts = acts_there page tables said says slot entry.0 entry.1 well command in
    let none = subst (λ (live : Live). IsLoadNamed tables.entries.items live.load None) (sym c.live_with.ensures) tt in
    let front : c.four_fields-before.result.items ≡ load_front file given =
    c.four_fields-before.ensures.items ∙ (λ i. flat_map with_length (c.as_bytes.ensures.bytes i ∷ [] ∷ replicate 32 0 ∷ [] ∷ [])) in
    let approved = told_token said domain (IsTrue c.is_delegate-delegated.result) (Holds admitted delegated_management) 0x02 0x00 (load_front file given) c.deref.result.now given
    (c.is_delegate-delegated.ensures page admitted acts) (c.deref.ensures.0 ∙ front) (c.token_for-token.ensures.approved page admitted acts) in
    let is = load_request file given _ c.as_bytes.ensures.length c.token_for-token.ensures.size refl refl refl refl refl
    (c.deref-2.ensures.0 ∙ front) c.token_bytes.ensures in
    load_accepted file given said domain (c.free_aid-file.ensures page said says) approved
    (passes_told (install_load.fails admitted) install_load.rules c.judge_request.result
    (c.judge_request.ensures.passed page admitted acts none is) (c.judge_request.ensures.refused page admitted acts none is) c.is_ok.result c.is_ok.ensures.value)
