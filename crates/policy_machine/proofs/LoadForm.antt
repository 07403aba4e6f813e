-- LOAD: what the laws over all commands need of the form.
use Rattle.std.proofs.Common.{◌≡◌, ◌≢◌, inl, inr, refl, sym, ◌∙◌}
use Rattle.policy_machine.specs.Prelude.{Admitted, HasNoLength, HasNoRoom, HasOtherCount, HasOtherHash, InLoad, IsAtOrAbove, IsLoadOn, LoadSession, LoadingFails, acting, block_of, changing, loading, managing}
use Rattle.policy_machine.specs.declared.load.RuleLO.{RuleLO}
use Rattle.policy_machine.specs.declared.load.RuleLO.TheVariants.{LO1, LO2, LO3, LO4, LO5, LO6, LO7, LO8}
use Rattle.policy_machine.specs.declared.rule.Rule.TheVariants.{LO, M}
use Rattle.policy_machine.proofs.Alike.{IsAlike, IsAlikeForm, LooksAtSeen, alike_back, by_seen, management_alike, unchanged}
use Rattle.policy_machine.proofs.FormLaws.{FormLaws}
use Rattle.policy_machine.proofs.Instructed.{among}
use Rattle.policy_machine.proofs.LoadLaws.{load_lawful}
use Rattle.policy_machine.proofs.LoadRises.{load_rising}
use Rattle.policy_machine.proofs.LoadSpares.{load_sparing}

-- the load session of the channel is the same one
on_alike : (load : LoadSession) → IsAlike (λ x. IsLoadOn x load)
on_alike load a b alike on = (sym alike.load ∙ on.0, on.1 ∙ alike.channel)

-- what holds of the load session looks at no more
in_load : (holds : Admitted → LoadSession → Type 0) → ((load : LoadSession) → LooksAtSeen (λ x. holds x load)) → IsAlike (λ x. InLoad x (holds x))
in_load holds looks a b alike is = (is.0, on_alike is.0 a b alike is.1, by_seen (λ x. holds x is.0) (looks is.0) a b alike is.2)

no_load : IsAlike (λ x. (load : LoadSession) → IsLoadOn x load → ⊥)
no_load a b alike none load on = none load (on_alike load b a (alike_back a b alike) on)

last_alike : IsAlike (λ x. x.command.p1 ≡ 0x80)
last_alike a b alike last = sym alike.p1 ∙ last

loading_alike : (rule : RuleLO) → IsAlike (λ x. LoadingFails x rule)
loading_alike LO1 a b alike (inl none) = inl (no_load a b alike none)
loading_alike LO1 a b alike (inr full) = inr (in_load (λ x load. load.blocks ≡ 256) (λ load x. unchanged) a b alike full)
loading_alike LO2 a b alike fails = in_load (λ x load. x.command.p2 ≢ load.blocks) (λ load x. unchanged) a b alike fails
loading_alike LO3 a b alike fails = in_load (λ x load. HasNoLength load (block_of x.command)) (λ load x. unchanged) a b alike fails
loading_alike LO4 a b alike fails = in_load (λ x load. HasNoRoom x.at.registry load (block_of x.command)) (λ load x. unchanged) a b alike fails
loading_alike LO5 a b alike fails = in_load (λ x load. HasOtherCount load (block_of x.command)) (λ load x. unchanged) a b alike fails
loading_alike LO6 a b alike fails = in_load (λ x load. HasOtherHash load (block_of x.command)) (λ load x. unchanged) a b alike fails
loading_alike LO7 a b alike (last, elsewhere) =
    (last_alike a b alike last, in_load (λ x load. IsAtOrAbove x.at.registry (acting x) load.domain → ⊥) (λ load x. unchanged) a b alike elsewhere)
loading_alike LO8 a b alike fails = by_seen (λ x. LoadingFails x LO8) (λ x. unchanged) a b alike fails

load_alike : IsAlikeForm loading
load_alike (M rule) a b alike fails = management_alike rule a b alike fails
load_alike (LO rule) a b alike fails = loading_alike rule a b alike fails
load_alike rule a b alike fails = absurd fails

pub load_laws : FormLaws loading
load_laws = record { lawful = load_lawful (among managing 0xE8 refl); rising = load_rising; sparing = load_sparing (among changing 0xE8 refl); alike = inl load_alike }
