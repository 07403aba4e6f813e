-- The reply that is kept.
use Rattle.std.proofs.Common.{◌≡◌, ℕ, Bool, true, false, List, [], ◌∷◌, ◌++◌, Some, refl, sym, ap, ◌∙◌}
use Rattle.std.specs.Prelude.{IsTrue}
use Rattle.std.specs.List.{concat}
use Rattle.std.proofs.lemmas.List.{append-nil}
use Rattle.script_tool.specs.Host.{first_host}
use Rattle.script_tool.specs.Kept.{RepresentsHost}
use Rattle.gp_tool.specs.Standing.{Means, held_in, kept_if}
use Rattle.gp_tool.specs.RunsLines.{no_memory}
use Rattle.gp_tool.specs.declared.verb.Verb.{Verb}
use Rattle.gp_tool.specs.declared.verb.Verb.TheVariants.{Run, Why, Replay, Play}
use Rattle.gp_tool.specs.declared.workspace.Workspace.{Workspace}

-- it is there
pub kept_is : (has : Bool) (reply : List ℕ) → has ≡ true → kept_if has reply ≡ Some reply
kept_is has reply is = ap (λ b. kept_if b reply) is

-- what is false is not true
pub not_true : (b : Bool) → b ≡ false → IsTrue b → ⊥
not_true b is other = cc (is, other)

-- one text was written
pub wrote_line : (old new text : List ℕ) → new ≡ old ++ text → new ≡ old ++ concat (text ∷ [])
wrote_line old new text wrote = wrote ∙ ap (λ t. old ++ t) (sym (append-nil text))

-- what a new workspace holds means what is kept at the start
pub means_first : (verb : Verb) (space : Workspace) → space.has_reply ≡ false → RepresentsHost space.player first_host → Means verb (held_in verb space) (no_memory verb)
means_first Run space none player = refl
means_first Why space none player = refl
means_first Replay space none player = ap (λ b. kept_if b space.reply.items) none
means_first Play space none player = player
