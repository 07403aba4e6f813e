-- A file that a line loads makes no more blocks than can be numbered.
use Rattle.std.proofs.Common.{◌≡◌, ◌≤◌, ◌⊎◌, ℕ, List, [], ◌∷◌, length, inl, inr, subst, arith}
use Rattle.std.proofs.lemmas.List.{length-replicate}
use Rattle.script_lines.specs.Exchange.{SaysExchange}
use Rattle.script_lines.specs.Line.{SaysLine, SaysQuietly}
use Rattle.script_lines.specs.Load.{SaysContent, SpellsCount, content_bytes}
use Rattle.script_tool.specs.Play.{FitsBlocks}
use Rattle.script_lines.specs.Words.{SpellsUpTo, words_of}
use Rattle.script_lines.specs.declared.line.ScriptLine.{ScriptLine}
use Rattle.script_lines.specs.declared.line.ScriptLine.TheVariants as line
use Rattle.script_lines.specs.declared.exchange.Exchange as the_type
use Rattle.script_lines.specs.declared.exchange.Exchange.TheVariants as exchange
use Rattle.script_lines.specs.declared.load_file.Content.{Content}
use Rattle.script_lines.specs.declared.load_file.Content.TheVariants.{Written, Filled}
use Rattle.script_lines.specs.declared.load_file.LoadFile.{LoadFile}

content_fits : (words : List (List ℕ)) (content : Content) → SaysContent words content → length (content_bytes content) ≤ 60_000
unfolding SpellsUpTo SpellsCount
content_fits (bytes ∷ []) (Written b) x = omega (arith, x.2)
content_fits (fill ∷ count ∷ byte ∷ []) (Filled f) x = omega (arith, length-replicate f.count f.byte, x.1.2)
content_fits [] (Written b) x = absurd x
content_fits [] (Filled f) x = absurd x
content_fits (a ∷ []) (Filled f) x = absurd x
content_fits (a ∷ b ∷ []) (Written c) x = absurd x
content_fits (a ∷ b ∷ []) (Filled f) x = absurd x
content_fits (a ∷ b ∷ c ∷ []) (Written d) x = absurd x
content_fits (a ∷ b ∷ c ∷ d ∷ more) (Written e) x = absurd x
content_fits (a ∷ b ∷ c ∷ d ∷ more) (Filled f) x = absurd x

load_fits : (words : List (List ℕ)) (l : LoadFile) → SaysExchange words (exchange.Load l) → length (content_bytes l.content) ≤ 60_000
load_fits (verb ∷ file ∷ domain ∷ hash ∷ content) l x = content_fits content l.content x.1.3
load_fits [] l x = absurd x
load_fits _ l x = absurd x.1

exchange_fits : (words : List (List ℕ)) (e : the_type.Exchange) → SaysExchange words e → FitsBlocks e
exchange_fits words (exchange.Load file) x = load_fits words file x
exchange_fits words e x = tt

quiet_fits : (words : List (List ℕ)) (e : the_type.Exchange) → SaysQuietly words e → FitsBlocks e
quiet_fits (mark ∷ words) e x = exchange_fits words e x.1
quiet_fits [] e x = absurd x

-- that of a line that sends something
pub said_fits : (text : List ℕ) (said : ScriptLine) (e : the_type.Exchange) → SaysLine text said → (said ≡ line.Exchange e) ⊎ (said ≡ line.Quiet e) → FitsBlocks e
said_fits text said e says (inl is) = exchange_fits (words_of text) e (subst (SaysLine text) is says)
said_fits text said e says (inr is) = quiet_fits (words_of text) e (subst (SaysLine text) is says)
