-- The words after a verb that sends say one thing.
use Rattle.std.proofs.Common.{◌≡◌, ℕ, List, [], ◌∷◌, refl, ap, Option, Some, None, sym, ◌∙◌}
use Rattle.arrayvec.specs.ArrayVec.{ArrayVec}
use Rattle.script_lines.proofs.OneValue.{one_aid, one_byte, one_count, one_domain, one_hash, one_level, one_p1, one_parameters, one_plain, one_privileges, one_some, one_up_to, one_vec}
use Rattle.script_lines.specs.Delete.{SaysDelete}
use Rattle.script_lines.specs.Extradite.{SaysExtradite}
use Rattle.script_lines.specs.Install.{SaysInstall}
use Rattle.script_lines.specs.Life.{MayName, SaysLife}
use Rattle.script_lines.specs.Listing.{MayBegin, SaysListing}
use Rattle.script_lines.specs.Load.{SaysContent, SaysLoad}
use Rattle.script_lines.specs.Open.{SaysOpen}
use Rattle.script_lines.specs.Selectable.{SaysSelectable}
use Rattle.script_lines.specs.Send.{SaysSend}
use Rattle.script_lines.specs.Words.{SaysBytes}
use Rattle.script_lines.specs.declared.deletion.Deletion.{Deletion}
use Rattle.script_lines.specs.declared.extradition.Extradition.{Extradition}
use Rattle.script_lines.specs.declared.install.Installation.{Installation}
use Rattle.script_lines.specs.declared.life.LifeChange.{LifeChange}
use Rattle.script_lines.specs.declared.listing.Listing.{Listing}
use Rattle.script_lines.specs.declared.load_file.Content.{Content}
use Rattle.script_lines.specs.declared.load_file.Content.TheVariants.{Written, Filled}
use Rattle.script_lines.specs.declared.load_file.LoadFile.{LoadFile}
use Rattle.script_lines.specs.declared.opening.Opening.{Opening}
use Rattle.script_lines.specs.declared.plain.Plain.{Plain}

pub one_bytes : (words : List (List ℕ)) (a b : ArrayVec ℕ) → SaysBytes words a → SaysBytes words b → a ≡ b
one_bytes (word ∷ []) a b x y = one_up_to 258 word a b x y
one_bytes _ a b x y = absurd x

pub one_opening : (words : List (List ℕ)) (a b : Opening) → SaysOpen words a → SaysOpen words b → a ≡ b
one_opening (version ∷ level ∷ challenge ∷ []) a b x y =
    let v = one_byte version a.version b.version x.0 y.0 in
    let l = one_level level a.level b.level x.1 y.1 in
    let c = one_some 8 challenge a.challenge b.challenge x.2 y.2 in
    λ i. record { version = v i; level = l i; challenge = c i }
one_opening _ a b x y = absurd x

pub one_send : (words : List (List ℕ)) (a b : Plain) → SaysSend words a → SaysSend words b → a ≡ b
one_send (command ∷ []) a b x y = one_plain command a b x y
one_send _ a b x y = absurd x

pub one_installation : (words : List (List ℕ)) (a b : Installation) → SaysInstall words a → SaysInstall words b → a ≡ b
one_installation (p1 ∷ file ∷ class ∷ aid ∷ privileges ∷ parameters ∷ []) a b x y =
    let s = one_p1 p1 a.selectable b.selectable x.0 y.0 in
    let f = one_aid file a.file b.file x.1 y.1 in
    let m = one_aid class a.module b.module x.2 y.2 in
    let n = one_aid aid a.aid b.aid x.3 y.3 in
    let p = one_privileges privileges a.privileges b.privileges x.4 y.4 in
    let q = one_parameters parameters a.parameters b.parameters x.5 y.5 in
    λ i. record { selectable = s i; file = f i; «module» = m i; aid = n i; privileges = p i; parameters = q i }
one_installation _ a b x y = absurd x

pub one_selectable : (words : List (List ℕ)) (a b : List ℕ) → SaysSelectable words a → SaysSelectable words b → a ≡ b
one_selectable (aid ∷ []) a b x y = one_aid aid a b x y
one_selectable _ a b x y = absurd x

pub one_extradition : (words : List (List ℕ)) (a b : Extradition) → SaysExtradite words a → SaysExtradite words b → a ≡ b
one_extradition (aid ∷ domain ∷ []) a b x y =
    let m = one_aid aid a.aid b.aid x.0 y.0 in
    let d = one_aid domain a.domain b.domain x.1 y.1 in
    λ i. record { aid = m i; domain = d i }
one_extradition _ a b x y = absurd x

one_content : (words : List (List ℕ)) (a b : Content) → SaysContent words a → SaysContent words b → a ≡ b
one_content words (Written a) (Written b) x y = ap Written (one_bytes words a b x y)
one_content (fill ∷ count ∷ byte ∷ []) (Filled a) (Filled b) x y =
    let c = one_count count a.count b.count x.1 y.1 in
    let v = one_byte byte a.byte b.byte x.2 y.2 in
    ap Filled (λ i. record { count = c i; byte = v i })
one_content (bytes ∷ []) (Written a) (Filled b) x y = absurd y
one_content (fill ∷ count ∷ byte ∷ []) (Filled a) (Written b) x y = absurd y
one_content _ (Written a) b x y = absurd x
one_content _ (Filled a) b x y = absurd x

pub one_load : (words : List (List ℕ)) (a b : LoadFile) → SaysLoad words a → SaysLoad words b → a ≡ b
one_load (file ∷ domain ∷ hash ∷ content) a b x y =
    let f = one_aid file a.file b.file x.0 y.0 in
    let d = one_domain domain a.domain b.domain x.1 y.1 in
    let h = one_hash hash a.hash b.hash x.2 y.2 in
    let c = one_content content a.content b.content x.3 y.3 in
    λ i. record { file = f i; domain = d i; hash = h i; content = c i }
one_load _ a b x y = absurd x

pub one_deletion : (words : List (List ℕ)) (a b : Deletion) → SaysDelete words a → SaysDelete words b → a ≡ b
one_deletion (aid ∷ p2 ∷ []) a b x y =
    let n = one_aid aid a.aid b.aid x.0 y.0 in
    let p = one_byte p2 a.p2 b.p2 x.1 y.1 in
    λ i. record { aid = n i; p2 = p i }
one_deletion _ a b x y = absurd x

pub one_name : (words : List (List ℕ)) (a b : Option (List ℕ)) → MayName words a → MayName words b → a ≡ b
one_name [] None None x y = refl
one_name [] None (Some b) x y = absurd y
one_name (word ∷ []) (Some a) (Some b) x y = ap Some (one_aid word a b x y)
one_name (word ∷ []) (Some a) None x y = absurd y
one_name (word ∷ []) None b x y = absurd x
one_name _ None b x y = absurd x
one_name _ (Some a) b x y = absurd x

pub one_life : (words : List (List ℕ)) (a b : LifeChange) → SaysLife words a → SaysLife words b → a ≡ b
one_life (p1 ∷ p2 ∷ aid) a b x y =
    let p = one_byte p1 a.p1 b.p1 x.0 y.0 in
    let q = one_byte p2 a.p2 b.p2 x.1 y.1 in
    let n = one_name aid a.aid b.aid x.2 y.2 in
    λ i. record { p1 = p i; p2 = q i; aid = n i }
one_life _ a b x y = absurd x

one_prefix : (words : List (List ℕ)) (a b : ArrayVec ℕ) → MayBegin words a.items → MayBegin words b.items → a ≡ b
one_prefix [] a b x y = one_vec a b (x ∙ sym y)
one_prefix (word ∷ []) a b x y = one_up_to 16 word a b x y
one_prefix _ a b x y = absurd x

pub one_listing : (words : List (List ℕ)) (a b : Listing) → SaysListing words a → SaysListing words b → a ≡ b
one_listing (p1 ∷ aid) a b x y =
    let p = one_byte p1 a.p1 b.p1 x.0 y.0 in
    let n = one_prefix aid a.prefix b.prefix x.1 y.1 in
    λ i. record { p1 = p i; prefix = n i }
one_listing _ a b x y = absurd x
