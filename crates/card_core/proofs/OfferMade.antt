-- The reply to INITIALIZE UPDATE, and the offer that is made.
use Rattle.std.proofs.Common.{◌≡◌, ℕ, List, [], ◌∷◌, ◌++◌, Option, None, Some, Result, Ok, Err, refl, sym, ap, subst, ◌∙◌, inr, arith}
use Rattle.std.specs.Prelude.{IsErrAnd}
use Rattle.std.proofs.lemmas.List.{append_assoc}
use Rattle.card_types.specs.declared.data_objects.TheConstants.{DIVERSIFICATION}
use Rattle.apdu_core.specs.declared.reply.Status.{Status}
use Rattle.card_core.specs.Prelude.{Admitted, AsksForSet, Counter, HasData, IsDataObject, Judges, KeptOffer, Object, Offer, OffersAs, Registry, RepresentsOffer, UsesSet, acting, card_cryptogram, counter_bytes, diversification_of, new_offer, object_named, offer_body}
use Rattle.card_core.specs.declared.channel_session.ChannelSession.{ChannelSession}
use Rattle.card_types.specs.declared.tables.Tables.{Tables}
use Rattle.policy_machine.specs.declared.rule.Rule.{Rule}

-- the key diversification data where there is such a data object
pub object_diversifies : (said : Registry) (owner value : List ℕ) → IsDataObject said owner DIVERSIFICATION value
    → value ≡ diversification_of (object_named said owner DIVERSIFICATION)
object_diversifies said owner value is = is.2 ∙ ap diversification_of (sym is.1)

-- there is no such data object where GET DATA finds nothing
pub none_named : (said : Registry) (owner : List ℕ) → ((value : List ℕ) → HasData said owner DIVERSIFICATION value → ⊥) → object_named said owner DIVERSIFICATION ≡ None
none_named said owner none = by (object_named said owner DIVERSIFICATION) refl
  where
    by : (o : Option Object) → object_named said owner DIVERSIFICATION ≡ o → o ≡ None
    by None is = refl
    by (Some object) is =
        absurd (none object.value (inr (inr ((λ same. omega (arith, same)), (λ same. omega (arith, same)), (object, is, refl)))))

-- a refusal that is handed on
pub refusal_handed : (admitted : Admitted) (page : ℕ → List ℕ) (tables : Tables) (held : ChannelSession) (body : List ℕ) (result : Result Status Rule) (found : Rule)
    → IsErrAnd result (λ rule. rule ≡ found) → Judges admitted (Some found) → body ≡ [] → OffersAs admitted page tables tables held held body result
refusal_handed admitted page tables held body (Ok status) found given judges empty = absurd given
refusal_handed admitted page tables held body (Err rule) found given judges empty =
    (subst (λ (r : Rule). Judges admitted (Some r)) (sym given) judges, refl, refl, empty)

-- the body of the reply, written part by part
pub body_is : (said : Registry) (owner : List ℕ) (counter : Counter) (made : Offer) (zeroth first second third fourth fifth card cryptogram last : List ℕ)
    → zeroth ≡ diversification_of (object_named said owner DIVERSIFICATION) → first ≡ zeroth ++ counter.version ∷ [] → second ≡ first ++ 0x03 ∷ 0x70 ∷ []
    → third ≡ second ++ card → fourth ≡ third ++ cryptogram → fifth ≡ fourth ++ last
    → card ≡ made.card → cryptogram ≡ card_cryptogram made → last ≡ counter_bytes counter.number
    → fifth ≡ offer_body said owner counter made
body_is said owner counter made zeroth first second third fourth fifth card cryptogram last e0 e1 e2 e3 e4 e5 is_card is_cryptogram is_last =
    rw (e5, e4, e3, e2, e1, e0, is_card, is_cryptogram, is_last) (simp append_assoc)

-- an offer for the AID and the host challenge in the code is one for those of the command
pub offer_stands : (kept : KeptOffer) (enc mac dek : List ℕ) (counter : ℕ) (aid selected host body : List ℕ)
    → RepresentsOffer kept (new_offer enc mac dek counter aid host) → aid ≡ selected → host ≡ body
    → RepresentsOffer kept (new_offer enc mac dek counter selected body)
offer_stands kept enc mac dek counter aid selected host body stands same_aid same_host =
    subst (λ (h : List ℕ). RepresentsOffer kept (new_offer enc mac dek counter selected h)) same_host
    (subst (λ (a : List ℕ). RepresentsOffer kept (new_offer enc mac dek counter a host)) same_aid stands)

-- the key set of the domain in a slot is the one that the command asks for
pub set_asked : (admitted : Admitted) (domain : List ℕ) (version : ℕ) (owner : List ℕ) (counter : Counter) → acting admitted ≡ domain
    → version ≡ admitted.command.p1 → UsesSet admitted.at.registry domain version owner counter → AsksForSet admitted owner counter
set_asked admitted domain version owner counter on asked uses =
    subst (λ (n : ℕ). UsesSet admitted.at.registry (acting admitted) n owner counter) asked
    (subst (λ (aid : List ℕ). UsesSet admitted.at.registry aid version owner counter) (sym on) uses)
