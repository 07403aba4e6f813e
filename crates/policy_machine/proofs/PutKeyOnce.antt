-- PUT KEY has one effect.
use Rattle.std.proofs.Common.{◌≡◌, ℕ, List, [], ◌∷◌, ◌++◌, Option, None, Some, inl, inr, map, take, refl, sym, ap, subst, ◌∙◌, arith}
use Rattle.std.specs.Prelude.{MatchOption, slice_index}
use Rattle.std.specs.Cmp.{IsTotalOrder}
use Rattle.std.specs.List.{concat}
use Rattle.std.specs.List.Sorted.{IsPermutation}
use Rattle.std.specs.declared.cmp.Ordering.{Ordering}
use Rattle.std.proofs.lemmas.Bool.{cases_lt}
use Rattle.std.proofs.lemmas.List.{get_or-replicate, get_or_past, take_at}
use Rattle.std.proofs.lemmas.List.Sorted.{IsPermutation-sym, IsPermutation-trans}
use Rattle.policy_machine.specs.Prelude.{Admitted, AreKeysPut, AreKeysSent, AsksToPut, HasKeyFields, IsArranged, IsBlock, IsKeySent, KeysAsked, PuttingKeyFails, Registry, SentKey, Session, acting, command_form, counter_order, key_count, key_field, key_order, keys_from, keys_left, managed_put_key, session_on, with_keys, zero_block}
use Rattle.cmac_kdf.proofs.CbcLemmas.{same_plain}
use Rattle.card_types.proofs.ChangeExists.{one_order}
use Rattle.card_types.proofs.KeyNames.{counter_order_total, key_order_total}
use Rattle.policy_machine.proofs.KeyFields.{one_fields}
use Rattle.policy_machine.specs.declared.rule.Rule.TheVariants.{PK}
use Rattle.policy_machine.specs.declared.put_key.RulePK.{RulePK}

pub zeros : IsBlock zero_block
zeros = record {
  sixteen = refl;
  bytes = λ i. elim (cases_lt i 16) [
    | inl within ↦ (let zero : slice_index zero_block i ≡ 0 = get_or-replicate 16 i 0 0 within in omega arith)
    | inr past ↦ (let zero : slice_index zero_block i ≡ 0 = get_or_past zero_block i 0 past in omega arith)
  ];
}

one_key : (dek : List ℕ) (sent : SentKey) (a b : List ℕ) → IsKeySent dek sent a → IsKeySent dek sent b → a ≡ b
one_key dek sent a b one other =
    let whole = one.whole in
    let too = other.whole in
    let same : a ++ one.fill ≡ b ++ other.fill =
    same_plain dek zero_block (a ++ one.fill) (b ++ other.fill) zeros one.bytes other.bytes (omega arith) (omega arith) (one.sealed ∙ sym other.sealed) in
    sym (take_at a one.fill sent.size one.size) ∙ ap (take sent.size) same ∙ take_at b other.fill sent.size other.size

pub one_keys : (dek : List ℕ) (sent : List SentKey) (a b : List (List ℕ)) → AreKeysSent dek sent a → AreKeysSent dek sent b → a ≡ b
one_keys dek [] [] [] one other = refl
one_keys dek [] [] (y ∷ b) one other = absurd other
one_keys dek [] (x ∷ a) b one other = absurd one
one_keys dek (s ∷ sent) [] b one other = absurd one
one_keys dek (s ∷ sent) (x ∷ a) [] one other = absurd other
one_keys dek (s ∷ sent) (x ∷ a) (y ∷ b) one other =
    let first = one_key dek s x y one.0 other.0 in
    let rest = one_keys dek sent a b one.1 other.1 in
    (λ i. first i ∷ rest i)

pub opened_once : (session : Option Session) (sent : List SentKey) (a b : List (List ℕ)) → MatchOption session ⊥ (λ s. AreKeysSent s.offer.dek sent a)
    → MatchOption session ⊥ (λ s. AreKeysSent s.offer.dek sent b) → a ≡ b
opened_once None sent a b one other = absurd one
opened_once (Some session) sent a b one other = one_keys session.offer.dek sent a b one other

-- one key version number and one list of keys are in a data field
pub one_version : (p2 : ℕ) (body : List ℕ) (v w : ℕ) (xs ys : List SentKey) → HasKeyFields p2 body v xs → HasKeyFields p2 body w ys → v ≡ w
one_version p2 body v w xs ys one other = (let both = sym one.spelled ∙ other.spelled in cc)

pub one_sent : (p2 : ℕ) (body : List ℕ) (v w : ℕ) (xs ys : List SentKey) → HasKeyFields p2 body v xs → HasKeyFields p2 body w ys → xs ≡ ys
one_sent p2 body v w xs ys one other =
    let both = sym one.spelled ∙ other.spelled in
    let fields : concat (map key_field xs) ≡ concat (map key_field ys) = cc in
    one_fields xs ys (concat (map key_field xs)) (key_count p2) (record { number = one.count; each = one.each; alike = one.alike; spelled = refl })
    (record { number = other.count; each = other.each; alike = other.alike; spelled = fields })

-- what the command asks for is one thing
pub one_put : (p1 p2 : ℕ) (body : List ℕ) (a b : KeysAsked) → AsksToPut p1 p2 body a → AsksToPut p1 p2 body b → a ≡ b
one_put p1 p2 body a b one other =
    let version = one_version p2 body a.version b.version a.sent b.sent one other in
    let sent = one_sent p2 body a.version b.version a.sent b.sent one other in
    (λ i. record { version = version i; sent = sent i })

pub one_arranged : {X : Type 0} (order : X → X → Ordering) → IsTotalOrder order → (things others a b : List X) → things ≡ others
    → IsArranged order things a → IsArranged order others b → a ≡ b
one_arranged order total things others a b same one other =
    one_order order total a b one.ascending other.ascending
    (IsPermutation-trans a things b (IsPermutation-sym things a one.same) (subst (λ (xs : List _). IsPermutation xs b) (sym same) other.same))

pub keys_put_once : (admitted : Admitted) (asked : KeysAsked) (a b : Registry) → AsksToPut admitted.command.p1 admitted.command.p2 admitted.command.body asked
    → AreKeysPut admitted asked a → AreKeysPut admitted asked b → a ≡ b
keys_put_once admitted asked a b asks one other =
    let owner = acting admitted in
    let bytes = opened_once (session_on admitted.at.volatile admitted.channel) asked.sent one.bytes other.bytes one.opened other.opened in
    let new = ap (λ (keys : List (List ℕ)). keys_from owner asked.version 1 keys ++ keys_left admitted) bytes in
    let keys = one_arranged key_order key_order_total _ _ one.keys other.keys new one.keys_put other.keys_put in
    let counters = one_arranged counter_order counter_order_total _ _ one.counters other.counters refl one.counters_put other.counters_put in
    one.registry ∙ (λ i. with_keys admitted.at.registry (keys i) (counters i)) ∙ sym other.registry

-- a rule of the form's own that fails of the command fails for what it asks
pub put_fails : (admitted : Admitted) (rule : RulePK) (fails : (command_form managed_put_key).fails admitted (PK rule)) → PuttingKeyFails admitted fails.0 rule
put_fails admitted rule fails =
    let own = fails.2 in
    let same : own.0 ≡ rule = (let is = own.1 in cc) in
    subst (PuttingKeyFails admitted fails.0) same own.2
