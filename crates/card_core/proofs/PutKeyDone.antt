-- What comes of a PUT KEY.
use Rattle.std.proofs.Common.{◌≡◌, ℕ, Bool, true, ◌&&◌, ◌++◌, List, [], ◌∷◌, None, length, map, refl, ap, sym, subst, ◌∙◌, append_assoc, inl}
use Rattle.std.specs.Prelude.{◌↔◌, IsTrue}
use Rattle.std.specs.List.{concat}
use Rattle.std.proofs.lemmas.Bool.{and_from, and_parts}
use Rattle.std.proofs.lemmas.List.{append-nil}
use Rattle.apdu_core.specs.declared.reply.Status.{Status}
use Rattle.card_core.specs.Prelude.{ActsIn, Admitted, AreKeysPut, AreOpened, ChecksFit, Counter, IsArranged, IsManaged, IsRequestOf, Judges, Key, NoneHolds, PutFails, Puts, SentKey, check_value, counter_order, counters_but, counters_from, domain_aid, is_domain_in, key_order, keys_but, keys_from, managed_put_key, sent_keys, with_keys}
use Rattle.card_types.specs.declared.tables.Tables.{Tables}
use Rattle.key_rules.specs.declared.refusal.PutRefusal.TheVariants.{Unknown, Taken, Full}
use Rattle.card_core.proofs.Managing.{replied_managed}
use Rattle.policy_machine.proofs.PutKeyKeeps.{AreOfVersion, HaveLengths}
use Rattle.policy_rules.proofs.PutKeyJudging.{none_holds}
use Rattle.policy_rules.specs.declared.put_key.PutKeys.{PutKeys}
use Rattle.policy_rules.specs.declared.request.Request.TheVariants.{PutKey}
use Rattle.card_core.proofs.PutKeyTables.{put_counters, put_keys, says_after, slot_keys}

-- one check value fits, or three do
pub fits_one : (fit : Bool) (sent : SentKey) (key : List ℕ) → IsTrue fit ↔ (check_value key ≡ sent.check) → IsTrue fit ↔ ChecksFit (sent ∷ []) (key ∷ [])
fits_one fit sent key tells = ((λ is. (let same = tells.0 is in cc)), λ same. tells.1 (cc))

pub fits_three : (a b c fit : Bool) (enc mac dek : SentKey) (x y z : List ℕ) → fit ≡ (a && b && c) → IsTrue a ↔ (check_value x ≡ enc.check)
    → IsTrue b ↔ (check_value y ≡ mac.check) → IsTrue c ↔ (check_value z ≡ dek.check)
    → IsTrue fit ↔ ChecksFit (enc ∷ mac ∷ dek ∷ []) (x ∷ y ∷ z ∷ [])
fits_three a b c fit enc mac dek x y z is first second third = (
  (λ all.
      (let parts = and_parts (a && b) c (sym is ∙ all) in
      let both = and_parts a b parts.0 in
      let one = first.0 both.0 in
      let two = second.0 both.1 in
      let three = third.0 parts.1 in cc)),
  (λ same.
      (let one : check_value x ≡ enc.check = cc in
      let two : check_value y ≡ mac.check = cc in
      let three : check_value z ≡ dek.check = cc in
      is ∙ and_from (a && b) c (and_from a b (first.1 one) (second.1 two)) (third.1 three))),
)

-- the body of the reply, written part by part
pub body_one : (version : ℕ) (one : SentKey) (zeroth first last : List ℕ) → zeroth ≡ [] → first ≡ zeroth ++ version ∷ [] → last ≡ first ++ one.check
    → last ≡ version ∷ concat (map (λ key. key.check) (one ∷ []))
body_one version one zeroth first last e0 e1 e2 = rw (e2, e1, e0) (ap (λ (s : List ℕ). version ∷ s) (sym (append-nil one.check)))

pub body_three : (version : ℕ) (enc mac dek : SentKey) (zeroth first second third last : List ℕ) → zeroth ≡ [] → first ≡ zeroth ++ version ∷ [] → second ≡ first ++ enc.check
    → third ≡ second ++ mac.check → last ≡ third ++ dek.check → last ≡ version ∷ concat (map (λ key. key.check) (enc ∷ mac ∷ dek ∷ []))
body_three version enc mac dek zeroth first second third last e0 e1 e2 e3 e4 = rw (e4, e3, e2, e1, e0) (simp (append_assoc, append-nil))

-- nothing refuses the keys, by the tables and the keys as they stand
pub judged_by : (domain replaced version : ℕ) (first second now : Tables) (keys others : PutKeys) → first ≡ now → second ≡ now → keys ≡ others
    → ((added : ℕ) → PutFails domain replaced version added first.keys.items Unknown → ⊥) → ((added : ℕ) → PutFails domain replaced version added first.keys.items Taken → ⊥)
    → (PutFails domain replaced version (length (sent_keys keys)) second.keys.items Full → ⊥)
    → NoneHolds (PutFails domain replaced version (length (sent_keys others)) now.keys.items)
judged_by domain replaced version first second now keys others one two alike known free room =
    let added = length (sent_keys others) in
    none_holds (PutFails domain replaced version added now.keys.items)
    (subst (λ (t : Tables). PutFails domain replaced version added t.keys.items Unknown → ⊥) one (known added))
    (subst (λ (t : Tables). PutFails domain replaced version added t.keys.items Taken → ⊥) one (free added))
    (subst (λ (t : Tables). PutFails domain replaced version added t.keys.items Full → ⊥) two
    (subst (λ (k : PutKeys). PutFails domain replaced version (length (sent_keys k)) second.keys.items Full → ⊥) alike room))

module _ (old new : Tables) (life : new.life ≡ old.life) (entries : new.entries.items ≡ old.entries.items) (files : new.files.items ≡ old.files.items)
    (objects : new.objects.items ≡ old.objects.items) (domain replaced version : ℕ) (bytes : List (List ℕ))
    (puts : Puts domain replaced (slot_keys domain version 1 bytes) old.keys.items new.keys.items) (sizes : HaveLengths bytes) (versioned : AreOfVersion version bytes)
    (none : NoneHolds (PutFails domain replaced version (length bytes) old.keys.items)) (is_domain : is_domain_in old.entries.items domain ≡ true)
    (page : ℕ → List ℕ) (admitted : Admitted) (acts : ActsIn page old domain admitted) (keys : PutKeys)
    (request : IsRequestOf (PutKey replaced version keys) admitted.command) (opened : AreOpened admitted (sent_keys keys) bytes) where
  abbrev keys_after : (ks : List Key) × IsArranged key_order (keys_from (domain_aid old.entries.items domain) version 1 bytes ++ keys_but (domain_aid old.entries.items domain) replaced admitted.at.registry.keys) ks
  keys_after = put_keys old new life entries files objects domain replaced version bytes puts sizes versioned none is_domain page admitted.at.registry acts.says acts.well

  abbrev counters_after : (cs : List Counter) × IsArranged counter_order (counters_from (domain_aid old.entries.items domain) version ++ counters_but (domain_aid old.entries.items domain) replaced admitted.at.registry.counters) cs
  counters_after = put_counters old new life entries files objects domain replaced version bytes puts sizes versioned none is_domain page admitted.at.registry acts.says acts.well

  put : AreKeysPut admitted (record { version = version; sent = sent_keys keys }) (with_keys admitted.at.registry keys_after.0 counters_after.0)
  put = record {
    bytes = bytes;
    opened = opened;
    keys = keys_after.0;
    counters = counters_after.0;
    keys_put = subst (λ (things : List Key). IsArranged key_order things keys_after.0)
        (λ i. keys_from (sym acts.on i) version 1 bytes ++ keys_but (sym acts.on i) (request.means.0 i) admitted.at.registry.keys) keys_after.1;
    counters_put = subst (λ (things : List Counter). IsArranged counter_order things counters_after.0)
        (λ i. counters_from (sym acts.on i) version ++ counters_but (sym acts.on i) (request.means.0 i) admitted.at.registry.counters) counters_after.1;
    registry = refl;
  }

  pub put_managed : (body : List ℕ) (status : Status) → Judges admitted None → body ≡ version ∷ concat (map (λ one. one.check) (sent_keys keys))
      → status.0 ≡ 0x9000 → IsManaged admitted page new body status
  put_managed body status judges written word =
      replied_managed managed_put_key (λ holds here. inl here) admitted request.form (record { version = version; sent = sent_keys keys }) request.means.1
      (with_keys admitted.at.registry keys_after.0 counters_after.0) put judges (λ no. no) page new
      (says_after old new life entries files objects domain replaced version bytes puts sizes versioned none is_domain page admitted.at.registry acts.says acts.well) body written status word
