-- What is left after a DELETE of an object: what is selected, and what a receipt is made from.
use Rattle.std.proofs.Common.{◌≡◌, ℕ, Bool, List, Option, None, Some, refl, ap, sym, subst, ◌∙◌}
use Rattle.std.specs.Prelude.{IfSome, MatchOption}
use Rattle.std.specs.Option.{option_map}
use Rattle.card_check.proofs.CardNames.{file_aid_is}
use Rattle.card_types.proofs.Domains.{loaded_file_is_used}
use Rattle.card_types.proofs.EntryNames.{entry_in_slot}
use Rattle.card_core.specs.Prelude.{ActsIn, Admitted, HasIssuer, HasKey, IsAlone, IsIssuerDomain, IsKeyOf, IsReceipterIn, IsRemovable, IsToGoIn, IsUnselected, KeepsAid, KeepsNumber, KeepsReceipts, KeepsSelected, LeavesOthers, MayReceipt, Represents, Well, entry_named, entry_of, file_aid, thing_in}
use Rattle.card_types.specs.Registry as registry
use Rattle.card_types.specs.declared.factory.TheConstants.{FACTORY_FILE, ISSUER}
use Rattle.card_types.specs.declared.found.Found.{Found}
use Rattle.card_types.specs.declared.found.Found.TheVariants as Thing
use Rattle.card_types.specs.declared.tables.Entry.{Entry}
use Rattle.card_types.specs.declared.tables.KeyRec.{KeyRec}
use Rattle.card_types.specs.declared.tables.LoadFile.{LoadFile}
use Rattle.card_types.specs.declared.tables.Tables.{Tables}
use Rattle.card_types.specs.declared.tables.TheConstants.{ISSUER_SLOT}
use Rattle.content_rules.proofs.ReceipterKept.{receipter_has_others}
use Rattle.policy_slots.specs.declared.live.Live.{Live}
use Rattle.policy_slots.specs.declared.live.LoadName.{LoadName}
use Rattle.card_core.proofs.Confirming.{entry_in}
use Rattle.card_core.proofs.EntryCards.{may_still}

-- who confirms a command is the domain of something else, and so is not to go
pub confirmer_stays : (page : ℕ → List ℕ) (tables : Tables) (domain : ℕ) (admitted : Admitted) → ActsIn page tables domain admitted → (related : Bool) (thing : Found)
    → IsAlone tables related thing → (receipter : Option ℕ) → IfSome receipter (IsReceipterIn tables admitted)
    → IfSome receipter (λ slot. IsToGoIn tables related thing slot → ⊥)
confirmer_stays page tables domain admitted acts related thing alone None found = tt
confirmer_stays page tables domain admitted acts related thing alone (Some slot) found =
    λ goes. alone slot goes (receipter_has_others page tables domain admitted acts slot found)

-- the Issuer Security Domain is not to go
module _ (page : ℕ → List ℕ) (tables : Tables) (said : registry.Registry) (says : Represents page tables said) (well : Well said) (issuer : HasIssuer tables.entries.items) where
  issuer_file : (entry : Entry) → thing_in tables.entries.items ISSUER_SLOT ≡ Some entry → file_aid tables.files.items entry.file ≡ FACTORY_FILE
  issuer_file entry at =
      let own = entry_in tables.entries.items ISSUER_SLOT (λ e. e.aid ≡ ISSUER) issuer in
      let aid : entry.aid ≡ ISSUER = (let one : own.0 ≡ entry = (let here = own.1 in cc) in ap (λ (e : Entry). e.aid) (sym one) ∙ own.2) in
      let named : entry_named said ISSUER ≡ Some (entry_of tables.entries.items tables.files.items entry) = ap (entry_named said) (sym aid) ∙ entry_in_slot page tables said says ISSUER_SLOT entry at in
      (subst (λ (o : Option registry.Entry). MatchOption o ⊥ IsIssuerDomain) named well.issuer).file

  pub issuer_stays : (related : Bool) (thing : Found) → IsRemovable tables thing → IsToGoIn tables related thing ISSUER_SLOT → ⊥
  issuer_stays related (Thing.Entry slot) lasting goes = lasting (sym goes)
  issuer_stays related (Thing.File file) lasting goes =
      let entry = entry_in tables.entries.items ISSUER_SLOT (λ e. e.file ≡ file) goes.1 in
      let loaded = loaded_file_is_used page tables said says well ISSUER_SLOT entry.0 entry.1 in
      let here : thing_in tables.files.items file ≡ Some loaded.0 = ap (thing_in tables.files.items) (sym entry.2) ∙ loaded.1 in
      let aid : loaded.0.aid ≡ FACTORY_FILE = sym (file_aid_is tables.files.items file loaded.0 here) ∙ ap (file_aid tables.files.items) (sym entry.2) ∙ issuer_file entry.0 entry.1 in
      lasting (ap (option_map (λ (f : LoadFile). f.aid)) here ∙ ap Some aid)

module _ (before after : Tables) (related : Bool) (thing : Found) (leaves : LeavesOthers before after related thing) where
  entry_stays : (slot : ℕ) → (IsToGoIn before related thing slot → ⊥) → KeepsNumber before after slot
  entry_stays slot stays entry at = (entry, leaves.entries slot stays ∙ at, refl, refl)

  abbrev Stays : ℕ → Type 0
  Stays slot = IsToGoIn before related thing slot → ⊥

  -- a receipt is made from the same
  pub deletion_keeps : (receipter : Option ℕ) → IfSome receipter Stays → Stays ISSUER_SLOT → KeepsReceipts before after receipter
  deletion_keeps receipter stays issuer = record {
    entry = of receipter stays;
    keys = λ slot key. (leaves.keys slot key).0;
    objects = λ slot object owner. ((leaves.objects slot object).0, λ at. (leaves.objects slot object).1 at (subst Stays (sym owner) issuer));
  }
    where
      of : (receipter : Option ℕ) → IfSome receipter Stays → IfSome receipter (KeepsNumber before after)
      of None stays = tt
      of (Some slot) stays = entry_stays slot stays

  -- the domain that may make the receipt still may
  pub deletion_able : (receipter : Option ℕ) → IfSome receipter Stays → IfSome receipter (MayReceipt before) → IfSome receipter (MayReceipt after)
  deletion_able None stays may = tt
  deletion_able (Some slot) stays may = may_still before after slot (entry_stays slot stays) (λ place. by place (thing_in before.keys.items place) refl) may
    where
      by : (place : ℕ) (o : Option KeyRec) → thing_in before.keys.items place ≡ o → MatchOption o ⊥ (IsKeyOf slot 0x71 1) → HasKey after.keys.items slot 0x71 1 place
      by place None at is = absurd is
      by place (Some key) at is =
          subst (λ (o : Option KeyRec). MatchOption o ⊥ (IsKeyOf slot 0x71 1)) (sym ((leaves.keys place key).1 at (subst Stays (sym is.same_owner) stays))) is

  -- what is selected stays
  pub deletion_selected : (live : Live) → IsUnselected before live related thing → KeepsSelected live before.entries.items after.entries.items
  deletion_selected live unselected = record {
    selected = λ number slot low at. still slot (λ goes. (unselected slot goes).0 (number, low, at));
    load = by live.load refl;
  }
    where
      still : (slot : ℕ) → Stays slot → KeepsAid before.entries.items after.entries.items slot
      still slot stays entry at = (entry, leaves.entries slot stays ∙ at, refl)

      by : (load : Option LoadName) → live.load ≡ load → IfSome load (λ name. KeepsAid before.entries.items after.entries.items name.domain)
      by None at = tt
      by (Some name) at =
          still name.domain (λ goes. (unselected name.domain goes).1 (subst (λ (load : Option LoadName). MatchOption load ⊥ (λ l. l.domain ≡ name.domain)) (sym at) refl))
