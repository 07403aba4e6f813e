-- The commands of deeds, as what asks for them is made.
use Rattle.std.proofs.Common.{◌≡◌, ◌≢◌, inl, inr, ℕ, ◌<◌, ◌≤◌, List, [], ◌∷◌, ◌++◌, length, Option, None, Some, refl, arith}
use Rattle.std.specs.Prelude.{All, IfSome, replicate}
use Rattle.std.specs.List.{flat_map}
use Rattle.std.proofs.Math.Dec.{lit<}
use Rattle.std.proofs.lemmas.List.{flat_map_more}
use Rattle.std.proofs.lemmas.List.Elements.{All-cons, All-nil}
use Rattle.bertlv.specs.Spelling.{Element, Spelling}
use Rattle.bertlv.specs.Tag.{TagGoesOn}
use Rattle.card_types.proofs.Members.{contains_first}
use Rattle.card_types.specs.Aid.{IsAid}
use Rattle.card_types.specs.Privileges.{ArePrivilegeBytes}
use Rattle.card_types.specs.declared.privileges.Privileges.{Privileges}
use Rattle.policy_machine.specs.DeleteObject.{AsksToDelete, DeletionAsked, IsTokenField}
use Rattle.policy_machine.specs.Extradition.{AsksToExtradite}
use Rattle.policy_machine.specs.InstallApplication.{AreInstallParameters, AsksToInstall}
use Rattle.policy_machine.specs.InstallFields.{AreLengthFields, InstallData}
use Rattle.policy_machine.specs.InstallLoad.{AsksToLoad, LoadData}
use Rattle.tokens_receipts.specs.Receipt.{with_length}
use Rattle.tokens_receipts.specs.Token.{object_named_by, token_element, token_field}

-- a token is 16 bytes long
abbrev pub HasTokenSize : Option (List ℕ) → Type 0
HasTokenSize given = IfSome given (λ token. length token ≡ 16)

short_token : (given : Option (List ℕ)) → HasTokenSize given → length (token_field given) ≤ 0x7F
short_token None size = omega arith
short_token (Some token) size = omega (arith, size)

-- a short value after its tag and its length
short_spelling : (tag : ℕ) (value : List ℕ) → tag < 256 → tag ≢ 0 → (TagGoesOn tag → ⊥) → length value < 0x80 → Spelling tag value (tag ∷ with_length value)
short_spelling tag value byte some ends short = record {
  tag_field = tag ∷ [];
  length_field = length value ∷ [];
  is_tag = (refl, byte, some, ends);
  is_length = (refl, short);
  joined = refl;
}

token_spelled : (given : Option (List ℕ)) → HasTokenSize given → IsTokenField (token_field given) (token_element given)
token_spelled None size = inl (refl, refl)
token_spelled (Some token) size = inr (short_spelling 0x9E token (lit< tt) (λ same. omega (arith, same)) (λ same. (let clash : 30 ≡ 31 = same in omega (arith, clash))) (omega (arith, size)))

-- what a DELETE of an object asks for
abbrev pub deletion_asked : (aid : List ℕ) → Option (List ℕ) → DeletionAsked
deletion_asked aid given = record { aid = aid; approval = record { before = object_named_by aid; token = token_field given } }

pub asks_to_delete : (aid : List ℕ) (given : Option (List ℕ)) → IsAid aid → HasTokenSize given
    → AsksToDelete (object_named_by aid ++ token_element given) (deletion_asked aid given)
asks_to_delete aid given is size = record {
  aid = is;
  named = short_spelling 0x4F aid (lit< tt) (λ same. omega (arith, same)) (λ same. (let clash : 15 ≡ 31 = same in omega (arith, clash))) (omega (arith, is));
  token_field = token_element given;
  approved = token_spelled given size;
  joined = refl;
}

-- fields, and one more, each after its length
abbrev Short : List ℕ → Type 0
Short field = length field ≤ 0x7F

fields_joined : (fields : List (List ℕ)) (last : List ℕ) → All Short (fields ++ last ∷ []) → AreLengthFields (fields ++ last ∷ []) (flat_map with_length fields ++ with_length last)
fields_joined fields last short = record { short = short; spelled = flat_map_more with_length [] fields last }

aid_short : (aid : List ℕ) → IsAid aid → Short aid
aid_short aid is = omega (arith, is.1)

none_short : Short []
none_short = omega arith

-- what an INSTALL [for extradition] asks for
abbrev pub move_asked : (to aid : List ℕ) → Option (List ℕ) → InstallData
move_asked to aid given = record { first = to; second = []; third = aid; privileges = []; parameters = []; token = token_field given }

pub asks_to_move : (to aid : List ℕ) (given : Option (List ℕ)) → IsAid to → IsAid aid → HasTokenSize given
    → AsksToExtradite (flat_map with_length (to ∷ [] ∷ aid ∷ [] ∷ [] ∷ []) ++ with_length (token_field given)) (move_asked to aid given)
asks_to_move to aid given domain is size = record {
  fields = fields_joined (to ∷ [] ∷ aid ∷ [] ∷ [] ∷ []) (token_field given)
      (All-cons Short to ([] ∷ aid ∷ [] ∷ [] ∷ token_field given ∷ []) (aid_short to domain)
      (All-cons Short [] (aid ∷ [] ∷ [] ∷ token_field given ∷ []) none_short
      (All-cons Short aid ([] ∷ [] ∷ token_field given ∷ []) (aid_short aid is)
      (All-cons Short [] ([] ∷ token_field given ∷ []) none_short
      (All-cons Short [] (token_field given ∷ []) none_short
      (All-cons Short (token_field given) [] (short_token given size) (All-nil Short)))))));
  domain = domain;
  no_module = refl;
  aid = is;
  no_privileges = refl;
}

-- the parameters C9 00
parameters_asked : AreInstallParameters (0xC9 ∷ 0x00 ∷ [])
parameters_asked =
    let element : Element = record { tag = 0xC9; value = [] } in (
      element ∷ [],
      (0xC9 ∷ 0x00 ∷ [], [], short_spelling 0xC9 [] (lit< tt) (λ same. omega (arith, same)) (λ same. (let clash : 9 ≡ 31 = same in omega (arith, clash))) (omega arith), refl, refl),
      element,
      contains_first element [],
      refl,
    )

-- what an INSTALL [for install and make selectable] asks for
module _ (file module_ aid privileges : List ℕ) (given : Option (List ℕ)) where
  abbrev pub install_given : InstallData
  install_given = record {
    first = file;
    second = module_;
    third = aid;
    privileges = privileges;
    parameters = 0xC9 ∷ 0x00 ∷ [];
    token = token_field given;
  }

  pub asks_to_install : (granted : Privileges) → IsAid file → IsAid module_ → IsAid aid → length privileges ≤ 0x7F → ArePrivilegeBytes granted privileges → HasTokenSize given
      → AsksToInstall (flat_map with_length (file ∷ module_ ∷ aid ∷ privileges ∷ (0xC9 ∷ 0x00 ∷ []) ∷ []) ++ with_length (token_field given))
      (record { given = install_given; privileges = granted })
  asks_to_install granted from of is few named size = record {
    fields = fields_joined (file ∷ module_ ∷ aid ∷ privileges ∷ (0xC9 ∷ 0x00 ∷ []) ∷ []) (token_field given)
        (All-cons Short file (module_ ∷ aid ∷ privileges ∷ (0xC9 ∷ 0x00 ∷ []) ∷ token_field given ∷ []) (aid_short file from)
        (All-cons Short module_ (aid ∷ privileges ∷ (0xC9 ∷ 0x00 ∷ []) ∷ token_field given ∷ []) (aid_short module_ of)
        (All-cons Short aid (privileges ∷ (0xC9 ∷ 0x00 ∷ []) ∷ token_field given ∷ []) (aid_short aid is)
        (All-cons Short privileges ((0xC9 ∷ 0x00 ∷ []) ∷ token_field given ∷ []) few
        (All-cons Short (0xC9 ∷ 0x00 ∷ []) (token_field given ∷ []) (omega arith)
        (All-cons Short (token_field given) [] (short_token given size) (All-nil Short)))))));
    file = from;
    module_ = of;
    aid = is;
    privileges = named;
    parameters = parameters_asked;
  }

-- what an INSTALL [for load] asks for
abbrev pub load_asked : (file : List ℕ) → Option (List ℕ) → LoadData
load_asked file given = record { file = file; domain = []; hash = replicate 32 0; parameters = []; token = token_field given }

pub asks_to_load : (file : List ℕ) (given : Option (List ℕ)) → IsAid file → HasTokenSize given
    → AsksToLoad (flat_map with_length (file ∷ [] ∷ replicate 32 0 ∷ [] ∷ []) ++ with_length (token_field given)) (load_asked file given)
asks_to_load file given is size = record {
  fields = fields_joined (file ∷ [] ∷ replicate 32 0 ∷ [] ∷ []) (token_field given)
      (All-cons Short file ([] ∷ replicate 32 0 ∷ [] ∷ token_field given ∷ []) (aid_short file is)
      (All-cons Short [] (replicate 32 0 ∷ [] ∷ token_field given ∷ []) none_short
      (All-cons Short (replicate 32 0) ([] ∷ token_field given ∷ []) (omega arith)
      (All-cons Short [] (token_field given ∷ []) none_short
      (All-cons Short (token_field given) [] (short_token given size) (All-nil Short))))));
  file = is;
  domain = inl refl;
}
