-- What has the AID of an Executable Load File is no entry.
use Rattle.std.proofs.Common.{◌≡◌, ℕ, List, None, Some, subst}
use Rattle.std.proofs.lemmas.List.Elements.{All-contains}
use Rattle.card_types.proofs.LeastOfList.{found_fits}
use Rattle.card_types.proofs.SameAid.{same_aid_decides}
use Rattle.policy_machine.specs.Prelude.{IsWellFile, Well, entry_named, file_named, same_aid}
use Rattle.card_types.specs.Registry as registry

-- what is an Executable Load File is no entry
pub file_apart : (said : registry.Registry) → Well said → (aid : List ℕ) (file : registry.LoadFile) → file_named said aid ≡ Some file → entry_named said aid ≡ None
file_apart said well aid file named =
    let found = found_fits (λ (f : registry.LoadFile). same_aid f.aid aid) said.files file named in
    subst (λ (a : List ℕ). entry_named said a ≡ None) ((same_aid_decides file.aid aid).0 found.1)
    (All-contains (IsWellFile said) said.files file well.files found.0).apart
