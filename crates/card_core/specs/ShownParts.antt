-- For the code inside. The part of a listing that was shown.
use Rattle.std.specs.Prelude.{◌≡◌, ℕ, List, [], ◌∷◌, ◌++◌, Option, None, Some}
use Rattle.policy_machine.specs.Admission.{Admitted}
use Rattle.policy_machine.specs.GetStatus.{AreTemplates, IsFullFor, IsListing, Thing, last_aid}

-- where things are left this is the last AID shown, and there is none where nothing is left
abbrev pub IsLastShown : Option (List ℕ) → List Thing → List Thing → Type 0
IsLastShown None shown [] = Unit {0}
IsLastShown None shown (next ∷ left) = ⊥
IsLastShown (Some last) shown [] = ⊥
IsLastShown (Some last) shown (next ∷ left) = last_aid [] shown ≡ last

-- the bytes are a part of the listing, with as many things as have room in it
pub record IsPart (admitted : Admitted) (bytes : List ℕ) (last : Option (List ℕ)) : Type 0 where
  pub shown : List Thing
  pub left : List Thing
  pub listing : IsListing admitted (shown ++ left)
  pub body : AreTemplates admitted.at.registry admitted.command.p1 shown bytes
  pub full : IsFullFor admitted.at.registry admitted.command.p1 left bytes
  pub ends : IsLastShown last shown left
