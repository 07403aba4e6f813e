-- What a CAP file is that can be packed: its header and its applet component (Java Card Virtual Machine Specification 3, 6.4 and 6.5).
use Rattle.std.specs.Prelude.{◌≡◌, ◌⊎◌, ℕ, ◌≤◌, List, [], ◌∷◌, ◌++◌, length}
use Rattle.card_types.specs.Aid.{IsAid}
use Rattle.tokens_receipts.specs.Receipt.{with_length}
use Rattle.cap_pack.specs.Components.{AreComponents, Component, Stands, count_of}
use Rattle.cap_pack.specs.declared.component.TheConstants.{APPLETS, HEADER}
use Rattle.cap_pack.specs.declared.limit.TheConstants.{CAP_LIMIT}

-- a header: DECAFFED, five bytes that are not read, the AID of the package after its length, and others that are not read
pub record IsHeader (file content : List ℕ) : Type 0 where
  pub unread : List ℕ
  pub rest : List ℕ
  pub five : length unread ≡ 5
  pub aid : IsAid file
  pub is : content ≡ 0xDE ∷ 0xCA ∷ 0xFF ∷ 0xED ∷ unread ++ with_length file ++ rest

-- the first component is a header
abbrev pub HasHeader : (file : List ℕ) → List Component → Type 0
HasHeader file [] = ⊥
HasHeader file (first ∷ others) = (first.tag ≡ HEADER) × IsHeader file first.content

-- there is at most one header and at most one applet component
pub record NoneRepeats (components : List Component) : Type 0 where
  pub header : count_of HEADER components ≤ 1
  pub applets : count_of APPLETS components ≤ 1

-- applets with these AIDs, and then others: of each the AID after its length, and two bytes that are not read
abbrev pub AreApplets : (aids : List (List ℕ)) (rest bytes : List ℕ) → Type 0
AreApplets [] rest bytes = bytes ≡ rest
AreApplets (aid ∷ aids) rest bytes =
    (unread : List ℕ) × (next : List ℕ) × IsAid aid × (length unread ≡ 2) × (bytes ≡ with_length aid ++ unread ++ next) × AreApplets aids rest next

-- a list of applets with these AIDs; what follows them is not read
abbrev pub ListsApplets : (aids : List (List ℕ)) → List ℕ → Type 0
ListsApplets aids bytes = (rest : List ℕ) × AreApplets aids rest bytes

-- the content of an applet component: how many applets there are, and their list
abbrev pub ListsCounted : (aids : List (List ℕ)) → List ℕ → Type 0
ListsCounted aids [] = ⊥
ListsCounted aids (count ∷ bytes) = (count ≡ length aids) × ListsApplets aids bytes

-- the applets of the applet component, or none where there is none
abbrev pub HasApplets : (aids : List (List ℕ)) → List Component → Type 0
HasApplets aids components =
    ((n : ℕ) × (component : Component) × Stands n component components × (component.tag ≡ APPLETS) × ListsCounted aids component.content)
    ⊎ ((count_of APPLETS components ≡ 0) × (aids ≡ []))

-- the bytes are no more than can be, and they are components of which something holds
abbrev pub AreWhole : (List Component → Type 0) → List ℕ → Type 0
AreWhole Holds bytes = (length bytes ≤ CAP_LIMIT) × ((components : List Component) × AreComponents components bytes × Holds components)

-- the bytes are a CAP file of a package with applets
abbrev pub CapOf : (bytes file : List ℕ) (aids : List (List ℕ)) → Type 0
CapOf bytes file aids = AreWhole (λ components. HasHeader file components × NoneRepeats components × HasApplets aids components) bytes
