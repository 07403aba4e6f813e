-- Lists of components, put together and taken apart.
use Rattle.std.proofs.Common.{◌≡◌, ◌⊎◌, ℕ, List, [], ◌∷◌, ◌++◌, length, refl, sym, ap, subst, ◌∙◌, arith, inl, inr, append_assoc}
use Rattle.std.specs.Int.{from_be_bytes, to_be_bytes, w16}
use Rattle.std.specs.List.{flat_map}
use Rattle.std.proofs.lemmas.List.{append-nil, length-append}
use Rattle.std.proofs.lemmas.List.Concat.{flat_map-append}
use Rattle.std.proofs.lemmas.List.Elements.{All-head, All-nil, All-push, All-tail}
use Rattle.std.proofs.lemmas.Nat.{from_be_bytes-to_be_bytes_2}
use Rattle.cap_pack.specs.Components.{AreComponents, BeginNone, BeginWith, Component, IsComponent, component_bytes}
use Rattle.cap_pack.proofs.Fronts.{same_fronts}

-- bytes begin with one component alone
pub same_component : (c d : Component) (x y : List ℕ) → IsComponent c → IsComponent d → component_bytes c ++ x ≡ component_bytes d ++ y → (c ≡ d) × (x ≡ y)
same_component c d x y ic id is =
    let tag : c.tag ≡ d.tag = cc in
    let sizes : to_be_bytes w16 (length c.content) ≡ to_be_bytes w16 (length d.content) = cc in
    let len : length c.content ≡ length d.content =
    sym (from_be_bytes-to_be_bytes_2 (length c.content) ic.size) ∙ ap (from_be_bytes w16) sizes ∙ from_be_bytes-to_be_bytes_2 (length d.content) id.size in
    let rest : c.content ++ x ≡ d.content ++ y = cc in
    let both = same_fronts c.content d.content x y len rest in
    (λ i. record { tag = tag i; content = both.0 i }, both.1)

-- bytes that begin with a component are not such as begin none
pub begins_one : (c : Component) (x : List ℕ) → IsComponent c → BeginNone (component_bytes c ++ x) → ⊥
begins_one c x ic (inl none) = ic.tag none
begins_one c x ic (inr cut) =
    let size = from_be_bytes-to_be_bytes_2 (length c.content) ic.size in
    omega (arith, size, cut, length-append c.content x)

-- bytes that are no components
abbrev pub IsOver : List ℕ → Type 0
IsOver bytes = (bytes ≡ []) ⊎ BeginNone bytes

over_none : (c : Component) (x bytes : List ℕ) → IsComponent c → bytes ≡ component_bytes c ++ x → IsOver bytes → ⊥
over_none c x bytes ic is (inl none) = let wrong : [] ≡ component_bytes c ++ x = sym none ∙ is in cc wrong
over_none c x bytes ic is (inr over) = begins_one c x ic (subst BeginNone is over)

tail_of : (c : Component) (cs : List Component) (x bytes : List ℕ) → BeginWith (c ∷ cs) x bytes → bytes ≡ component_bytes c ++ (flat_map component_bytes cs ++ x)
tail_of c cs x bytes b = b.is ∙ append_assoc (component_bytes c) (flat_map component_bytes cs) x

-- bytes are components in one way alone, up to those that are none
pub same_components : (a b : List Component) (x y bytes : List ℕ) → BeginWith a x bytes → BeginWith b y bytes → IsOver x → IsOver y → (a ≡ b) × (x ≡ y)
same_components [] [] x y bytes one other ox oy = (refl, sym one.is ∙ other.is)
same_components [] (d ∷ ds) x y bytes one other ox oy =
    absurd (over_none d (flat_map component_bytes ds ++ y) x (All-head IsComponent d ds other.each) (sym one.is ∙ tail_of d ds y bytes other) ox)
same_components (c ∷ cs) [] x y bytes one other ox oy =
    absurd (over_none c (flat_map component_bytes cs ++ x) y (All-head IsComponent c cs one.each) (sym other.is ∙ tail_of c cs x bytes one) oy)
same_components (c ∷ cs) (d ∷ ds) x y bytes one other ox oy =
    let first = same_component c d (flat_map component_bytes cs ++ x) (flat_map component_bytes ds ++ y) (All-head IsComponent c cs one.each) (All-head IsComponent d ds other.each)
    (sym (tail_of c cs x bytes one) ∙ tail_of d ds y bytes other) in
    let rest = same_components cs ds x y (flat_map component_bytes cs ++ x) (record { each = All-tail IsComponent c cs one.each; is = refl })
    (record { each = All-tail IsComponent d ds other.each; is = first.1 }) ox oy in
    (λ i. first.0 i ∷ rest.0 i, rest.1)

pub no_component : (bytes : List ℕ) → BeginWith [] bytes bytes
no_component bytes = record { each = All-nil IsComponent; is = refl }

-- one component more
pub more_component : (cs : List Component) (c : Component) (x y bytes : List ℕ) → BeginWith cs x bytes → IsComponent c → x ≡ component_bytes c ++ y → BeginWith (cs ++ c ∷ []) y bytes
more_component cs c x y bytes begun ic is = record {
  each = All-push IsComponent cs c begun.each ic;
  is = begun.is ∙ ap (λ (s : List ℕ). flat_map component_bytes cs ++ s) is
      ∙ sym (append_assoc (flat_map component_bytes cs) (component_bytes c) y)
      ∙ ap (λ (s : List ℕ). flat_map component_bytes cs ++ s ++ y) (sym (append-nil (component_bytes c)))
      ∙ ap (λ (s : List ℕ). s ++ y) (sym (flat_map-append component_bytes cs (c ∷ [])));
}

-- the first of the components that bytes are
pub first_is : (cs : List Component) (c : Component) (x bytes : List ℕ) → AreComponents cs bytes → IsComponent c → bytes ≡ component_bytes c ++ x
    → (others : List Component) × (cs ≡ c ∷ others)
first_is [] c x bytes are ic is = absurd (over_none c x bytes ic is (inl are.is))
first_is (d ∷ ds) c x bytes are ic is =
    let first = same_component d c (flat_map component_bytes ds ++ []) x (All-head IsComponent d ds are.each) ic (sym (tail_of d ds [] bytes are) ∙ is) in
    (ds, λ i. first.0 i ∷ ds)
