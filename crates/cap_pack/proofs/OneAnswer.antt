-- Bytes are one CAP file or have one stop.
use Rattle.std.proofs.Common.{◌≡◌, ◌≤◌, ◌+◌, ◌⊎◌, ℕ, List, [], ◌∷◌, ◌++◌, length, Result, Ok, Err, refl, sym, ap, subst, ◌∙◌, arith, inl, inr, append_assoc}
use Rattle.std.specs.Prelude.{IfErr, IfOk, IsOkAnd, ◌↔◌}
use Rattle.std.proofs.lemmas.List.{append-nil, append_cancel_left, length-append}
use Rattle.std.proofs.lemmas.List.Sums.{sum_by-append, sum_by-cons}
use Rattle.tokens_receipts.specs.Receipt.{with_length}
use Rattle.cap_pack.specs.Cap.{AreWhole, CapOf, HasApplets, HasHeader, IsHeader, ListsApplets, ListsCounted, NoneRepeats}
use Rattle.cap_pack.specs.Components.{AreComponents, BeginNone, Component, Stands, components_size, count_of}
use Rattle.cap_pack.specs.Held.{IsCap}
use Rattle.cap_pack.specs.Stops.{BreakAt, HasSomeHeader, ListsNoneAt, RepeatsAt, StopsPacking}
use Rattle.cap_pack.specs.declared.cap.Cap.{Cap}
use Rattle.cap_pack.specs.declared.component.TheConstants.{APPLETS, HEADER}
use Rattle.cap_pack.specs.declared.stop.CapStop.{CapStop}
use Rattle.cap_pack.specs.declared.stop.CapStop.TheVariants.{Large, Component as Broken, Header, Twice, Applets}
use Rattle.cap_pack.proofs.AppletLists.{rest_lists}
use Rattle.cap_pack.proofs.ComponentLists.{same_components}
use Rattle.cap_pack.proofs.Fronts.{same_fields, same_fronts}
use Rattle.cap_pack.proofs.Headers.{magic}
use Rattle.cap_pack.proofs.OutlineRules.{counted, one_if}

-- ---- components

one_list : (bytes : List ℕ) (cs ds : List Component) → AreComponents cs bytes → AreComponents ds bytes → cs ≡ ds
one_list bytes cs ds are other = (same_components cs ds [] [] bytes are other (inl refl) (inl refl)).0

one_break : (bytes : List ℕ) (n m : ℕ) → BreakAt n bytes → BreakAt m bytes → n ≡ m
one_break bytes n m (cs, x, begun, none, at) (ds, y, other, over, there) =
    at ∙ ap components_size (same_components cs ds x y bytes begun other (inr none) (inr over)).0 ∙ sym there

no_break : (bytes : List ℕ) (n : ℕ) (cs : List Component) → BreakAt n bytes → AreComponents cs bytes → ⊥
no_break bytes n cs (ds, x, begun, none, at) are = subst BeginNone (same_components ds cs x [] bytes begun are (inr none) (inl refl)).1 none

both_such : (P Q : List Component → Type 0) (bytes : List ℕ) → AreWhole P bytes → AreWhole Q bytes → (cs : List Component) × P cs × Q cs
both_such P Q bytes (short, (cs, are, holds)) (also, (ds, other, too)) = (cs, holds, subst Q (one_list bytes ds cs other are) too)

-- ---- the header

one_name : (f g content : List ℕ) → IsHeader f content → IsHeader g content → f ≡ g
one_name f g content a b =
    let joined : magic ++ (a.unread ++ with_length f ++ a.rest) ≡ magic ++ (b.unread ++ with_length g ++ b.rest) = sym a.is ∙ b.is in
    let tail : a.unread ++ (with_length f ++ a.rest) ≡ b.unread ++ (with_length g ++ b.rest) =
    sym (append_assoc a.unread (with_length f) a.rest) ∙ append_cancel_left magic (a.unread ++ with_length f ++ a.rest) (b.unread ++ with_length g ++ b.rest) joined
    ∙ append_assoc b.unread (with_length g) b.rest in
    (same_fields f g a.rest b.rest (same_fronts a.unread b.unread (with_length f ++ a.rest) (with_length g ++ b.rest) (a.five ∙ sym b.five) tail).1).0

one_header : (f g : List ℕ) (cs : List Component) → HasHeader f cs → HasHeader g cs → f ≡ g
one_header f g [] a b = absurd a
one_header f g (c ∷ cs) a b = one_name f g c.content a.1 b.1

-- ---- components that stand somewhere

-- two places in a list are one, or one of them comes first
meet : {A : Type 0} (xs ys u v : List A) (x y : A) → xs ++ x ∷ u ≡ ys ++ y ∷ v
    → ((xs ≡ ys) × (x ≡ y)) ⊎ (((mid : List A) × (ys ≡ xs ++ x ∷ mid)) ⊎ ((mid : List A) × (xs ≡ ys ++ y ∷ mid)))
meet [] [] u v x y is = inl (refl, cc)
meet [] (b ∷ ys) u v x y is = let same : b ≡ x = cc in inr (inl (ys, λ i. same i ∷ ys))
meet (a ∷ xs) [] u v x y is = let same : a ≡ y = cc in inr (inr (xs, λ i. same i ∷ xs))
meet (a ∷ xs) (b ∷ ys) u v x y is =
    let head : a ≡ b = cc in
    let tail : xs ++ x ∷ u ≡ ys ++ y ∷ v = cc in
    elim (meet xs ys u v x y tail) [
      | inl same ↦ inl (λ i. head i ∷ same.0 i, same.1)
      | inr (inl first) ↦ inr (inl (first.0, λ i. sym head i ∷ first.1 i))
      | inr (inr second) ↦ inr (inr (second.0, λ i. head i ∷ second.1 i))
    ]

count_parts : (tag : ℕ) (xs : List Component) (c : Component) (ys : List Component) → count_of tag (xs ++ c ∷ ys) ≡ count_of tag xs + (one_if tag c + count_of tag ys)
count_parts tag xs c ys = sum_by-append (one_if tag) xs (c ∷ ys) ∙ ap (λ (n : ℕ). count_of tag xs + n) (sum_by-cons (one_if tag) c ys)

none_front : (xs : List Component) (c : Component) (ys : List Component) → NoneRepeats (xs ++ c ∷ ys) → NoneRepeats (xs ++ c ∷ [])
none_front xs c ys none = record {
  header = omega (arith, none.header, count_parts HEADER xs c ys, count_parts HEADER xs c []);
  applets = omega (arith, none.applets, count_parts APPLETS xs c ys, count_parts APPLETS xs c []);
}

no_repeat : (n : ℕ) (cs : List Component) → RepeatsAt n cs → NoneRepeats cs → ⊥
no_repeat n cs (c, stands, before, again) none = again (none_front stands.before c stands.after (subst NoneRepeats stands.is none))

one_repeat : (n m : ℕ) (cs : List Component) → RepeatsAt n cs → RepeatsAt m cs → n ≡ m
one_repeat n m cs (c, a, before, again) (d, b, front, more) = elim (meet a.before b.before a.after b.after c d (sym a.is ∙ b.is)) [
  | inl same ↦ a.place ∙ ap components_size same.0 ∙ sym b.place
  | inr (inl first) ↦ absurd (again (none_front a.before c first.0 (subst NoneRepeats first.1 front)))
  | inr (inr second) ↦ absurd (more (none_front b.before d second.0 (subst NoneRepeats second.1 before)))
]

-- where a list has two components of a tag, it has two of them
two_stand : (tag n m : ℕ) (c d : Component) (cs : List Component) (a : Stands n c cs) (b : Stands m d cs) (mid : List Component) → b.before ≡ a.before ++ c ∷ mid
    → c.tag ≡ tag → d.tag ≡ tag → 2 ≤ count_of tag cs
two_stand tag n m c d cs a b mid is ct dt =
    let front : 1 ≤ count_of tag b.before = counted tag n c b.before (record { before = a.before; after = mid; is = is; place = a.place }) ct in
    let back : 1 ≤ count_of tag (d ∷ b.after) = counted tag 0 d (d ∷ b.after) (record { before = []; after = b.after; is = refl; place = refl }) dt in
    omega (arith, front, back, ap (count_of tag) b.is, sum_by-append (one_if tag) b.before (d ∷ b.after))

one_stands : (n m : ℕ) (c d : Component) (cs : List Component) → NoneRepeats cs → Stands n c cs → Stands m d cs → c.tag ≡ APPLETS → d.tag ≡ APPLETS → (n ≡ m) × (c ≡ d)
one_stands n m c d cs none a b ct dt = elim (meet a.before b.before a.after b.after c d (sym a.is ∙ b.is)) [
  | inl same ↦ (a.place ∙ ap components_size same.0 ∙ sym b.place, same.1)
  | inr (inl first) ↦ absurd (omega (arith, none.applets, two_stand APPLETS n m c d cs a b first.0 first.1 ct dt))
  | inr (inr second) ↦ absurd (omega (arith, none.applets, two_stand APPLETS m n d c cs b a second.0 second.1 dt ct))
]

-- ---- applets

nothing : {A : Type 0} (xs : List A) → length xs ≡ 0 → xs ≡ []
nothing [] none = refl
nothing (x ∷ xs) none = absurd (omega (arith, none))

one_names : (ms ns : List (List ℕ)) (bytes : List ℕ) → length ms ≡ length ns → ListsApplets ms bytes → ListsApplets ns bytes → ms ≡ ns
one_names ms ns bytes len (rest, are) other =
    let left = rest_lists ms ns rest bytes are other (omega (arith, len)) in
    let none : left.0 ≡ [] = nothing left.0 (omega (arith, len, ap length left.1, length-append ms left.0)) in
    sym (append-nil ms) ∙ ap (λ (l : List (List ℕ)). ms ++ l) (sym none) ∙ sym left.1

one_counted : (ms ns : List (List ℕ)) (content : List ℕ) → ListsCounted ms content → ListsCounted ns content → ms ≡ ns
one_counted ms ns [] a b = absurd a
one_counted ms ns (count ∷ bytes) a b = one_names ms ns bytes (sym a.0 ∙ b.0) a.1 b.1

one_applets : (ms ns : List (List ℕ)) (cs : List Component) → NoneRepeats cs → HasApplets ms cs → HasApplets ns cs → ms ≡ ns
one_applets ms ns cs none (inl (n, c, a, ct, is)) (inl (m, d, b, dt, other)) =
    let same = one_stands n m c d cs none a b ct dt in
    one_counted ms ns c.content is (subst (λ (e : Component). ListsCounted ns e.content) (sym same.1) other)
one_applets ms ns cs none (inl (n, c, a, ct, is)) (inr (zero, nil)) = absurd (omega (arith, zero, counted APPLETS n c cs a ct))
one_applets ms ns cs none (inr (zero, nil)) (inl (m, d, b, dt, other)) = absurd (omega (arith, zero, counted APPLETS m d cs b dt))
one_applets ms ns cs none (inr (zero, nil)) (inr (too, also)) = nil ∙ sym also

no_lack : (n : ℕ) (ms : List (List ℕ)) (cs : List Component) → NoneRepeats cs → ListsNoneAt n cs → HasApplets ms cs → ⊥
no_lack n ms cs none (c, a, ct, lacks) (inl (m, d, b, dt, is)) =
    let same = one_stands n m c d cs none a b ct dt in
    lacks ms (subst (λ (e : Component). ListsCounted ms e.content) (sym same.1) is)
no_lack n ms cs none (c, a, ct, lacks) (inr (zero, nil)) = omega (arith, zero, counted APPLETS n c cs a ct)

one_lack : (n m : ℕ) (cs : List Component) → NoneRepeats cs → ListsNoneAt n cs → ListsNoneAt m cs → n ≡ m
one_lack n m cs none (c, a, ct, lacks) (d, b, dt, other) = (one_stands n m c d cs none a b ct dt).0

-- ---- stops

-- bytes have one stop
pub one_stop : (bytes : List ℕ) (a b : CapStop) → StopsPacking bytes a → StopsPacking bytes b → a ≡ b
one_stop bytes Large Large large other = refl
one_stop bytes Large (Broken n) large stops = absurd (omega (arith, large, stops.0))
one_stop bytes Large Header large stops = absurd (omega (arith, large, stops.0))
one_stop bytes Large (Twice n) large stops = absurd (omega (arith, large, stops.0))
one_stop bytes Large (Applets n) large stops = absurd (omega (arith, large, stops.0))
one_stop bytes (Broken n) Large stops large = absurd (omega (arith, large, stops.0))
one_stop bytes (Broken n) (Broken m) stops other = ap (λ (k : ℕ). Broken k) (one_break bytes n m stops.1 other.1)
one_stop bytes (Broken n) Header stops other = absurd (no_break bytes n other.1.0 stops.1 other.1.1)
one_stop bytes (Broken n) (Twice m) stops other = absurd (no_break bytes n other.1.0 stops.1 other.1.1)
one_stop bytes (Broken n) (Applets m) stops other = absurd (no_break bytes n other.1.0 stops.1 other.1.1)
one_stop bytes Header Large stops large = absurd (omega (arith, large, stops.0))
one_stop bytes Header (Broken m) stops other = absurd (no_break bytes m stops.1.0 other.1 stops.1.1)
one_stop bytes Header Header stops other = refl
one_stop bytes Header (Twice m) stops other =
    let both = both_such (λ cs. HasSomeHeader cs → ⊥) (λ cs. HasSomeHeader cs × RepeatsAt m cs) bytes stops other in
    absurd (both.1 both.2.0)
one_stop bytes Header (Applets m) stops other =
    let both = both_such (λ cs. HasSomeHeader cs → ⊥) (λ cs. HasSomeHeader cs × NoneRepeats cs × ListsNoneAt m cs) bytes stops other in
    absurd (both.1 both.2.0)
one_stop bytes (Twice n) Large stops large = absurd (omega (arith, large, stops.0))
one_stop bytes (Twice n) (Broken m) stops other = absurd (no_break bytes m stops.1.0 other.1 stops.1.1)
one_stop bytes (Twice n) Header stops other =
    let both = both_such (λ cs. HasSomeHeader cs × RepeatsAt n cs) (λ cs. HasSomeHeader cs → ⊥) bytes stops other in
    absurd (both.2 both.1.0)
one_stop bytes (Twice n) (Twice m) stops other =
    let both = both_such (λ cs. HasSomeHeader cs × RepeatsAt n cs) (λ cs. HasSomeHeader cs × RepeatsAt m cs) bytes stops other in
    ap (λ (k : ℕ). Twice k) (one_repeat n m both.0 both.1.1 both.2.1)
one_stop bytes (Twice n) (Applets m) stops other =
    let both = both_such (λ cs. HasSomeHeader cs × RepeatsAt n cs) (λ cs. HasSomeHeader cs × NoneRepeats cs × ListsNoneAt m cs) bytes stops other in
    absurd (no_repeat n both.0 both.1.1 both.2.1)
one_stop bytes (Applets n) Large stops large = absurd (omega (arith, large, stops.0))
one_stop bytes (Applets n) (Broken m) stops other = absurd (no_break bytes m stops.1.0 other.1 stops.1.1)
one_stop bytes (Applets n) Header stops other =
    let both = both_such (λ cs. HasSomeHeader cs × NoneRepeats cs × ListsNoneAt n cs) (λ cs. HasSomeHeader cs → ⊥) bytes stops other in
    absurd (both.2 both.1.0)
one_stop bytes (Applets n) (Twice m) stops other =
    let both = both_such (λ cs. HasSomeHeader cs × NoneRepeats cs × ListsNoneAt n cs) (λ cs. HasSomeHeader cs × RepeatsAt m cs) bytes stops other in
    absurd (no_repeat m both.0 both.2.1 both.1.1)
one_stop bytes (Applets n) (Applets m) stops other =
    let both = both_such (λ cs. HasSomeHeader cs × NoneRepeats cs × ListsNoneAt n cs) (λ cs. HasSomeHeader cs × NoneRepeats cs × ListsNoneAt m cs) bytes stops other in
    ap (λ (k : ℕ). Applets k) (one_lack n m both.0 both.1.1 both.1.2 both.2.2)

-- a CAP file has no stop
no_stop : (bytes file : List ℕ) (aids : List (List ℕ)) (stop : CapStop) → CapOf bytes file aids → StopsPacking bytes stop → ⊥
no_stop bytes file aids Large cap stops = omega (arith, cap.0, stops)
no_stop bytes file aids (Broken n) cap stops = no_break bytes n cap.1.0 stops.1 cap.1.1
no_stop bytes file aids Header cap stops =
    let both = both_such (λ cs. HasHeader file cs × NoneRepeats cs × HasApplets aids cs) (λ cs. HasSomeHeader cs → ⊥) bytes cap stops in
    both.2 (file, both.1.0)
no_stop bytes file aids (Twice n) cap stops =
    let both = both_such (λ cs. HasHeader file cs × NoneRepeats cs × HasApplets aids cs) (λ cs. HasSomeHeader cs × RepeatsAt n cs) bytes cap stops in
    no_repeat n both.0 both.2.1 both.1.1
no_stop bytes file aids (Applets n) cap stops =
    let both = both_such (λ cs. HasHeader file cs × NoneRepeats cs × HasApplets aids cs) (λ cs. HasSomeHeader cs × NoneRepeats cs × ListsNoneAt n cs) bytes cap stops in
    no_lack n aids both.0 both.1.1 both.2.2 both.1.2

-- bytes are one CAP file
pub one_cap : (bytes f g : List ℕ) (ms ns : List (List ℕ)) → CapOf bytes f ms → CapOf bytes g ns → (f ≡ g) × (ms ≡ ns)
one_cap bytes f g ms ns cap other =
    let both = both_such (λ cs. HasHeader f cs × NoneRepeats cs × HasApplets ms cs) (λ cs. HasHeader g cs × NoneRepeats cs × HasApplets ns cs) bytes cap other in
    (one_header f g both.0 both.1.0 both.2.0, one_applets ms ns both.0 both.1.1 both.1.2 both.2.2)

-- ---- answers

pub only_answer : (bytes : List ℕ) (answer : Result Cap CapStop) → IfOk answer (λ cap. cap.bytes.now ≡ bytes)
    → IfOk answer (λ cap. (aids : List (List ℕ)) × IsCap cap aids) → IfErr answer (StopsPacking bytes)
    → (file : List ℕ) (aids : List (List ℕ)) → CapOf bytes file aids → IsOkAnd answer (λ cap. (cap.package ≡ file) × IsCap cap aids)
only_answer bytes (Ok cap) same found stops file aids is =
    let one = one_cap bytes cap.package file found.0 aids (subst (λ (b : List ℕ). CapOf b cap.package found.0) same found.1.is) is in
    (one.0, subst (IsCap cap) one.1 found.1)
only_answer bytes (Err stop) same found stops file aids is = no_stop bytes file aids stop is stops

pub only_stop : (bytes : List ℕ) (answer : Result Cap CapStop) → IfOk answer (λ cap. cap.bytes.now ≡ bytes)
    → IfOk answer (λ cap. (aids : List (List ℕ)) × IsCap cap aids) → IfErr answer (StopsPacking bytes)
    → (stop : CapStop) → (answer ≡ Err stop) ↔ StopsPacking bytes stop
only_stop bytes (Ok cap) same found stops stop = (
  λ wrong. absurd (cc wrong),
  λ other. absurd (no_stop bytes cap.package found.0 stop (subst (λ (b : List ℕ). CapOf b cap.package found.0) same found.1.is) other),
)
only_stop bytes (Err one) same found stops stop = (
  λ is. (let same : one ≡ stop = cc is in subst (StopsPacking bytes) same stops),
  λ other. ap (λ (s : CapStop). Err s) (one_stop bytes one stop stops other),
)
