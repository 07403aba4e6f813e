-- What a walk through components has met, one component further.
use Rattle.std.proofs.Common.{◌≡◌, ◌≢◌, ◌≤◌, ◌+◌, ◌-◌, ◌⊎◌, ℕ, List, length, [], ◌∷◌, ◌++◌, Bool, true, false, cond, eqb, eq-eqb, Option, None, Some, MatchOption, refl, sym, ap, subst, ◌∙◌, arith, inl, inr, append_assoc}
use Rattle.std.specs.Prelude.{is_some}
use Rattle.std.specs.Option.{option_or}
use Rattle.std.proofs.lemmas.Bool.{cases_eq, cases_lt, ne_eqb}
use Rattle.std.specs.List.{flat_map}
use Rattle.std.proofs.lemmas.List.{length-append}
use Rattle.std.proofs.lemmas.List.Sums.{sum_by-append, sum_by-cons}
use Rattle.cap_pack.specs.Cap.{NoneRepeats}
use Rattle.cap_pack.specs.Components.{BeginWith, Component, IsComponent, Stands, component_bytes, components_size, count_of}
use Rattle.cap_pack.specs.Outlines.{Outlines, applet_component, repeats}
use Rattle.cap_pack.specs.Stops.{RepeatsAt}
use Rattle.cap_pack.proofs.ComponentLists.{more_component}
use Rattle.cap_pack.specs.declared.component.TheConstants.{APPLETS, HEADER}
use Rattle.cap_pack.specs.declared.outline.AppletComponent.{AppletComponent}
use Rattle.cap_pack.specs.declared.outline.Outline.{Outline}

-- 1 where the component has the tag
abbrev pub one_if : ℕ → Component → ℕ
one_if tag c = cond (eqb c.tag tag) 1 0

-- how many components have a tag, with one more
count_yes : (tag : ℕ) (cs : List Component) (c : Component) → c.tag ≡ tag → count_of tag (cs ++ c ∷ []) ≡ count_of tag cs + 1
count_yes tag cs c is = sum_by-append (one_if tag) cs (c ∷ []) ∙ ap (λ (b : Bool). count_of tag cs + (0 + cond b 1 0)) (eq-eqb c.tag tag is)

count_no : (tag : ℕ) (cs : List Component) (c : Component) → c.tag ≢ tag → count_of tag (cs ++ c ∷ []) ≡ count_of tag cs
count_no tag cs c not = sum_by-append (one_if tag) cs (c ∷ []) ∙ ap (λ (b : Bool). count_of tag cs + (0 + cond b 1 0)) (ne_eqb c.tag tag not) ∙ omega arith

count_more : (tag : ℕ) (cs : List Component) (c : Component) → count_of tag cs ≤ count_of tag (cs ++ c ∷ [])
count_more tag cs c = elim (cases_eq c.tag tag) [
  | inl is ↦ omega (arith, count_yes tag cs c is)
  | inr not ↦ omega (arith, count_no tag cs c not)
]

-- a component that stands there counts
pub counted : (tag n : ℕ) (c : Component) (cs : List Component) → Stands n c cs → c.tag ≡ tag → 1 ≤ count_of tag cs
counted tag n c cs stands is =
    let all : count_of tag cs ≡ count_of tag stands.before + count_of tag (c ∷ stands.after) =
    ap (count_of tag) stands.is ∙ sum_by-append (one_if tag) stands.before (c ∷ stands.after) in
    let here : count_of tag (c ∷ stands.after) ≡ 1 + count_of tag stands.after =
    sum_by-cons (one_if tag) c stands.after ∙ ap (λ (b : Bool). cond b 1 0 + count_of tag stands.after) (eq-eqb c.tag tag is) in
    omega (arith, all, here)

-- it stands there before a further one too, and so does the last one
abbrev stands_on : (n : ℕ) (c : Component) (cs : List Component) (d : Component) → Stands n c cs → Stands n c (cs ++ d ∷ [])
stands_on n c cs d stands = record {
  before = stands.before;
  after = stands.after ++ d ∷ [];
  is = ap (λ (l : List Component). l ++ d ∷ []) stands.is ∙ append_assoc stands.before (c ∷ stands.after) (d ∷ []);
  place = stands.place;
}

abbrev stands_last : (n : ℕ) (c : Component) (cs : List Component) → n ≡ components_size cs → Stands n c (cs ++ c ∷ [])
stands_last n c cs place = record { before = cs; after = []; is = refl; place = place }

repeats_on : (n : ℕ) (cs : List Component) (d : Component) → RepeatsAt n cs → RepeatsAt n (cs ++ d ∷ [])
repeats_on n cs d (c, stands, none, one) = (c, stands_on n c cs d stands, none, one)

abbrev AppletsIn : List Component → Option AppletComponent → Type 0
AppletsIn cs o = MatchOption o (count_of APPLETS cs ≡ 0) (λ held. Stands held.place (applet_component held) cs)

abbrev TwiceIn : List Component → Option ℕ → Type 0
TwiceIn cs o = MatchOption o (NoneRepeats cs) (λ place. RepeatsAt place cs)

applets_on : (cs : List Component) (c : Component) (o : Option AppletComponent) → AppletsIn cs o → (c.tag ≡ APPLETS → is_some o ≡ true) → AppletsIn (cs ++ c ∷ []) o
applets_on cs c None none some = count_no APPLETS cs c (λ is. (let wrong : false ≡ true = some is in cc wrong)) ∙ none
applets_on cs c (Some held) stands some = stands_on held.place (applet_component held) cs c stands

-- the applet component counts where it is held
applets_counted : (cs : List Component) (o : Option AppletComponent) → AppletsIn cs o → is_some o ≡ true → 1 ≤ count_of APPLETS cs
applets_counted cs None none some = let wrong : false ≡ true = some in cc wrong
applets_counted cs (Some held) stands some = counted APPLETS held.place (applet_component held) cs stands refl

applets_none : (cs : List Component) (o : Option AppletComponent) → AppletsIn cs o → is_some o ≡ false → count_of APPLETS cs ≡ 0
applets_none cs None none some = none
applets_none cs (Some held) stands some = let wrong : true ≡ false = some in cc wrong

-- where a tag repeats, it is one of the two
two_tags : (o : Outline) (tag : ℕ) → repeats o tag ≡ true → ((tag ≡ HEADER) × (o.header ≡ true)) ⊎ ((tag ≡ APPLETS) × (is_some o.applets ≡ true))
two_tags o tag told = elim (cases_eq tag HEADER) [
  | inl is ↦ inl (is, ap (repeats o) (sym is) ∙ told)
  | inr not ↦ elim (cases_eq tag APPLETS) [
    | inl is ↦ inr (is, ap (repeats o) (sym is) ∙ told)
    | inr other ↦
        let wrong : false ≡ true =
        sym (ap (λ (b : Bool). cond b o.header (cond (eqb tag APPLETS) (is_some o.applets) false)) (ne_eqb tag HEADER not)
        ∙ ap (λ (b : Bool). cond b (is_some o.applets) false) (ne_eqb tag APPLETS other)) ∙ told in
        cc wrong
  ]
]

not_both : (a b : ℕ) → a ≢ b → (tag : ℕ) → tag ≡ a → tag ≢ b
not_both a b apart tag is = λ other. apart (sym is ∙ other)

repeated : (cs : List Component) (c : Component) (o : Outline) → Outlines cs o → repeats o c.tag ≡ true → NoneRepeats (cs ++ c ∷ []) → ⊥
repeated cs c o outlines told none = elim (two_tags o c.tag told) [
  | inl (is, header) ↦
      let some : 1 ≤ count_of HEADER cs = outlines.header.0 header in
      omega (arith, some, none.header, count_yes HEADER cs c is)
  | inr (is, applets) ↦
      let some : 1 ≤ count_of APPLETS cs = applets_counted cs o.applets outlines.applets applets in
      omega (arith, some, none.applets, count_yes APPLETS cs c is)
]

twice_or : (cs : List Component) (c : Component) (o : Option ℕ) (place : ℕ) → TwiceIn cs o → (NoneRepeats (cs ++ c ∷ []) → ⊥) → place ≡ components_size cs
    → TwiceIn (cs ++ c ∷ []) (option_or o (Some place))
twice_or cs c None place none again at = (c, stands_last place c cs at, none, again)
twice_or cs c (Some n) place twice again at = repeats_on n cs c twice

-- a component that repeats one
pub repeats_one : (cs : List Component) (c : Component) (o : Outline) (place : ℕ) → Outlines cs o → repeats o c.tag ≡ true → place ≡ components_size cs
    → Outlines (cs ++ c ∷ []) (record { header = o.header; applets = o.applets; twice = option_or o.twice (Some place) })
repeats_one cs c o place outlines told at = record {
  header = (
    λ header. (let some : 1 ≤ count_of HEADER cs = outlines.header.0 header in omega (arith, some, count_more HEADER cs c)),
    λ some. elim (cases_eq c.tag HEADER) [
      | inl is ↦ ap (repeats o) (sym is) ∙ told
      | inr not ↦ outlines.header.1 (omega (arith, some, count_no HEADER cs c not))
    ],
  );
  applets = applets_on cs c o.applets outlines.applets (λ is. ap (repeats o) (sym is) ∙ told);
  twice = twice_or cs c o.twice place outlines.twice (repeated cs c o outlines told) at;
}

twice_on : (cs : List Component) (c : Component) (o : Option ℕ) → TwiceIn cs o → (NoneRepeats cs → NoneRepeats (cs ++ c ∷ [])) → TwiceIn (cs ++ c ∷ []) o
twice_on cs c None none more = more none
twice_on cs c (Some n) twice more = repeats_on n cs c twice

-- the first header
pub header_one : (cs : List Component) (c : Component) (o : Outline) → Outlines cs o → repeats o c.tag ≡ false → c.tag ≡ HEADER
    → Outlines (cs ++ c ∷ []) (record { header = true; applets = o.applets; twice = o.twice })
header_one cs c o outlines told is =
    let other : c.tag ≢ APPLETS = not_both HEADER APPLETS (λ wrong. omega (arith, wrong)) c.tag is in
    let absent : o.header ≡ false = ap (repeats o) (sym is) ∙ told in record {
      header = (λ _. omega (arith, count_yes HEADER cs c is), λ _. refl);
      applets = applets_on cs c o.applets outlines.applets (λ applets. absurd (other applets));
      twice = twice_on cs c o.twice outlines.twice (λ none. record {
        header = elim (cases_lt 0 (count_of HEADER cs)) [
          | inl some ↦ (let wrong : true ≡ false = sym (outlines.header.1 some) ∙ absent in cc wrong)
          | inr zero ↦ omega (arith, zero, count_yes HEADER cs c is)
        ];
        applets = omega (arith, none.applets, count_no APPLETS cs c other);
      });
    }

-- the first applet component
pub applets_one : (cs : List Component) (c : Component) (o : Outline) (held : AppletComponent) → Outlines cs o → repeats o c.tag ≡ false → c.tag ≡ APPLETS
    → held.place ≡ components_size cs → held.content.now ≡ c.content → Outlines (cs ++ c ∷ []) (record { header = o.header; applets = Some held; twice = o.twice })
applets_one cs c o held outlines told is at content =
    let other : c.tag ≢ HEADER = not_both APPLETS HEADER (λ wrong. omega (arith, wrong)) c.tag is in
    let same : applet_component held ≡ c = λ i. record { tag = sym is i; content = content i } in record {
      header = (
        λ header. (let some : 1 ≤ count_of HEADER cs = outlines.header.0 header in omega (arith, some, count_no HEADER cs c other)),
        λ some. outlines.header.1 (omega (arith, some, count_no HEADER cs c other)),
      );
      applets = subst (λ (d : Component). Stands held.place d (cs ++ c ∷ [])) (sym same) (stands_last held.place c cs at);
      twice = twice_on cs c o.twice outlines.twice (λ none. record {
        header = omega (arith, none.header, count_no HEADER cs c other);
        applets = (let zero = applets_none cs o.applets outlines.applets (ap (repeats o) (sym is) ∙ told) in omega (arith, zero, count_yes APPLETS cs c is));
      });
    }

-- a component with another tag
pub other_one : (cs : List Component) (c : Component) (o : Outline) → Outlines cs o → c.tag ≢ HEADER → c.tag ≢ APPLETS → Outlines (cs ++ c ∷ []) o
other_one cs c o outlines not other = record {
  header = (
    λ header. (let some : 1 ≤ count_of HEADER cs = outlines.header.0 header in omega (arith, some, count_no HEADER cs c not)),
    λ some. outlines.header.1 (omega (arith, some, count_no HEADER cs c not)),
  );
  applets = applets_on cs c o.applets outlines.applets (λ is. absurd (other is));
  twice = twice_on cs c o.twice outlines.twice (λ none. record {
    header = omega (arith, none.header, count_no HEADER cs c not);
    applets = omega (arith, none.applets, count_no APPLETS cs c other);
  });
}

-- a walk through bytes that has come to the rest of them
pub record Walked (bytes rest : List ℕ) (outline : Outline) : Type 0 where
  pub before : List Component
  pub begun : BeginWith before rest bytes
  pub outlines : Outlines before outline

walked_place : (bytes rest : List ℕ) (outline : Outline) (walked : Walked bytes rest outline) → length bytes - length rest ≡ components_size walked.before
walked_place bytes rest outline walked = omega (arith, ap length walked.begun.is, length-append (flat_map component_bytes walked.before) rest)

pub walk_on : (bytes rest next : List ℕ) (c : Component) (o p : Outline) (place : ℕ) → Walked bytes rest o → place ≡ length bytes - length rest → IsComponent c → rest ≡ component_bytes c ++ next
    → ((before : List Component) → Outlines before o → place ≡ components_size before → Outlines (before ++ c ∷ []) p) → Walked bytes next p
walk_on bytes rest next c o p place walked at ic is met = record {
  before = walked.before ++ c ∷ [];
  begun = more_component walked.before c rest next bytes walked.begun ic is;
  outlines = met walked.before walked.outlines (at ∙ walked_place bytes rest o walked);
}
