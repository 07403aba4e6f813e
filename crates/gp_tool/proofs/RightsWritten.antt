-- Rights one after the other, and their lines.
use Rattle.std.proofs.Common.{◌≡◌, ℕ, List, [], ◌∷◌, ◌++◌, None, Option, Some, take, refl, subst, sym, ap, ◌∙◌}
use Rattle.std.proofs.lemmas.List.{append-nil, flat_map_more}
use Rattle.std.specs.Prelude.{MatchOption}
use Rattle.std.specs.List.{flat_map}
use Rattle.access_matrix.specs.Rights.{AreNextRights, IsNextRight, NextRightsAreAll, NoRightAfter}
use Rattle.access_matrix.specs.Text.{line_of}
use Rattle.access_matrix.specs.declared.deed.Right.{Right}
use Rattle.card_types.specs.Registry.{Registry}
use Rattle.io_edge.specs.Streams.{SinkState}
use Rattle.gp_tool.proofs.Parts.{part_of_second}
use Rattle.gp_tool.specs.Shown.{IsFront, WritesWhole}
use Rattle.gp_tool.specs.declared.view.View.TheVariants.{Rights}

module _ (registry : Registry) where
  -- one more
  one_more : (first last : Option Right) (rights : List Right) (right : Right) → AreNextRights registry first rights last → IsNextRight registry last right
      → AreNextRights registry first (rights ++ right ∷ []) (Some right)
  one_more first last [] right is next = (subst (λ (from : Option Right). IsNextRight registry from right) is next, refl)
  one_more first last (other ∷ rights) right is next = (is.0, one_more (Some other) last rights right is.1 next)

  -- The lines of the rights up to the last one were written.
  pub record Written (told : Type 0) (last : Option Right) (old new : List ℕ) : Type 0 where
    pub rights : List Right
    pub next : AreNextRights registry None rights last
    pub wrote : told → new ≡ old ++ flat_map (line_of registry) rights

  abbrev pub Part : Type 0 → List ℕ → List ℕ → Type 0
  Part told old new = (text : List ℕ) × IsFront Rights registry text × (told → (n : ℕ) × (new ≡ old ++ take n text))

  pub none_written : (told : Type 0) (old : List ℕ) → Written told None old old
  none_written told old = record { rights = []; next = refl; wrote = λ t. sym (append-nil old) }

  module _ (told : Type 0) (last : Option Right) (right : Right) (next : IsNextRight registry last right) (old mid new line : List ℕ) (is : line ≡ line_of registry right)
      (written : Written told last old mid) where
    one_written : (told → new ≡ mid ++ line) → Written told (Some right) old new
    one_written wrote = record {
      rights = written.rights ++ right ∷ [];
      next = one_more None last written.rights right written.next next;
      wrote = λ t.
          wrote t ∙ ap (λ l. mid ++ l) is ∙ ap (λ m. m ++ line_of registry right) (written.wrote t)
          ∙ flat_map_more (line_of registry) old written.rights right;
    }

    part_written : (told → (n : ℕ) × (new ≡ mid ++ take n line)) → Part told old new
    part_written part = (
      flat_map (line_of registry) (written.rights ++ right ∷ []),
      (written.rights ++ right ∷ [], Some right, one_more None last written.rights right written.next next, refl),
      λ t.
          let some = part t in
          let both = part_of_second old (flat_map (line_of registry) written.rights) (line_of registry right) mid new (written.wrote t) (some.0, some.1 ∙ ap (λ l. mid ++ take some.0 l) is) in
          (both.0, both.1 ∙ ap (λ text. old ++ take both.0 text) (flat_map_more (line_of registry) [] written.rights right)),
    )

  -- the line of the next right was written, or a part of it
  module _ (told : Type 0) (last next : Option Right) (old mid new line : List ℕ) (is : MatchOption next ⊥ (IsNextRight registry last))
      (spelled : MatchOption next ⊥ (λ right. line ≡ line_of registry right)) (written : Written told last old mid) where
    pub turn_written : (told → new ≡ mid ++ line) → Written told next old new
    turn_written wrote = by next is spelled
      where
        by : (o : Option Right) → MatchOption o ⊥ (IsNextRight registry last) → MatchOption o ⊥ (λ right. line ≡ line_of registry right) → Written told o old new
        by None none named = absurd none
        by (Some right) after named = one_written told last right after old mid new line named written wrote

    pub turn_part : (told → (n : ℕ) × (new ≡ mid ++ take n line)) → Part told old new
    turn_part part = by next is spelled
      where
        by : (o : Option Right) → MatchOption o ⊥ (IsNextRight registry last) → MatchOption o ⊥ (λ right. line ≡ line_of registry right) → Part told old new
        by None none named = absurd none
        by (Some right) after named = part_written told last right after old mid new line named written part

  -- those of all rights, where none is after the last one
  pub all_written : NextRightsAreAll → (told : Type 0) (last : Option Right) (old new : SinkState) → Written told last old.written new.written → NoRightAfter registry last
      → WritesWhole Rights told registry old new
  all_written law told last old new written none =
      (flat_map (line_of registry) written.rights, (written.rights, last, written.next, law registry written.rights last written.next none, refl), written.wrote)
