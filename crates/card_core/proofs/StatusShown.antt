-- A listing, thing after thing.
use Rattle.std.proofs.Common.{◌≡◌, ℕ, ◌+◌, ◌<◌, List, [], ◌∷◌, ◌++◌, Some, None, Option, length, refl, ap, sym, subst, ◌∙◌, append_assoc}
use Rattle.std.proofs.lemmas.List.{append-nil}
use Rattle.card_core.specs.Prelude.{ActsIn, Admitted, AreTemplates, BeginsAbove, IsFirstShown, IsListOf, IsNextListed, IsPart, IsTemplate, IsThingAt, NoneListed, Registry, Thing, aid_in, aid_of, last_aid, part_limit}
use Rattle.card_types.specs.declared.found.Found.{Found}
use Rattle.card_types.specs.declared.tables.Tables.{Tables}
use Rattle.policy_rules.proofs.GetStatusListed.{aid_named}
use Rattle.policy_rules.proofs.GetStatusWhole.{IsShownTo, all_shown, last_of, more_shown, next_left, none_shown}
use Rattle.policy_rules.specs.declared.get_status.ListRequest.{ListRequest}

-- one more template after others
templates_more : (registry : Registry) (p1 : ℕ) (things : List Thing) (thing : Thing) (bytes more : List ℕ) → AreTemplates registry p1 things bytes
    → IsTemplate registry p1 thing more → AreTemplates registry p1 (things ++ thing ∷ []) (bytes ++ more)
templates_more registry p1 [] thing bytes more none is = (more, [], is, refl, ap (λ (front : List ℕ). front ++ more) none ∙ sym (append-nil more))
templates_more registry p1 (first ∷ things) thing bytes more (front, rest, first_is, others, joined) is = (
  front,
  rest ++ more,
  first_is,
  templates_more registry p1 things thing rest more others is,
  ap (λ (all : List ℕ). all ++ more) joined ∙ append_assoc front rest more,
)

-- What was shown so far: these bytes are the templates, and this is the last AID.
pub record HasShown (page : ℕ → List ℕ) (tables : Tables) (domain : ℕ) (admitted : Admitted) (acts : ActsIn page tables domain admitted)
    (request : ListRequest) (last bytes : List ℕ) : Type 0 where
  pub after : Option (List ℕ)
  pub begins : BeginsAbove admitted after
  pub shown : List Thing
  pub so : IsShownTo admitted acts.well acts.says.ascending request.kind request.prefix.now after shown (Some last)
  pub body : AreTemplates admitted.at.registry request.kind shown bytes
  pub ends : last_aid [] shown ≡ last

module _ (page : ℕ → List ℕ) (tables : Tables) (domain : ℕ) (admitted : Admitted) (acts : ActsIn page tables domain admitted) (request : ListRequest)
    (of : IsListOf request admitted.command) where
  abbrev Shown : List ℕ → List ℕ → Type 0
  Shown last bytes = HasShown page tables domain admitted acts request last bytes

  is_named : (found : Found) (thing : Thing) (aid : List ℕ) → IsThingAt page tables found thing → aid_of tables found ≡ Some aid → aid_in thing ≡ aid
  is_named found thing aid at named = (let both = sym (aid_named page tables found thing at) ∙ named in cc)

  -- with the first template
  pub first_shown : (found : Found) (first : IsFirstShown page tables admitted request found) (aid bytes template new : List ℕ) → aid_of tables found ≡ Some aid
      → bytes ≡ [] → IsTemplate admitted.at.registry request.kind first.next.thing template → new ≡ bytes ++ template → Shown aid new
  first_shown found first aid bytes template new named empty is joined =
      let begun = none_shown admitted acts.well acts.says.ascending request.kind request.prefix.now first.after in
      let same = is_named found first.next.thing aid first.next.at named in record {
        after = first.after;
        begins = first.begins;
        shown = first.next.thing ∷ [];
        so = subst (λ (last : List ℕ). IsShownTo admitted acts.well acts.says.ascending request.kind request.prefix.now first.after (first.next.thing ∷ []) (Some last)) same
            (more_shown admitted acts.well acts.says.ascending request.kind request.prefix.now first.after [] first.after begun page tables found first.next);
        body = subst (AreTemplates admitted.at.registry request.kind (first.next.thing ∷ [])) (sym joined)
            (templates_more admitted.at.registry request.kind [] first.next.thing bytes template empty is);
        ends = same;
      }

  module _ (last bytes : List ℕ) (has : Shown last bytes) where
    -- with each further template
    pub next_shown : (found : Found) (next : IsNextListed page tables admitted request.kind request.prefix.now (Some last) found) (aid template new : List ℕ)
        → aid_of tables found ≡ Some aid → IsTemplate admitted.at.registry request.kind next.thing template → new ≡ bytes ++ template → Shown aid new
    next_shown found next aid template new named is joined =
        let same = is_named found next.thing aid next.at named in record {
          after = has.after;
          begins = has.begins;
          shown = has.shown ++ next.thing ∷ [];
          so = subst (λ (l : List ℕ). IsShownTo admitted acts.well acts.says.ascending request.kind request.prefix.now has.after (has.shown ++ next.thing ∷ []) (Some l)) same
              (more_shown admitted acts.well acts.says.ascending request.kind request.prefix.now has.after has.shown (Some last) has.so page tables found next);
          body = subst (AreTemplates admitted.at.registry request.kind (has.shown ++ next.thing ∷ [])) (sym joined)
              (templates_more admitted.at.registry request.kind has.shown next.thing bytes template has.body is);
          ends = last_of [] has.shown next.thing ∙ same;
        }

    said : AreTemplates admitted.at.registry admitted.command.p1 has.shown bytes
    said = subst (λ (p1 : ℕ). AreTemplates admitted.at.registry p1 has.shown bytes) of.kind has.body

    -- nothing is left
    pub whole_part : NoneListed admitted request.kind request.prefix.now (Some last) → IsPart admitted bytes None
    whole_part none = record {
      shown = has.shown;
      left = [];
      listing = all_shown admitted acts.well acts.says.ascending request.kind request.prefix.now has.after has.shown (Some last) has.so of.kind of.search has.begins none;
      body = said;
      full = tt;
      ends = tt;
    }

    -- the next has no room
    pub full_part : (found : Found) (next : IsNextListed page tables admitted request.kind request.prefix.now (Some last) found) (template : List ℕ)
        → IsTemplate admitted.at.registry request.kind next.thing template → part_limit < length bytes + length template → IsPart admitted bytes (Some last)
    full_part found next template is above =
        let rest = next_left admitted acts.well acts.says.ascending request.kind request.prefix.now has.after has.shown (Some last) has.so of.kind of.search has.begins
        page tables found next in record {
          shown = has.shown;
          left = next.thing ∷ rest.0;
          listing = rest.1;
          body = said;
          full = (template, subst (λ (p1 : ℕ). IsTemplate admitted.at.registry p1 next.thing template) of.kind is, above);
          ends = has.ends;
        }
