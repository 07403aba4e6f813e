-- What a command leaves as it was that changes the registry, and the room for the pages of its answer.
use Rattle.std.proofs.Common.{◌≡◌, ℕ, ◌≤◌, ◌==◌, ◌++◌, List, [], ◌∷◌, Bool, true, false, cond, Option, None, Some, length, refl, sym, ap, subst, ◌∙◌, arith}
use Rattle.std.specs.Prelude.{IfSome, count_by, not}
use Rattle.std.specs.List.{list_any}
use Rattle.std.proofs.lemmas.List.Elements.{Contains-append_left, Contains-append_right}
use Rattle.std.proofs.lemmas.List.Sums.{sum_by-append, sum_by-cons}
use Rattle.card_core.specs.Prelude.{Admitted, HasFramesFor, HasKey, KeepsAid, KeepsAids, KeepsConfirmer, KeepsRoom, KeepsSelected, MayReceipt, entry_pages, file_page, key_pages, object_pages, owner_pages, thing_in, thing_page, thing_pages, with_staged}
use Rattle.card_types.specs.declared.tables.Entry.{Entry}
use Rattle.card_types.specs.declared.found.Found.{Found}
use Rattle.card_types.specs.declared.found.Found.TheVariants as Thing
use Rattle.card_types.specs.declared.tables.KeyRec.{KeyRec}
use Rattle.card_types.specs.declared.tables.Tables.{Tables}
use Rattle.policy_slots.specs.declared.live.Live.{Live}
use Rattle.policy_slots.specs.declared.live.LoadName.{LoadName}
use Rattle.card_core.proofs.EntryCards.{KeepsNumbers, may_still, receipts_kept}

-- what is selected stays where each entry does
pub aids_selected : (live : Live) (before after : List (Option Entry)) → KeepsAids before after → KeepsSelected live before after
aids_selected live before after keeps = record { selected = λ number slot low at. keeps slot; load = of live.load }
  where
    of : (load : Option LoadName) → IfSome load (λ name. KeepsAid before after name.domain)
    of None = tt
    of (Some name) = keeps name.domain

-- what is selected stays where the entries are the same
pub entries_selected : (live : Live) (before after : List (Option Entry)) → after ≡ before → KeepsSelected live before after
entries_selected live before after same =
    aids_selected live before after (λ slot entry at. (entry, subst (λ (es : List (Option Entry)). thing_in es slot ≡ Some entry) (sym same) at, refl))

-- what is selected stays where the next change leaves each entry with its AID
pub selected_on : (live : Live) (a b c : List (Option Entry)) → KeepsSelected live a b → KeepsAids b c → KeepsSelected live a c
selected_on live a b c first then = record {
  selected = λ number slot low at. on slot (first.selected number slot low at);
  load = by live.load first.load;
}
  where
    on : (slot : ℕ) → KeepsAid a b slot → KeepsAid a c slot
    on slot keeps entry at =
        let one = keeps entry at in
        let other = then slot one.0 one.1 in
        (other.0, other.1, other.2 ∙ one.2)

    by : (load : Option LoadName) → IfSome load (λ name. KeepsAid a b name.domain) → IfSome load (λ name. KeepsAid a c name.domain)
    by None keeps = tt
    by (Some name) keeps = on name.domain keeps

-- entries keep their AIDs over two changes
pub aids_on : (a b c : List (Option Entry)) → KeepsAids a b → KeepsAids b c → KeepsAids a c
aids_on a b c first then slot entry at =
    let one = first slot entry at in
    let other = then slot one.0 one.1 in
    (other.0, other.1, other.2 ∙ one.2)

-- who confirms a command still can where entries alone are others, and keep their AIDs and receipt numbers
pub numbers_confirmer : (before after : Tables) (admitted : Admitted) → KeepsNumbers before after → KeepsConfirmer before after admitted
numbers_confirmer before after admitted keeps receipter finds = (receipts_kept before after keeps receipter, by receipter)
  where
    by : (receipter : Option ℕ) → IfSome receipter (MayReceipt before) → IfSome receipter (MayReceipt after)
    by None able = able
    by (Some slot) able =
        may_still before after slot (keeps.entries slot) (λ place. subst (λ (keys : List (Option KeyRec)). HasKey keys slot 0x71 1 place) (sym keeps.keys)) able

-- with nothing staged there is room for the pages of entries, and then for them again
pub entry_room : (staged : List ℕ) → staged ≡ [] → HasFramesFor entry_pages staged
entry_room staged none = subst (HasFramesFor entry_pages) (sym none) (omega arith)

pub room_again : (staged after : List ℕ) → staged ≡ [] → KeepsRoom entry_pages staged after → HasFramesFor entry_pages after
room_again staged after none keeps = keeps entry_pages (λ page there. there) (entry_room staged none)

-- with nothing staged there is room for the pages of a thing that is moved
pub thing_room : (thing : Found) (staged : List ℕ) → staged ≡ [] → HasFramesFor (thing_pages thing) staged
thing_room (Thing.Entry slot) staged none = entry_room staged none
thing_room (Thing.File slot) staged none = subst (HasFramesFor (file_page slot ∷ [])) (sym none) (omega arith)

few : (p : ℕ → Bool) (xs : List ℕ) → count_by p xs ≤ length xs
few p [] = omega arith
few p (x ∷ xs) = (let one = at_most (p x) in omega (arith, few p xs, one, sum_by-cons (λ x. cond (p x) 1 0) x xs))
  where
    at_most : (b : Bool) → cond b 1 0 ≤ 1
    at_most true = omega arith
    at_most false = omega arith

pub thing_room_again : (thing : Found) (staged after : List ℕ) → staged ≡ [] → after ≡ with_staged staged (thing_page thing) → HasFramesFor entry_pages after
thing_room_again thing staged after none is =
    let one : after ≡ thing_page thing ∷ [] = is ∙ ap (λ (pages : List ℕ). with_staged pages (thing_page thing)) none in
    subst (HasFramesFor entry_pages) (sym one)
    (let fewer = few (λ page. not (list_any (λ other. other == page) (thing_page thing ∷ []))) entry_pages in omega (arith, fewer))

-- room for pages is room for some of them
abbrev is_new : List ℕ → ℕ → ℕ
is_new staged page = cond (not (list_any (λ other. other == page) staged)) 1 0

room_first : (pages others staged : List ℕ) → HasFramesFor (pages ++ others) staged → HasFramesFor pages staged
room_first pages others staged room = omega (arith, room, sum_by-append (is_new staged) pages others)

room_last : (pages others staged : List ℕ) → HasFramesFor (pages ++ others) staged → HasFramesFor others staged
room_last pages others staged room = omega (arith, room, sum_by-append (is_new staged) pages others)

-- with nothing staged there is room for the pages of an entry that goes with what it owns
pub owner_room : (staged : List ℕ) → staged ≡ [] → HasFramesFor owner_pages staged
owner_room staged none = subst (HasFramesFor owner_pages) (sym none) (omega arith)

pub owner_room_again : (staged after : List ℕ) → staged ≡ [] → KeepsRoom owner_pages staged after → HasFramesFor entry_pages after
owner_room_again staged after none keeps =
    room_first entry_pages key_pages after (room_first (entry_pages ++ key_pages) object_pages after (keeps owner_pages (λ page there. there) (owner_room staged none)))

-- the room where entries go, and then the Executable Load File that they come from
module _ (slot : ℕ) (staged between : List ℕ) (none : staged ≡ []) (keeps : KeepsRoom entry_pages staged between) where
  abbrev file_pages : List ℕ
  file_pages = file_page slot ∷ []

  loaded_room : HasFramesFor (file_pages ++ entry_pages) between
  loaded_room =
      keeps (file_pages ++ entry_pages) (Contains-append_right file_pages entry_pages) (subst (HasFramesFor (file_pages ++ entry_pages)) (sym none) (omega arith))

  pub file_room : HasFramesFor (file_page slot ∷ []) between
  file_room = room_first file_pages entry_pages between loaded_room

  pub loaded_room_again : (after : List ℕ) → KeepsRoom (file_page slot ∷ []) between after → HasFramesFor entry_pages after
  loaded_room_again after then = room_last file_pages entry_pages after (then (file_pages ++ entry_pages) (Contains-append_left file_pages entry_pages) loaded_room)
