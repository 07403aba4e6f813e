-- A block that is judged: which causes hold.
use Rattle.std.proofs.Common.{◌≡◌, Bool, IsTrue, false, true, ◌≢◌, ◌⊎◌, inl, inr, ◌↔◌, ℕ, ◌+◌, ◌-◌, ◌<◌, ◌≤◌, List, [], ◌∷◌, ◌++◌, length, length-append, length-drop, take, drop, Option, None, Some, Result, Ok, Err, IfOk, IfErr, refl, ap, sym, subst, ◌∙◌, arith}
use Rattle.std.specs.Prelude.{All, map}
use Rattle.std.specs.List.{concat, sum_by}
use Rattle.std.proofs.lemmas.Bool.{false≢true}
use Rattle.std.proofs.lemmas.List.{length-take, take_all}
use Rattle.std.proofs.lemmas.List.Elements.{All-head, All-tail}
use Rattle.std.proofs.lemmas.List.Sorted.{sum_by-IsPermutation}
use Rattle.std.proofs.lemmas.List.Sums.{sum_by-cons}
use Rattle.bertlv.proofs.LengthLemmas.{length_front}
use Rattle.card_check.proofs.Counting.{length_of_pages}
use Rattle.load_session.specs.Prelude.{Block, BlockPasses, BringsBytes, ForEachSaid, HasNoLength, HasNoRoom, HasOtherCount, HasOtherHash, HasPageNumbers, HasPages, HaveHash, IsFed, IsInLoadPages, Registry, Represents, RepresentsLoad, StopsBlock, file_of, pages_in, pages_named, pages_of, pages_used, size_of, things_in}
use Rattle.card_types.specs.Registry as registry
use Rattle.card_types.specs.declared.limits.TheConstants.{FILE_LIMIT, LOAD_PAGES}
use Rattle.card_types.specs.declared.tables.Entry.{Entry}
use Rattle.card_types.specs.declared.tables.LoadFile.{LoadFile}
use Rattle.card_types.specs.declared.tables.Tables.{Tables}
use Rattle.load_session.specs.declared.block.BlockStop.{BlockStop}
use Rattle.load_session.specs.declared.block.BlockStop.TheVariants.{FirstBlock, NoRoom, Count, Hash}
use Rattle.load_session.specs.declared.block.Taken.{Taken}
use Rattle.load_session.specs.declared.session.LoadSession.{LoadSession}
use Rattle.policy_machine.specs.State as volatile

-- the bytes from one on are those up to the end
pub up_to_end : (bytes : List ℕ) (start : ℕ) → take (length bytes - start) (drop start bytes) ≡ drop start bytes
up_to_end bytes start = take_all (length bytes - start) (drop start bytes) (omega (arith, length-drop start bytes))

-- a block brings one thing
pub one_brings : (announced : Option ℕ) (block : Block) (size other : ℕ) (bytes more : List ℕ) → BringsBytes announced block size bytes → BringsBytes announced block other more
    → (size ≡ other) × (bytes ≡ more)
one_brings None block size other bytes more one another =
    let same : one.length_field ++ bytes ≡ another.length_field ++ more = ap (drop 1) (sym one.joined ∙ another.joined) in
    let front = length_front size other one.length_field another.length_field bytes more one.spells another.spells same in
    (front.0, front.2)
one_brings (Some announced) block size other bytes more one another = (one.0 ∙ sym another.0, one.1 ∙ sym another.1)

module _ (page : ℕ → List ℕ) (whole : HasPages page) (entries : List (Option Entry)) where
  -- a file has as many bytes as it says
  pub as_long : (file : LoadFile) → HasPageNumbers file → file.len ≤ FILE_LIMIT → length (file_of page entries file).bytes ≡ file.len
  as_long file array short =
      let all = length-take file.len (concat (map page (pages_named file))) in
      let pages = length_of_pages page whole (pages_named file) in
      let named = length-take (pages_of file.len) file.pages in
      omega (arith, all, pages, named, array, short)

  files_counted : (files : List LoadFile) → All HasPageNumbers files → All IsInLoadPages files
      → sum_by (λ (file : registry.LoadFile). pages_of (length file.bytes)) (map (file_of page entries) files) ≡ sum_by (λ (file : LoadFile). pages_of file.len) files
  files_counted [] arrays roomy = refl
  files_counted (first ∷ rest) arrays roomy =
      let here = as_long first (All-head HasPageNumbers first rest arrays) (All-head IsInLoadPages first rest roomy).size in
      let there = files_counted rest (All-tail HasPageNumbers first rest arrays) (All-tail IsInLoadPages first rest roomy) in
      sum_by-cons (λ (file : registry.LoadFile). pages_of (length file.bytes)) (file_of page entries first) (map (file_of page entries) rest)
      ∙ ap (λ n. pages_of n + sum_by (λ (file : registry.LoadFile). pages_of (length file.bytes)) (map (file_of page entries) rest)) here
      ∙ ap (λ n. pages_of first.len + n) there ∙ sym (sum_by-cons (λ (file : LoadFile). pages_of file.len) first rest)

module _ (page : ℕ → List ℕ) (whole : HasPages page) (tables : Tables) (said : Registry) (says : Represents page tables said) (kept : LoadSession) (load : volatile.LoadSession)
    (stands : RepresentsLoad page tables kept load) (block : Block) where
  pub no_length : ((size : ℕ) (bytes : List ℕ) → BringsBytes kept.announced block size bytes → ⊥) → HasNoLength load block
  no_length none = subst (λ (a : Option ℕ). (size : ℕ) (bytes : List ℕ) → BringsBytes a block size bytes → ⊥) stands.of.announced none

  -- as many bytes have come as are kept
  length_kept : length load.bytes ≡ size_of kept.paged
  length_kept =
      let pages = length_of_pages page whole kept.paged.pages.items in
      let both = length-append (concat (map page kept.paged.pages.items)) kept.paged.rest.items in
      omega (arith, ap length stands.bytes, pages, both)

  module _ (size : ℕ) (bytes : List ℕ) (brings : BringsBytes kept.announced block size bytes) where
    brought : BringsBytes load.announced block size bytes
    brought = subst (λ (a : Option ℕ). BringsBytes a block size bytes) stands.of.announced brings

    pub some_length : HasNoLength load block → ⊥
    some_length none = none size bytes brought

    module _ (sent : List ℕ) (same : sent ≡ bytes) where
      length_joined : length (load.bytes ++ bytes) ≡ size_of kept.paged + length sent
      length_joined = omega (arith, length-append load.bytes bytes, length_kept, ap length same)

      pub other_count : (size < size_of kept.paged + length sent) ⊎ ((block.last ≡ true) × (size_of kept.paged + length sent ≢ size)) → HasOtherCount load block
      other_count (inl more) = (size, bytes, brought, inl (omega (arith, more, length_joined)))
      other_count (inr (last, other)) = (size, bytes, brought, inr (last, λ is. other (sym length_joined ∙ is)))

      pub same_count : size_of kept.paged + length sent ≤ size → (block.last ≡ true → size_of kept.paged + length sent ≡ size) → HasOtherCount load block → ⊥
      same_count few all (other, more, brings_more, why) =
          let one = one_brings load.announced block size other bytes more brought brings_more in
          elim why [
            | inl over ↦ absurd (omega (arith, over, few, length_joined, one.0, ap (λ (list : List ℕ). length (load.bytes ++ list)) one.1))
            | inr (last, unlike) ↦ unlike (ap (λ (list : List ℕ). length (load.bytes ++ list)) (sym one.1) ∙ length_joined ∙ all last ∙ one.0)
          ]

      -- what a hasher says of the bytes
      module _ (hash : List ℕ) (is : hash ≡ kept.hash.items) (result : Bool)
          (fits : (before : List ℕ) → IsFed hash kept.hasher before → (IsTrue result ↔ HaveHash (before ++ sent) hash)) where
        said_of : IsTrue result ↔ HaveHash (load.bytes ++ bytes) kept.hash.items
        said_of =
            subst (λ (h : List ℕ). IsTrue result ↔ HaveHash (load.bytes ++ bytes) h) is
            (subst (λ (b : List ℕ). IsTrue result ↔ HaveHash (load.bytes ++ b) hash) same
            (fits load.bytes (subst (λ (h : List ℕ). IsFed h kept.hasher load.bytes) (sym is) stands.fed)))

        pub has_hash : result ≡ true → HaveHash (load.bytes ++ bytes) kept.hash.items
        has_hash = said_of.0

        pub other_hash : block.last ≡ true → result ≡ false → HasOtherHash load block
        other_hash last unlike = (size, bytes, brought, last, subst (λ h. HaveHash (load.bytes ++ bytes) h → ⊥) stands.of.hash (λ have. false≢true (sym unlike ∙ said_of.1 have)))

    pub same_hash : (block.last ≡ true → HaveHash (load.bytes ++ bytes) kept.hash.items) → HasOtherHash load block → ⊥
    same_hash have (other, more, brings_more, last, unlike) =
        let one = one_brings load.announced block size other bytes more brought brings_more in
        unlike (subst (λ hash. HaveHash (load.bytes ++ more) hash) stands.of.hash (subst (λ (list : List ℕ). HaveHash (load.bytes ++ list) kept.hash.items) one.1 (have last)))

    module _ (roomy : All IsInLoadPages (things_in tables.files.items)) (arrays : All HasPageNumbers (things_in tables.files.items)) where
      pages_counted : pages_used said ≡ pages_in tables
      pages_counted =
          sum_by-IsPermutation (λ (file : registry.LoadFile). pages_of (length file.bytes)) (map (file_of page tables.entries.items) (things_in tables.files.items)) said.files says.files
          ∙ files_counted page whole tables.entries.items (things_in tables.files.items) arrays roomy

      pub no_room : (FILE_LIMIT < size) ⊎ (LOAD_PAGES < pages_in tables + pages_of size) → HasNoRoom said load block
      no_room (inl long) = (size, bytes, brought, inl long)
      no_room (inr many) = (size, bytes, brought, inr (omega (arith, many, pages_counted)))

      pub has_room : size ≤ FILE_LIMIT → pages_in tables + pages_of size ≤ LOAD_PAGES → HasNoRoom said load block → ⊥
      has_room short few (other, more, brings_more, why) =
          let one = one_brings load.announced block size other bytes more brought brings_more in
          elim why [
            | inl long ↦ absurd (omega (arith, long, short, one.0))
            | inr many ↦ absurd (omega (arith, many, few, one.0, pages_counted, ap pages_of one.0))
          ]

module _ (said : Registry) (load : volatile.LoadSession) (block : Block) where
  abbrev Stops : BlockStop → Type 0
  Stops stop = StopsBlock said load block stop

  -- one cause is the first
  one_stop : (stop other : BlockStop) → Stops stop → Stops other → stop ≡ other
  one_stop FirstBlock FirstBlock a b = refl
  one_stop FirstBlock NoRoom a b = absurd (a b.0 b.1 b.2)
  one_stop FirstBlock Count a (room, (size, bytes, brings, why)) = absurd (a size bytes brings)
  one_stop FirstBlock Hash a (room, count, (size, bytes, brings, last, why)) = absurd (a size bytes brings)
  one_stop NoRoom FirstBlock a b = absurd (b a.0 a.1 a.2)
  one_stop NoRoom NoRoom a b = refl
  one_stop NoRoom Count a b = absurd (b.0 a)
  one_stop NoRoom Hash a b = absurd (b.0 a)
  one_stop Count FirstBlock (room, (size, bytes, brings, why)) b = absurd (b size bytes brings)
  one_stop Count NoRoom a b = absurd (a.0 b)
  one_stop Count Count a b = refl
  one_stop Count Hash a (room, count, hash) = absurd (count a.1)
  one_stop Hash FirstBlock (room, count, (size, bytes, brings, last, why)) b = absurd (b size bytes brings)
  one_stop Hash NoRoom a b = absurd (a.0 b)
  one_stop Hash Count (room, count, hash) b = absurd (count b.1)
  one_stop Hash Hash a b = refl

  none_stops : BlockPasses said load block → (stop : BlockStop) → Stops stop → ⊥
  none_stops passes FirstBlock stops = passes.length_is stops
  none_stops passes NoRoom stops = passes.room stops
  none_stops passes Count (room, count) = passes.count count
  none_stops passes Hash (room, count, hash) = passes.hash hash

-- each cause is given exactly where it is the first
pub exact_stop : (tables : Tables) (kept : LoadSession) (block : Block) (result : Result Taken BlockStop)
    → IfErr result (λ stop. ForEachSaid tables kept (λ said load. StopsBlock said load block stop)) → IfOk result (λ taken. ForEachSaid tables kept (λ said load. BlockPasses said load block))
    → ForEachSaid tables kept (λ said load. (stop : BlockStop) → (result ≡ Err stop) ↔ StopsBlock said load block stop)
exact_stop tables kept block (Ok taken) stopped passes page said load whole says stands stop =
    (λ is. absurd cc, λ stops. absurd (none_stops said load block (passes page said load whole says stands) stop stops))
exact_stop tables kept block (Err first) stopped passes page said load whole says stands stop = (
  λ is. (let same : first ≡ stop = cc in subst (StopsBlock said load block) same (stopped page said load whole says stands)),
  λ stops. ap (λ (cause : BlockStop). Err cause) (one_stop said load block first stop (stopped page said load whole says stands) stops),
)
