use Rattle.std.proofs.Common.{rules, ◌≡◌, ◌≤◌, ◌+◌, ℕ, List, [], ◌∷◌, ◌++◌, Bool, true, Option, None, Some, sym, ap, subst, ◌∙◌}
use Rattle.std.specs.Prelude.{drop}
use Rattle.card_core.specs.Prelude.{IsAfterBlock, IsBlockTaken, IsInOrder, IsLoaded, IsWholeFile, NoneHas, RepresentsAfter, RepresentsLoad, RepresentsWhole, block_in, is_domain_in, len_of, live_without_load, load_aid, load_slot, pages_after, pages_in, pages_of, with_block}
use Rattle.card_types.specs.declared.limits.TheConstants.{LOAD_PAGES}
use Rattle.load_session.specs.declared.session.LoadSession.{LoadSession}
use Rattle.content_rules.proofs.LoadJudging.{front_refuses}
use Rattle.policy_slots.specs.declared.live.Live.{Live}
use Rattle.card_core.proofs.Cards.{in_order}
use Rattle.card_core.proofs.LoadHeld.{few_last, held_load, new_free, some_last}
use Rattle.card_core.proofs.LoadJudged.{for_block, load_on, load_stands}
use Rattle.card_core.proofs.LoadTaken.{last_loaded, more_loaded, load_refused}
use Rattle.card_core.proofs.load.load.Goals as goal

pub judge_block-requires-clause-in_order : goal.judge_block-requires-clause-in_order
judge_block-requires-clause-in_order g c = subst IsInOrder (sym c.tables-2.ensures.tables) (in_order c.args.records.now.tables c.requires.cards)

pub returns-in_err-name-clause-done : goal.returns-in_err-name-clause-done
returns-in_err-name-clause-done g c page admitted whole shows sound acts on asked =
    let says = shows.says in
    let loads = shows.loading in
    let refused = rw c.tables.ensures.tables at c.in_err-name.ensures.refused in
    let rule = c.in_err-name.field-0.0 in
    load_refused admitted asked.form (pages_after page c.args.channels.now.loading.writes.items) c.args.records.now.tables c.args.channels.now.live c.args.channels.now.loading.session c.args.reply.now.items
    c.from_residual.result rule c.from_residual.ensures.1 (front_refuses admitted rule (refused page admitted acts (record { named = says.load; on = on }) asked.means)) c.requires.empty

pub returns-in_err-judged-clause-done : goal.returns-in_err-judged-clause-done
returns-in_err-judged-clause-done g c page admitted whole shows sound acts on asked =
    let says = shows.says in
    let loads = shows.loading in
    let at : c.args.channels.now.loading.session ≡ Some c.unwrap-session.result.now = search rules in
    let passed = rw c.tables.ensures.tables at c.in_ok-name.ensures.passed in
    let is_for = for_block page c.args.records.now.tables c.args.channels.now.live c.args.channels.now.loading.session c.unwrap-session.result.now c.in_ok-name.name c.args.domain c.args.channel c.args.request.now admitted
    at c.in_ok-name.ensures.name on whole acts says sound loads asked.means (passed page admitted acts (record { named = says.load; on = on }) asked.means) in
    let refused = rw c.tables-2.ensures.tables at c.in_err-judged.ensures.refused in
    let rule = c.in_err-judged.field-0.0 in
    load_refused admitted asked.form (pages_after page c.args.channels.now.loading.writes.items) c.args.records.now.tables c.args.channels.now.live c.args.channels.now.loading.session c.args.reply.now.items
    c.from_residual-in_err-judged.result rule c.from_residual-in_err-judged.ensures.1 (refused page admitted is_for) c.requires.empty

-- more blocks come
pub returns-then-not-request-clause-writes : goal.returns-then-not-request-clause-writes
returns-then-not-request-clause-writes g c = new_free c.args.records.now.tables _ c.take_block.new.writes.items (rw c.tables-3.ensures.tables at c.take_block.ensures.writes)

pub returns-clause-writes : goal.returns-clause-writes
returns-clause-writes g c = new_free c.args.records.now.tables _ c.take_block.new.writes.items (rw c.tables-3.ensures.tables at c.take_block.ensures.writes)

pub returns-then-not-request-clause-done : goal.returns-then-not-request-clause-done
returns-then-not-request-clause-done g c page admitted whole shows sound acts on asked =
    let says = shows.says in
    let loads = shows.loading in
    let tables = c.args.records.now.tables in
    let live = c.args.channels.now.live in
    let kept = c.unwrap-session.result.now in
    let name = c.in_ok-name.name in
    let request = c.args.request.now in
    let taken = c.in_ok-judged.judged.taken in
    let writes = c.take_block.new.writes.items in
    let at : c.args.channels.now.loading.session ≡ Some kept = search rules in
    let same : kept ≡ c.unwrap-session-2.result.now = search rules in
    let front = rw c.tables.ensures.tables at c.in_ok-name.ensures.passed in
    let is_for = for_block page tables live c.args.channels.now.loading.session kept name c.args.domain c.args.channel request admitted at c.in_ok-name.ensures.name on whole acts says sound loads asked.means
    (front page admitted acts (record { named = says.load; on = on }) asked.means) in
    let passed = rw c.tables-2.ensures.tables at c.in_ok-judged.ensures.passed in
    let brought = rw c.tables-2.ensures.tables at c.in_ok-judged.ensures.taken in
    let new = rw c.tables-3.ensures.tables at c.take_block.ensures.writes in
    let stands = rw c.tables-3.ensures.tables at c.take_block.ensures.stands in
    let load = (load_on page tables kept name c.args.domain request admitted is_for).load in
    let before = subst (λ (k : LoadSession). RepresentsLoad page tables k load) same (load_stands page tables kept name c.args.domain request admitted is_for) in
    let after = subst (λ (last : Bool). RepresentsAfter last (pages_after page writes) tables c.take_block.new.self (with_block load taken.size (drop taken.start request.block.now)))
    c.if-not-request.true (stands page load whole before) in
    let done = more_loaded page tables live kept name c.args.domain request admitted is_for asked.form says (passed page admitted is_for) taken brought writes new.own.free
    c.if-not-request.true c.take_block.new.self after in
    let body : c.push.new.self.items ≡ 0x00 ∷ [] = c.push.ensures.items ∙ ap (λ (bytes : List ℕ). bytes ++ 0x00 ∷ []) c.requires.empty in
    let So : Live → List ℕ → Type 0 = (λ (l : Live) (bytes : List ℕ). IsLoaded admitted (pages_after page writes) tables l (Some c.take_block.new.self) bytes (record { 0 = 0x9000 })) in
    subst (So c.count_block.new.self) (sym body) (subst (λ (l : Live). So l (0x00 ∷ [])) (sym c.count_block.ensures) done)

-- it was the last one: what its file is like
pub add_loaded-requires : goal.add_loaded-requires
add_loaded-requires g c =
    let tables = c.args.records.now.tables in
    let kept = c.unwrap-session-2.result.now in
    let at : c.args.channels.now.loading.session ≡ Some kept = search rules in
    let same : c.unwrap-session.result.now ≡ kept = search rules in
    let last : c.unwrap-session-3.result ≡ c.take_block.new.self = search rules in
    let slot : c.finish.result.domain ≡ load_slot kept = search rules in
    let aid : c.finish.result.aid ≡ load_aid kept = search rules in
    let held = held_load tables c.args.channels.now.live c.args.channels.now.sessions c.args.channels.now.loading.session c.requires.some c.in_ok-name.name c.in_ok-name.ensures.name.0 kept at in
    let brought = subst (λ (k : LoadSession). IsBlockTaken tables k (block_in c.args.request.now) c.in_ok-judged.judged.taken) same (rw c.tables-2.ensures.tables at c.in_ok-judged.ensures.taken) in
    let stands = rw c.tables-3.ensures.tables at c.take_block.ensures.stands in
    let sound = rw c.tables-3.ensures.tables at c.take_block.ensures.sound in
    let whole = subst (λ (b : Bool). IsAfterBlock b tables c.take_block.new.self) c.if-not-request.false sound in
    let pages = c.finish.ensures.pages tables (subst (IsWholeFile tables) (sym last) whole) in
    let len = sym (c.finish.ensures.len ∙ ap len_of last) in
    record {
      live = search rules;
      clean = search rules;
      cards = search rules;
      domain = subst (λ (s : ℕ). is_domain_in tables.entries.items s ≡ true) (sym slot) held.domain;
      pages = pages.0;
      own = pages.1;
      some = subst (λ (n : ℕ). 1 ≤ n) len
          (some_last tables kept c.take_block.new.self held c.args.request.now c.in_ok-judged.judged.taken brought c.take_block.new.writes.items c.if-not-request.false stands);
      few = subst (λ (n : ℕ). pages_in tables + pages_of n ≤ LOAD_PAGES) len
          (few_last tables kept c.take_block.new.self held c.args.request.now c.in_ok-judged.judged.taken brought c.take_block.new.writes.items c.if-not-request.false stands);
      fresh = subst (NoneHas tables) (sym aid) held.fresh;
      free = held.free c.tables.ensures.roomy.slots.files;
      able = search rules;
      empty = search rules;
    }

pub returns-clause-done : goal.returns-clause-done
returns-clause-done g c page admitted whole shows sound acts on asked =
    let says = shows.says in
    let loads = shows.loading in
    let tables = c.args.records.now.tables in
    let live = c.args.channels.now.live in
    let kept = c.unwrap-session.result.now in
    let name = c.in_ok-name.name in
    let request = c.args.request.now in
    let taken = c.in_ok-judged.judged.taken in
    let writes = c.take_block.new.writes.items in
    let at : c.args.channels.now.loading.session ≡ Some kept = search rules in
    let same : kept ≡ c.unwrap-session-2.result.now = search rules in
    let last : c.unwrap-session-3.result ≡ c.take_block.new.self = search rules in
    let front = rw c.tables.ensures.tables at c.in_ok-name.ensures.passed in
    let is_for = for_block page tables live c.args.channels.now.loading.session kept name c.args.domain c.args.channel request admitted at c.in_ok-name.ensures.name on whole acts says sound loads asked.means
    (front page admitted acts (record { named = says.load; on = on }) asked.means) in
    let passed = rw c.tables-2.ensures.tables at c.in_ok-judged.ensures.passed in
    let brought = rw c.tables-2.ensures.tables at c.in_ok-judged.ensures.taken in
    let finds = rw c.tables-2.ensures.tables at c.in_ok-judged.ensures.receipter in
    let new = rw c.tables-3.ensures.tables at c.take_block.ensures.writes in
    let stands = rw c.tables-3.ensures.tables at c.take_block.ensures.stands in
    let load = (load_on page tables kept name c.args.domain request admitted is_for).load in
    let next = with_block load taken.size (drop taken.start request.block.now) in
    let before = subst (λ (k : LoadSession). RepresentsLoad page tables k load) same (load_stands page tables kept name c.args.domain request admitted is_for) in
    let after = subst (λ (b : Bool). RepresentsAfter b (pages_after page writes) tables c.take_block.new.self next) c.if-not-request.false (stands page load whole before) in
    let file = c.finish.ensures.file (pages_after page writes) tables next (subst (λ (k : LoadSession). RepresentsWhole (pages_after page writes) tables k next) (sym last) after) in
    let done = last_loaded page tables live kept name c.args.domain request admitted is_for asked.form says (passed page admitted is_for) taken brought writes new.own.free
    c.if-not-request.false c.finish.result file c.in_ok-judged.judged.receipter (finds page admitted acts c.if-not-request.false) c.add_loaded.new.records.tables c.add_loaded.ensures.aids
    c.add_loaded.new.reply.items c.add_loaded.ensures.added in
    let So : Live → Option LoadSession → Type 0 = (λ (l : Live) (session : Option LoadSession).
    IsLoaded admitted (pages_after page writes) c.add_loaded.new.records.tables l session c.add_loaded.new.reply.items (record { 0 = 0x9000 })) in
    subst (So c.end_load.new.self) (sym c.take.ensures.after) (subst (λ (l : Live). So l None) (sym (c.end_load.ensures ∙ ap (live_without_load live) on)) done)
