-- A load session beside commands that change the tables.
use Rattle.std.proofs.Common.{ℕ, List, ◌++◌, ap, ◌∙◌}
use Rattle.std.specs.List.{concat}
use Rattle.std.proofs.lemmas.List.Elements.{All-contains}
use Rattle.card_check.proofs.LoadPagesNamed.{all_of_members}
use Rattle.load_session.proofs.PagesKept.{same_pages}
use Rattle.load_session.specs.Prelude.{IsFree, ReadyStays, SessionStays}

pub ready_stays : ReadyStays
ready_stays before after kept stay ready =
    let pages = kept.paged.pages.items in
    record {
      own = record {
        range = ready.own.range;
        apart = ready.own.apart;
        free = all_of_members (IsFree after) pages (λ page there. stay page there (All-contains (IsFree before) pages page ready.own.free there));
      };
      part = ready.part;
    }

pub session_stays : SessionStays
session_stays page then before after kept load stay hold domain stands = record {
  of = record {
    aid = stands.of.aid;
    domain = domain ∙ stands.of.domain;
    hash = stands.of.hash;
    announced = stands.of.announced;
    blocks = stands.of.blocks;
  };
  ready = ready_stays before after kept stay stands.ready;
  bytes = ap (λ (pages : List (List ℕ)). concat pages ++ kept.paged.rest.items) (same_pages page then kept.paged.pages.items hold) ∙ stands.bytes;
  fed = stands.fed;
}
