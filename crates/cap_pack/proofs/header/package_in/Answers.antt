use Rattle.std.proofs.Common.{◌≡◌, ◌++◌, List, ℕ, length, sym, ap, ◌∙◌}
use Rattle.cap_pack.proofs.Headers.{begins_with, after_unread, header_read, magic}
use Rattle.cap_pack.proofs.header.package_in.Goals as goal

pub returns-in-Some : goal.returns-in-Some
returns-in-Some c =
    let content : List ℕ = c.args.content.now in
    let begun = c.in_ok-unread.ensures.cases in
    let cut = c.in_ok-named.ensures.cases in
    let begins : content ≡ magic ++ c.in_ok-unread.unread.now =
    begins_with content c.as_slice.result.now c.in_ok-unread.unread.now c.as_slice.ensures begun.0 begun.1 in
    header_read content c.in_ok-unread.unread.now c.in_ok-named.named.now c.in-Some.found.0 c.in-Some.found.1.now begins cut.0 cut.2 (sym (ap length cut.1) ∙ cut.3) c.in-Some.ensures.aid c.in-Some.ensures.front

pub returns-in-None : goal.returns-in-None
returns-in-None c file header =
    let content : List ℕ = c.args.content.now in
    let begun = c.in_ok-unread.ensures.cases in
    let cut = c.in_ok-named.ensures.cases in
    let begins : content ≡ magic ++ c.in_ok-unread.unread.now =
    begins_with content c.as_slice.result.now c.in_ok-unread.unread.now c.as_slice.ensures begun.0 begun.1 in
    c.in-None.ensures.none file header.rest header.aid
    (after_unread content c.in_ok-unread.unread.now c.in_ok-named.named.now file begins cut.0 cut.2 (sym (ap length cut.1) ∙ cut.3) header)
