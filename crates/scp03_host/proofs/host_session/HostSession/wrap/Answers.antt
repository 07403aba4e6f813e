use Rattle.std.proofs.Common.{◌≡◌, ◌∙◌, ◌+◌, ◌-◌, ◌%◌, ◌^◌, ◌++◌, List, [], ℕ, ap, subst, sym, length, take, arith}
use Rattle.std.proofs.lemmas.Slice.{take-put_mid}
use Rattle.apdu_core.specs.Apdu.{Short, apdu_of}
use Rattle.scp03_card.specs.Kept.{HasSessionKeys, KeptSession}
use Rattle.scp03_card.specs.Session.{c_mac}
use Rattle.scp03_card.proofs.Lengths.{length-c_mac}
use Rattle.scp03_card.proofs.SessionLemmas.{kept_next_number}
use Rattle.scp03_host.specs.Wrapped.{as_sent, having_sent, message_of}
use Rattle.scp03_host.proofs.SentLemmas.{number_of_next}
use Rattle.scp03_host.proofs.host_session.HostSession.wrap.Goals as goal

pub returns-clause-sent : goal.returns-clause-sent
returns-clause-sent g c = λ session stands.
    let keys : HasSessionKeys c.self.inside.keys session.offer = subst (λ (k : KeptSession). HasSessionKeys k.keys session.offer) (sym c.self.view_is) stands.keys in
    let level = ap (λ (k : KeptSession). k.level) c.self.view_is ∙ stands.level in
    let number = kept_next_number c.args.self.now session stands [] _ (ap (λ (k : KeptSession). (k.number + 1) % 2 ^ 128) c.self.view_is) ∙ number_of_next session [] in
    let field = c.write_field-len.ensures.field session keys level number in
    let mac : c.copy_from_slice.new.self ≡ c_mac (having_sent session (apdu_of c.args.plain.now)) =
    c.copy_from_slice.ensures.after ∙ ap (take 8) (c.chain_after-chain.ensures session stands field) in
    let body = take-put_mid c.write_field-len.result (c.write_field-len.result + 8 - c.write_field-len.result) c.write_field-len.new.body c.copy_from_slice.new.self (c.write_field-len.result + 8)
    (omega (arith, ap length mac, length-c_mac session (message_of session (apdu_of c.args.plain.now))))
    (omega (arith, c.write_field-len.array_long, c.write_field-len.ensures.length))
    ∙ (λ i. field i ++ mac i) in
    subst (λ (b : List ℕ). Short (as_sent (apdu_of c.args.plain.now) c.args.channel b) c.write.new.out.items) body (rw c.on_channel.ensures at c.write.ensures.spelled)
