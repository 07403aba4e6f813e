use Rattle.std.proofs.Common.{◌≡◌, [], ◌∷◌, ◌∙◌, None, Some, ap, inl, inr, length, refl, rules, sym, subst}
use Rattle.card_core.specs.Prelude.{ActsIn, IsInOrder, IsKeyLength, IsRequestOf, IsWellFormed, RepresentsSecureChannel, command_form, key_rules, managed_put_key, secure_channel_for, sent_key, version_rules}
use Rattle.policy_machine.proofs.FirstJoined.{first_after, first_within}
use Rattle.policy_machine.proofs.PutKeyLaws.{put_judged}
use Rattle.card_core.specs.declared.put_key.PutKeyRequest.{PutKeyRequest}
use Rattle.policy_rules.specs.declared.put_key.SealedKey.{SealedKey}
use Rattle.policy_rules.specs.declared.put_key.PutKeys.TheVariants.{One, Three}
use Rattle.policy_rules.specs.declared.request.Request.TheVariants.{PutKey}
use Rattle.card_core.proofs.Answered.{entries_selected}
use Rattle.card_core.proofs.Cards.{in_order}
use Rattle.card_core.proofs.FreePages.{files_free}
use Rattle.card_core.proofs.PutKeyBrought.{IsFormedOne, IsFormedSet, brought, checks_said, formed_one, formed_set, one_length, three_lengths}
use Rattle.card_core.proofs.PutKeyDone.{body_one, body_three, fits_one, fits_three, judged_by, put_managed}
use Rattle.card_core.proofs.Managing.{refusal_managed}
use Rattle.card_core.proofs.PutKeyTables.{put_cards, puts_lent}
use Rattle.card_core.proofs.put_key.PutKeyRequestManagedRequest.manage.Goals as goal

-- the keys of a well-formed request
one_of : (put : PutKeyRequest) (sent : SealedKey) → put.keys.now ≡ One sent → IsWellFormed (PutKey put.replaced put.version put.keys.now) → IsFormedOne put.replaced put.version sent
one_of put sent is formed = formed_one put.replaced put.version sent (subst (λ k. IsWellFormed (PutKey put.replaced put.version k)) is formed)

set_of : (put : PutKeyRequest) (enc mac dek : SealedKey) → put.keys.now ≡ Three enc mac dek → IsWellFormed (PutKey put.replaced put.version put.keys.now)
    → IsFormedSet put.replaced put.version enc mac dek
set_of put enc mac dek is formed = formed_set put.replaced put.version enc mac dek (subst (λ k. IsWellFormed (PutKey put.replaced put.version k)) is formed)

pub returns-in_err-judge_put_versions-clause-done : goal.returns-in_err-judge_put_versions-clause-done
returns-in_err-judge_put_versions-clause-done g c page admitted acts says channels request holds =
    let rule = c.in_err-judge_put_versions.field-0.0 in
    let refused = c.in_err-judge_put_versions.ensures.refused page admitted c.args.self.now.keys.now (subst (λ t. ActsIn page t c.args.acting.now.domain admitted) (sym c.tables.ensures.tables) acts) request in
    let first = first_within ((command_form managed_put_key).fails admitted) key_rules version_rules rule refused in
    refusal_managed admitted page c.args.records.now.tables c.args.reply.now.items c.from_residual.result rule c.from_residual.ensures.1
    (put_judged admitted (Some rule) request.form first) c.requires.empty

pub open_key-key-requires : goal.open_key-key-requires
open_key-key-requires g c =
    let form = one_of c.args.self.now c.in-One.sent c.in-One.is c.requires.formed in
    record { size = form.lengths.size; sealed = form.lengths.sealed }

pub judge_put_keys-requires : goal.judge_put_keys-requires
judge_put_keys-requires g c = record { in_order = subst IsInOrder (sym c.tables-in-One.ensures.tables) (in_order c.args.records.now.tables c.requires.cards) }

pub returns-in_err-judge_put_keys-in-One-clause-done : goal.returns-in_err-judge_put_keys-in-One-clause-done
returns-in_err-judge_put_keys-in-One-clause-done g c page admitted acts says channels request holds =
    let sent = c.in-One.sent in
    let key = c.open_key-key.result.bytes.items in
    let asked = subst (λ k. IsRequestOf (PutKey c.args.self.now.replaced c.args.self.now.version k) admitted.command) c.in-One.is request in
    let secured = subst (λ h. RepresentsSecureChannel h (secure_channel_for admitted)) c.in-Secured.is holds in
    let checks = checks_said admitted c.args.self.now.replaced c.args.self.now.version (One sent) asked c.in-Secured.session secured (key ∷ []) (λ session stands. (c.open_key-key.ensures.key session stands, tt))
    c.open_key-key.result.fits (fits_one c.open_key-key.result.fits (sent_key sent) key c.open_key-key.ensures.fits) in
    let before = c.in_ok-judge_put_versions.ensures.passed page admitted c.args.self.now.keys.now (subst (λ t. ActsIn page t c.args.acting.now.domain admitted) (sym c.tables.ensures.tables) acts) request in
    let refused = c.in_err-judge_put_keys-in-One.ensures.refused page admitted c.args.self.now.version
    (subst (λ t. ActsIn page t c.args.acting.now.domain admitted) (sym c.tables-in-One.ensures.tables) acts) request checks in
    let first = first_after ((command_form managed_put_key).fails admitted) key_rules version_rules (Some c.in_err-judge_put_keys-in-One.field-0.0) before refused in
    refusal_managed admitted page c.args.records.now.tables c.args.reply.now.items c.from_residual-in_err-judge_put_keys-in-One.result c.in_err-judge_put_keys-in-One.field-0.0
    c.from_residual-in_err-judge_put_keys-in-One.ensures.1
    (put_judged admitted (Some c.in_err-judge_put_keys-in-One.field-0.0) request.form first) c.requires.empty

-- the rest of the token or receipt key
pub write_check-requires-clause-size : goal.write_check-requires-clause-size
write_check-requires-clause-size g c =
    (one_of c.args.self.now c.in-One.sent c.in-One.is c.requires.formed).lengths.check

pub place_one-requires-clause-length : goal.place_one-requires-clause-length
place_one-requires-clause-length g c =
    let form = one_of c.args.self.now c.in-One.sent c.in-One.is c.requires.formed in
    subst IsKeyLength (sym (ap length c.deref.ensures.0 ∙ c.open_key-key.ensures.length)) form.lengths.size

pub place_one-requires-clause-judged : goal.place_one-requires-clause-judged
place_one-requires-clause-judged g c =
    judged_by c.args.acting.now.domain c.args.self.now.replaced c.args.self.now.version c.tables.result.now c.tables-in-One.result.now c.args.records.now.tables c.args.self.now.keys.now (One c.in-One.sent)
    c.tables.ensures.tables c.tables-in-One.ensures.tables c.in-One.is c.in_ok-judge_put_versions.ensures.known c.in_ok-judge_put_versions.ensures.free
    (c.in_ok-judge_put_keys-in-One.ensures.roomy c.args.self.now.version)

pub open_key-enc-requires : goal.open_key-enc-requires
open_key-enc-requires g c =
    let form = set_of c.args.self.now c.in-Three.first c.in-Three.second c.in-Three.third c.in-Three.is c.requires.formed in
    record { size = form.enc_lengths.size; sealed = form.enc_lengths.sealed }

pub open_key-mac-requires : goal.open_key-mac-requires
open_key-mac-requires g c =
    let form = set_of c.args.self.now c.in-Three.first c.in-Three.second c.in-Three.third c.in-Three.is c.requires.formed in
    record { size = form.mac_lengths.size; sealed = form.mac_lengths.sealed }

pub open_key-kek-requires : goal.open_key-kek-requires
open_key-kek-requires g c =
    let form = set_of c.args.self.now c.in-Three.first c.in-Three.second c.in-Three.third c.in-Three.is c.requires.formed in
    record { size = form.dek_lengths.size; sealed = form.dek_lengths.sealed }

pub judge_put_keys-requires-in-Three : goal.judge_put_keys-requires-in-Three
judge_put_keys-requires-in-Three g c = record { in_order = subst IsInOrder (sym c.tables-in-Three.ensures.tables) (in_order c.args.records.now.tables c.requires.cards) }

pub write_check-requires-in-Three-clause-size : goal.write_check-requires-in-Three-clause-size
write_check-requires-in-Three-clause-size g c =
    (set_of c.args.self.now c.in-Three.first c.in-Three.second c.in-Three.third c.in-Three.is c.requires.formed).enc_lengths.check

pub write_check-requires-in-Three-2-clause-size : goal.write_check-requires-in-Three-2-clause-size
write_check-requires-in-Three-2-clause-size g c =
    (set_of c.args.self.now c.in-Three.first c.in-Three.second c.in-Three.third c.in-Three.is c.requires.formed).mac_lengths.check

pub write_check-requires-in-Three-3-clause-size : goal.write_check-requires-in-Three-3-clause-size
write_check-requires-in-Three-3-clause-size g c =
    (set_of c.args.self.now c.in-Three.first c.in-Three.second c.in-Three.third c.in-Three.is c.requires.formed).dek_lengths.check

pub place_set-requires-clause-lengths : goal.place_set-requires-clause-lengths
place_set-requires-clause-lengths g c =
    let form = set_of c.args.self.now c.in-Three.first c.in-Three.second c.in-Three.third c.in-Three.is c.requires.formed in
    let enc = ap length c.deref-in-Three.ensures.0 ∙ c.open_key-enc.ensures.length in (
      subst IsKeyLength (sym enc) form.enc_lengths.size,
      ap length c.deref-in-Three-2.ensures.0 ∙ c.open_key-mac.ensures.length ∙ form.mac_size ∙ sym enc,
      ap length c.deref-in-Three-3.ensures.0 ∙ c.open_key-kek.ensures.length ∙ form.dek_size ∙ sym enc,
    )

pub place_set-requires-clause-judged : goal.place_set-requires-clause-judged
place_set-requires-clause-judged g c =
    judged_by c.args.acting.now.domain c.args.self.now.replaced c.args.self.now.version c.tables.result.now c.tables-in-Three.result.now c.args.records.now.tables c.args.self.now.keys.now
    (Three c.in-Three.first c.in-Three.second c.in-Three.third) c.tables.ensures.tables c.tables-in-Three.ensures.tables c.in-Three.is
    c.in_ok-judge_put_versions.ensures.known c.in_ok-judge_put_versions.ensures.free (c.in_ok-judge_put_keys-in-Three.ensures.roomy c.args.self.now.version)

pub returns-in_err-judge_put_keys-in-Three-clause-done : goal.returns-in_err-judge_put_keys-in-Three-clause-done
returns-in_err-judge_put_keys-in-Three-clause-done g c page admitted acts says channels request holds =
    let keys = Three c.in-Three.first c.in-Three.second c.in-Three.third in
    let asked = subst (λ k. IsRequestOf (PutKey c.args.self.now.replaced c.args.self.now.version k) admitted.command) c.in-Three.is request in
    let secured = subst (λ h. RepresentsSecureChannel h (secure_channel_for admitted)) c.in-Secured.is holds in
    let checks = checks_said admitted c.args.self.now.replaced c.args.self.now.version keys asked c.in-Secured.session secured
    (c.open_key-enc.result.bytes.items ∷ c.open_key-mac.result.bytes.items ∷ c.open_key-kek.result.bytes.items ∷ [])
    (λ session stands. (c.open_key-enc.ensures.key session stands, (c.open_key-mac.ensures.key session stands, (c.open_key-kek.ensures.key session stands, tt)))) c.all_fit-fit.result
    (fits_three c.open_key-enc.result.fits c.open_key-mac.result.fits c.open_key-kek.result.fits c.all_fit-fit.result
    (sent_key c.in-Three.first) (sent_key c.in-Three.second) (sent_key c.in-Three.third) c.open_key-enc.result.bytes.items c.open_key-mac.result.bytes.items c.open_key-kek.result.bytes.items
    c.all_fit-fit.ensures c.open_key-enc.ensures.fits c.open_key-mac.ensures.fits c.open_key-kek.ensures.fits) in
    let before = c.in_ok-judge_put_versions.ensures.passed page admitted c.args.self.now.keys.now (subst (λ t. ActsIn page t c.args.acting.now.domain admitted) (sym c.tables.ensures.tables) acts) request in
    let refused = c.in_err-judge_put_keys-in-Three.ensures.refused page admitted c.args.self.now.version
    (subst (λ t. ActsIn page t c.args.acting.now.domain admitted) (sym c.tables-in-Three.ensures.tables) acts) request checks in
    let first = first_after ((command_form managed_put_key).fails admitted) key_rules version_rules (Some c.in_err-judge_put_keys-in-Three.field-0.0) before refused in
    refusal_managed admitted page c.args.records.now.tables c.args.reply.now.items c.from_residual-in_err-judge_put_keys-in-Three.result c.in_err-judge_put_keys-in-Three.field-0.0
    c.from_residual-in_err-judge_put_keys-in-Three.ensures.1
    (put_judged admitted (Some c.in_err-judge_put_keys-in-Three.field-0.0) request.form first) c.requires.empty

pub returns-in_ok-judge_put_keys-in-One : goal.returns-in_ok-judge_put_keys-in-One
returns-in_ok-judge_put_keys-in-One g c =
    let put = c.args.self.now in
    let before = c.args.records.now.tables in
    let after = c.place_one.new.keeper.tables in
    let same = c.place_one.ensures.same_else in
    let sent = c.in-One.sent in
    let key = c.open_key-key.result.bytes.items in
    let form = one_of put sent c.in-One.is c.requires.formed in
    let judged = judged_by c.args.acting.now.domain put.replaced put.version c.tables.result.now c.tables-in-One.result.now before put.keys.now (One sent) c.tables.ensures.tables c.tables-in-One.ensures.tables c.in-One.is
    c.in_ok-judge_put_versions.ensures.known c.in_ok-judge_put_versions.ensures.free (c.in_ok-judge_put_keys-in-One.ensures.roomy put.version) in
    let puts = puts_lent c.args.acting.now.domain put.replaced put.version before.keys.items after.keys.items (c.deref.result.now ∷ []) (key ∷ []) (λ i. c.deref.ensures.0 i ∷ []) c.place_one.ensures.put in
    let lengths = one_length sent key form.lengths c.open_key-key.ensures.length in
    record {
      done = λ page admitted acts says channels request holds.
          (let asked = subst (λ k. IsRequestOf (PutKey put.replaced put.version k) admitted.command) c.in-One.is request in
          let secured = subst (λ h. RepresentsSecureChannel h (secure_channel_for admitted)) c.in-Secured.is holds in
          let brings = brought admitted put.replaced put.version (One sent) asked c.in-Secured.session secured (key ∷ []) (λ session stands. (c.open_key-key.ensures.key session stands, tt)) in
          let checks = checks_said admitted put.replaced put.version (One sent) asked c.in-Secured.session secured (key ∷ []) (λ session stands. (c.open_key-key.ensures.key session stands, tt))
          c.open_key-key.result.fits (fits_one c.open_key-key.result.fits (sent_key sent) key c.open_key-key.ensures.fits) in
          let versions = c.in_ok-judge_put_versions.ensures.passed page admitted put.keys.now (subst (λ t. ActsIn page t c.args.acting.now.domain admitted) (sym c.tables.ensures.tables) acts) request in
          let passed = c.in_ok-judge_put_keys-in-One.ensures.passed page admitted put.version (subst (λ t. ActsIn page t c.args.acting.now.domain admitted) (sym c.tables-in-One.ensures.tables) acts) request checks in
          let first = first_after ((command_form managed_put_key).fails admitted) key_rules version_rules None versions passed in
          put_managed before after same.life same.entries same.files same.objects c.args.acting.now.domain put.replaced put.version (key ∷ []) puts lengths (inr (form.new, refl)) judged c.requires.domain
          page admitted acts (One sent) asked brings c.write_check.new.reply.items _ (put_judged admitted None request.form first)
          (body_one put.version (sent_key sent) c.args.reply.now.items c.push.new.self.items c.write_check.new.reply.items c.requires.empty c.push.ensures.items c.write_check.ensures.written) refl);
      selected = entries_selected c.args.acting.now.live.now before.entries.items after.entries.items same.entries;
      free = files_free before after same.files;
      cards = put_cards before after same.life same.entries same.files same.objects c.args.acting.now.domain put.replaced put.version (key ∷ []) puts lengths (inr (form.new, refl)) judged c.requires.domain c.requires.cards;
      same = search rules;
      refused = search rules;
      room = search rules;
    }

pub returns-in_ok-judge_put_keys-in-Three : goal.returns-in_ok-judge_put_keys-in-Three
returns-in_ok-judge_put_keys-in-Three g c =
    let put = c.args.self.now in
    let before = c.args.records.now.tables in
    let after = c.place_set.new.keeper.tables in
    let same = c.place_set.ensures.same_else in
    let one = c.in-Three.first in
    let two = c.in-Three.second in
    let three = c.in-Three.third in
    let enc = c.open_key-enc in
    let mac = c.open_key-mac in
    let kek = c.open_key-kek in
    let keys = Three one two three in
    let bytes = enc.result.bytes.items ∷ mac.result.bytes.items ∷ kek.result.bytes.items ∷ [] in
    let form = set_of put one two three c.in-Three.is c.requires.formed in
    let judged = judged_by c.args.acting.now.domain put.replaced put.version c.tables.result.now c.tables-in-Three.result.now before put.keys.now keys c.tables.ensures.tables c.tables-in-Three.ensures.tables c.in-Three.is
    c.in_ok-judge_put_versions.ensures.known c.in_ok-judge_put_versions.ensures.free (c.in_ok-judge_put_keys-in-Three.ensures.roomy put.version) in
    let puts = puts_lent c.args.acting.now.domain put.replaced put.version before.keys.items after.keys.items (c.deref-in-Three.result.now ∷ c.deref-in-Three-2.result.now ∷ c.deref-in-Three-3.result.now ∷ []) bytes
    (λ i. c.deref-in-Three.ensures.0 i ∷ c.deref-in-Three-2.ensures.0 i ∷ c.deref-in-Three-3.ensures.0 i ∷ []) c.place_set.ensures.put in
    let lengths = three_lengths put.replaced put.version one two three _ _ _ form enc.ensures.length mac.ensures.length kek.ensures.length in
    record {
      done = λ page admitted acts says channels request holds.
          (let asked = subst (λ k. IsRequestOf (PutKey put.replaced put.version k) admitted.command) c.in-Three.is request in
          let secured = subst (λ h. RepresentsSecureChannel h (secure_channel_for admitted)) c.in-Secured.is holds in
          let brings = brought admitted put.replaced put.version keys asked c.in-Secured.session secured bytes
          (λ session stands. (enc.ensures.key session stands, (mac.ensures.key session stands, (kek.ensures.key session stands, tt)))) in
          let checks = checks_said admitted put.replaced put.version keys asked c.in-Secured.session secured bytes
          (λ session stands. (enc.ensures.key session stands, (mac.ensures.key session stands, (kek.ensures.key session stands, tt)))) c.all_fit-fit.result
          (fits_three enc.result.fits mac.result.fits kek.result.fits c.all_fit-fit.result (sent_key one) (sent_key two) (sent_key three) enc.result.bytes.items mac.result.bytes.items kek.result.bytes.items
          c.all_fit-fit.ensures enc.ensures.fits mac.ensures.fits kek.ensures.fits) in
          let versions = c.in_ok-judge_put_versions.ensures.passed page admitted put.keys.now (subst (λ t. ActsIn page t c.args.acting.now.domain admitted) (sym c.tables.ensures.tables) acts) request in
          let passed = c.in_ok-judge_put_keys-in-Three.ensures.passed page admitted put.version (subst (λ t. ActsIn page t c.args.acting.now.domain admitted) (sym c.tables-in-Three.ensures.tables) acts) request checks in
          let first = first_after ((command_form managed_put_key).fails admitted) key_rules version_rules None versions passed in
          put_managed before after same.life same.entries same.files same.objects c.args.acting.now.domain put.replaced put.version bytes puts lengths (inl (form.new.0, form.new.1, refl)) judged c.requires.domain
          page admitted acts keys asked brings c.write_check-in-Three-3.new.reply.items _ (put_judged admitted None request.form first)
          (body_three put.version (sent_key one) (sent_key two) (sent_key three) c.args.reply.now.items c.push-in-Three.new.self.items
          c.write_check-in-Three.new.reply.items c.write_check-in-Three-2.new.reply.items c.write_check-in-Three-3.new.reply.items c.requires.empty c.push-in-Three.ensures.items
          c.write_check-in-Three.ensures.written c.write_check-in-Three-2.ensures.written c.write_check-in-Three-3.ensures.written) refl);
      selected = entries_selected c.args.acting.now.live.now before.entries.items after.entries.items same.entries;
      free = files_free before after same.files;
      cards = put_cards before after same.life same.entries same.files same.objects c.args.acting.now.domain put.replaced put.version bytes puts lengths (inl (form.new.0, form.new.1, refl)) judged c.requires.domain c.requires.cards;
      same = search rules;
      refused = search rules;
      room = search rules;
    }
