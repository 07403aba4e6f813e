use Rattle.std.proofs.Common.{◌++◌, subst, ◌∙◌}
use Rattle.load_session.proofs.Digests.{sha1_fits, sha256_fits}
use Rattle.load_session.specs.Hash.{IsFed}
use Rattle.load_session.proofs.hash.RunningHash.fits.Goals as goal

pub returns-in-OfSha1 : goal.returns-in-OfSha1
returns-in-OfSha1 c before fed =
    let is = subst (λ kind. IsFed c.args.hash.now kind before) c.in-OfSha1.is fed in
    sha1_fits c.args.hash.now (before ++ c.args.bytes.now) c.as_slice.result.now c.eq.result is.0 (c.as_slice.ensures ∙ c.sha1_with.ensures before is.1) c.eq.ensures

pub returns-in-OfSha256 : goal.returns-in-OfSha256
returns-in-OfSha256 c before fed =
    let is = subst (λ kind. IsFed c.args.hash.now kind before) c.in-OfSha256.is fed in
    sha256_fits c.args.hash.now (before ++ c.args.bytes.now) c.as_slice-in-OfSha256.result.now c.eq-in-OfSha256.result is.0
    (c.as_slice-in-OfSha256.ensures ∙ c.sha256_with.ensures before is.1) c.eq-in-OfSha256.ensures
