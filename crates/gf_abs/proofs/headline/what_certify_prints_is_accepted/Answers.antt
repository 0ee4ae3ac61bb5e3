use Rattle.gf_abs.proofs.CertificateHeadlineLemmas.{certify_accepted}
use Rattle.gf_abs.proofs.headline.what_certify_prints_is_accepted.Goals as goal

pub returns : goal.returns
returns c = certify_accepted
