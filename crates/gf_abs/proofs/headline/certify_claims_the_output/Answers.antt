use Rattle.gf_abs.proofs.CertificateHeadlineLemmas.{certify_claims}
use Rattle.gf_abs.proofs.headline.certify_claims_the_output.Goals as goal

pub returns : goal.returns
returns c = certify_claims
