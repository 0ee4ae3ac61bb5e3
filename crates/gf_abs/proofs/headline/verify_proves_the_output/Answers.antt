use Rattle.gf_abs.proofs.CertificateHeadlineLemmas.{verify_proves}
use Rattle.gf_abs.proofs.headline.verify_proves_the_output.Goals as goal

pub returns : goal.returns
returns c = verify_proves
