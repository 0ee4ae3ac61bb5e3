use Rattle.gf_abs.proofs.CertificateHeadlineLemmas.{upgrade_says}
use Rattle.gf_abs.proofs.headline.upgrade_keeps_claim_and_pairs.Goals as goal

pub returns : goal.returns
returns c = upgrade_says
