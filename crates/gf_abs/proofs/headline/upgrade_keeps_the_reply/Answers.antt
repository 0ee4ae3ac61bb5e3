use Rattle.gf_abs.proofs.CertificateHeadlineLemmas.{upgrade_keeps}
use Rattle.gf_abs.proofs.headline.upgrade_keeps_the_reply.Goals as goal

pub returns : goal.returns
returns c = λ files others words before after signature net certificate upgraded cycles reply first second answers one kept. upgrade_keeps files others signature net certificate upgraded cycles one words reply before after first second answers kept
