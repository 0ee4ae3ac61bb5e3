use Rattle.answer_laws.proofs.CertificatesExist.{some_upgrade}
use Rattle.answer_laws.proofs.certificates.some_upgrade_or_fault.Goals as goal

pub returns : goal.returns
returns c = λ held bytes setting is net certificate cycles. some_upgrade held bytes setting is net certificate 0 cycles
