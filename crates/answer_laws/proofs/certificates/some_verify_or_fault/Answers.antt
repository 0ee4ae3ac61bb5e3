use Rattle.answer_laws.proofs.CertificatesExist.{some_verify}
use Rattle.answer_laws.proofs.certificates.some_verify_or_fault.Goals as goal

pub returns : goal.returns
returns c = λ held bytes setting is net certificate bound cycles. some_verify held bytes setting is net certificate bound cycles
