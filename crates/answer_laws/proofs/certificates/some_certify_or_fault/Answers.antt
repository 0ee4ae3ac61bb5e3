use Rattle.answer_laws.proofs.CertificatesExist.{some_certify}
use Rattle.answer_laws.proofs.certificates.some_certify_or_fault.Goals as goal

pub returns : goal.returns
returns c = λ held bytes setting is net bound cycles. some_certify held bytes setting is net net bound cycles
