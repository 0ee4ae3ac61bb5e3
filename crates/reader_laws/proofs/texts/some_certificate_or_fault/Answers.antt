use Rattle.reader_laws.proofs.CertificateExists.{some_certificate}
use Rattle.reader_laws.proofs.texts.some_certificate_or_fault.Goals as goal

pub returns : goal.returns
returns c = λ k net labels bytes some are. some_certificate k labels some are net bytes
