use Rattle.reader_laws.proofs.CertificateExists.{some_verdict}
use Rattle.reader_laws.proofs.texts.some_verdict_or_fault.Goals as goal

pub returns : goal.returns
returns c = λ k mul netlist bases labels most bytes ring field are right. some_verdict k mul ring field netlist bases are labels right most bytes
