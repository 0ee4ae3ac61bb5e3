use Rattle.cert_laws.proofs.OneCertificateLemmas.{is_only}
use Rattle.cert_laws.proofs.laws.one_certificate_of_a_circuit.Goals as goal

pub returns : goal.returns
returns c = is_only
