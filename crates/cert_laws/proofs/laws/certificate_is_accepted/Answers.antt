use Rattle.cert_laws.proofs.AcceptedLemmas.{is_accepted}
use Rattle.cert_laws.proofs.laws.certificate_is_accepted.Goals as goal

pub returns : goal.returns
returns c = is_accepted
