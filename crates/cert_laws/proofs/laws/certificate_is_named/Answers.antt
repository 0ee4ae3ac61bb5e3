use Rattle.cert_laws.proofs.NamedLemmas.{is_named}
use Rattle.cert_laws.proofs.laws.certificate_is_named.Goals as goal

pub returns : goal.returns
returns c = is_named
