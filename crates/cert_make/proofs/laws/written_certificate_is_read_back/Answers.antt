use Rattle.cert_make.proofs.UpgradeLemmas.{written_is_read}
use Rattle.cert_make.proofs.laws.written_certificate_is_read_back.Goals as goal

pub returns : goal.returns
returns c = written_is_read
