use Rattle.cert_make.proofs.UpgradeLemmas.{keeps_pairs}
use Rattle.cert_make.proofs.laws.upgrade_keeps_pairs.Goals as goal

pub returns : goal.returns
returns c = λ k net labels bytes upgraded are short up. keeps_pairs k net labels are bytes upgraded short up
