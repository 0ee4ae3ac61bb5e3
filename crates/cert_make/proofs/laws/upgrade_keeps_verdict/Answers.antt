use Rattle.cert_make.proofs.UpgradeLemmas.{keeps_verdict}
use Rattle.cert_make.proofs.laws.upgrade_keeps_verdict.Goals as goal

pub returns : goal.returns
returns c = λ k mul bound bases labels most other bytes upgraded first second ring field are short up one two. keeps_verdict k mul ring field bound bases labels most other bytes upgraded first second are short up one two
