use Rattle.cert_check.proofs.KeptLemmas.{claim_refused}
use Rattle.cert_check.proofs.line.words_polynomial.Goals as goal

pub returns-in-Err-clause-value : goal.returns-in-Err-clause-value
returns-in-Err-clause-value c = claim_refused c.args.labels.now c.args.k c.args.text.now c.in-Err.fault c.claim_fault.result c.claim_fault.ensures c.in-Err.ensures.outcome
