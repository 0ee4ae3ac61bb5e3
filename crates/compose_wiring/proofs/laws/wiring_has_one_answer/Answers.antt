use Rattle.compose_wiring.proofs.OneAnswerLemmas.{one_refusal, one_wiring, wired_apart}
use Rattle.compose_wiring.proofs.laws.wiring_has_one_answer.Goals as goal

pub returns-clause-wirings : goal.returns-clause-wirings
returns-clause-wirings c = λ h rows more output other one two. one_wiring h rows more output other one two

pub returns-clause-refusals : goal.returns-clause-refusals
returns-clause-refusals c = one_refusal

pub returns-clause-apart : goal.returns-clause-apart
returns-clause-apart c = wired_apart
