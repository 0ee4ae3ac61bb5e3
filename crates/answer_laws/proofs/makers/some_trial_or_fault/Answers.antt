use Rattle.answer_laws.proofs.TrialExists.{some_trial}
use Rattle.answer_laws.proofs.makers.some_trial_or_fault.Goals as goal

pub returns : goal.returns
returns c = some_trial
