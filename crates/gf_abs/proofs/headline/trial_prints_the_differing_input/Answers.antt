use Rattle.gf_abs.proofs.TrialHeadlineLemmas.{trial_faults, trial_prints}
use Rattle.gf_abs.proofs.headline.trial_prints_the_differing_input.Goals as goal

pub returns-clause-prints : goal.returns-clause-prints
returns-clause-prints c = trial_prints

pub returns-clause-faults : goal.returns-clause-faults
returns-clause-faults c = trial_faults
