use Rattle.gf_abs.proofs.OtherRefusalLemmas.{action_refused, never_stops}
use Rattle.gf_abs.proofs.refusals.each_command_is_refused_in_order.Goals as goal

pub returns-clause-refused : goal.returns-clause-refused
returns-clause-refused c = λ held words signature action fault spelled. action_refused held words signature action spelled fault

pub returns-clause-status : goal.returns-clause-status
returns-clause-status c = λ held words signature action fault spelled. never_stops held words signature action spelled fault
