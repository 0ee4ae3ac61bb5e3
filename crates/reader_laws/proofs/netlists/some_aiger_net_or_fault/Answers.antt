use Rattle.reader_laws.proofs.AigerExists.{some_net}
use Rattle.reader_laws.proofs.netlists.some_aiger_net_or_fault.Goals as goal

pub returns : goal.returns
returns c = some_net
