use Rattle.std.proofs.Common.{sym}
use Rattle.net_aiger.proofs.ReadLemmas.{not_made, not_sound}
use Rattle.net_aiger.proofs.read.net_of.Goals as goal

pub returns-in-Err-clause-fault : goal.returns-in-Err-clause-fault
returns-in-Err-clause-fault c = not_made c.args.reader.now (sym c.in_ok-check_known.ensures) c.in_ok-check_names.ensures.made c.in-Err.fault c.fault_of.result c.in-Err.ensures.fault c.fault_of.ensures

pub returns-in-Err-finish-clause-fault : goal.returns-in-Err-finish-clause-fault
returns-in-Err-finish-clause-fault c =
    not_sound c.args.reader.now (sym c.in_ok-check_known.ensures) c.in_ok-check_names.ensures.made c.in-Ok.maker c.in-Ok.ensures.made c.in-Err-finish.fault c.fault_of-in-Err-finish.result c.in-Err-finish.ensures c.fault_of-in-Err-finish.ensures
