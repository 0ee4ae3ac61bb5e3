use Rattle.net_write.proofs.RoundTripLemmas.{is_flat, is_read, is_same, no_fault, no_flat_fault}
use Rattle.net_write.proofs.laws.written_net_is_read_back.Goals as goal

pub returns-clause-read : goal.returns-clause-read
returns-clause-read c = λ net sound plain. is_read net sound plain

pub returns-clause-no_fault : goal.returns-clause-no_fault
returns-clause-no_fault c = λ net fault sound plain. no_fault net sound plain fault

pub returns-clause-flat : goal.returns-clause-flat
returns-clause-flat c = λ net design sound plain. is_flat net sound plain design

pub returns-clause-no_flat_fault : goal.returns-clause-no_flat_fault
returns-clause-no_flat_fault c = λ net design fault sound plain. no_flat_fault net sound plain design fault

pub returns-clause-same : goal.returns-clause-same
returns-clause-same c = λ net other sound plain back. is_same net sound plain back.0 other back.1 back.2
