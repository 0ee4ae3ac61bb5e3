use Rattle.job_input.proofs.FileLineLemmas.{cycles_keep, file_keeps, netlist_file_keeps, second_keeps, signed_keeps, specification_keeps, table_keeps}
use Rattle.job_input.proofs.laws.faults_keep_to_their_line.Goals as goal

pub returns-clause-signature : goal.returns-clause-signature
returns-clause-signature c = λ held name plain fault. signed_keeps held name fault plain

pub returns-clause-second : goal.returns-clause-second
returns-clause-second c = λ held name plain fault. second_keeps held name fault plain

pub returns-clause-netlist : goal.returns-clause-netlist
returns-clause-netlist c = λ held signature name names plain fault. netlist_file_keeps held signature name fault names plain

pub returns-clause-unrolled : goal.returns-clause-unrolled
returns-clause-unrolled c = λ name netlist cycles plain fault. cycles_keep name netlist cycles fault plain

pub returns-clause-specification : goal.returns-clause-specification
returns-clause-specification c = λ held labels k product name plain fault. specification_keeps held labels k product name fault plain

pub returns-clause-table : goal.returns-clause-table
returns-clause-table c = λ held k n name plain fault. table_keeps held k n name fault plain

pub returns-clause-file : goal.returns-clause-file
returns-clause-file c = λ held name plain fault. file_keeps held name fault plain
