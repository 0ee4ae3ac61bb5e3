use Rattle.job_io.proofs.file_shelf.read_file.Goals as goal

pub returns-in-Err-clause-too_long : goal.returns-in-Err-clause-too_long
returns-in-Err-clause-too_long g c = λ n is. absurd (c.fault_of.ensures.not_long n is)
