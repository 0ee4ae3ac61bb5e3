use Rattle.job_io.proofs.file_shelf.read_up_to.Goals as goal

pub returns-in-Err : goal.returns-in-Err
returns-in-Err g c = record {
  within = tt;
  too_long = λ n is. absurd (c.fault_of.ensures.not_long n is);
  all = tt;
  more = λ n is. absurd (c.fault_of.ensures.not_long n is);
}
