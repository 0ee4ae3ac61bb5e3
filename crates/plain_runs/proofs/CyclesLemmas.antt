-- What is a job with some number of cycles is one with none after the first.
use Rattle.std.proofs.Common.{ℕ, List}
use Rattle.net_core.specs.NetList.{NetList}
use Rattle.circuit_model.specs.declared.circuit_feed.CircuitFeed.{CircuitFeed}
use Rattle.circuit_model.specs.declared.circuit_word.CircuitWord.{CircuitWord}
use Rattle.circuit_model.specs.Job.{IsJob}
use Rattle.plain_runs.specs.JobOfParts.{job_of_parts}

pub without_cycles : (k : ℕ) (product : ℕ → ℕ → ℕ) (net : NetList) (words : List CircuitWord) (output : CircuitWord) (feeds : List CircuitFeed) (cycles : ℕ) → IsJob (job_of_parts k product net words output feeds cycles) → IsJob (job_of_parts k product net words output feeds 0)
without_cycles k product net words output feeds cycles job = record {
  ring = job.ring;
  no_zero_divisors = job.no_zero_divisors;
  sound = job.sound;
  few = job.few;
  words = job.words;
  inner = job.inner;
  once = job.once;
  places = job.places;
  output = job.output;
  output_role = job.output_role;
  output_nets = job.output_nets;
  feeds = λ feed has. let is = job.feeds feed has in record { input = is.input; unnamed = is.unnamed; source = is.source };
  starts = job.starts;
  covered = λ n free. job.covered n (record { input = free.input; unnamed = free.unnamed; unfed = free.unfed });
}
