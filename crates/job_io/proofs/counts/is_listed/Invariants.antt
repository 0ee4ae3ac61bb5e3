use Rattle.std.proofs.Common.{◌≡◌, drop}
use Rattle.job_io.specs.Counts.{is_listed}
use Rattle.job_io.proofs.counts.is_listed.Given as goal

-- the numbers so far are others
abbrev pub invariant-loop-listed : goal.invariant-loop-listed
invariant-loop-listed l = is_listed (drop l.listed-index l.numbers) l.number ≡ is_listed l.numbers l.number
