use Rattle.std.proofs.Common.{◌≡◌, drop}
use Rattle.net_aiger.specs.Spelling.{first_other}
use Rattle.net_aiger.proofs.header.first_other.Given as goal

-- the numbers so far are 0
abbrev pub invariant-loop-number : goal.invariant-loop-number
invariant-loop-number l = first_other (drop l.number-index l.numbers) ≡ first_other l.numbers
