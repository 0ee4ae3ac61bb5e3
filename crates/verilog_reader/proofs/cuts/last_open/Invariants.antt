use Rattle.std.proofs.Common.{◌≤◌, length, drop}
use Rattle.verilog_reader.proofs.NumeralLemmas.{NoOpen}
use Rattle.verilog_reader.proofs.cuts.last_open.Given as goal

abbrev pub invariant-loop-cut : goal.invariant-loop-cut
invariant-loop-cut l = record { none : NoOpen (drop l.cut l.name); within : l.cut ≤ length l.name }

abbrev pub decreases-loop-cut : goal.decreases-loop-cut
decreases-loop-cut l = l.cut
