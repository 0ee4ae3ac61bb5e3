use Rattle.verilog_reader.specs.private.Listed.{IsEach}
use Rattle.verilog_reader.proofs.FoundLemmas.{IsNoneBefore}
use Rattle.verilog_reader.proofs.bits.has_scalar.Given as goal

abbrev pub invariant-loop-index : goal.invariant-loop-index
invariant-loop-index l = record { each : IsEach l.declared l.name l.index-items; none : IsNoneBefore l.declared l.name l.low l.high l.index-items l.index-index }
