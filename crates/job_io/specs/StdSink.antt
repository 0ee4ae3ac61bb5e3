-- What the sink of standard output has counted. Source: this project's own.
use Rattle.std.specs.Prelude.{ℕ}
use Rattle.job_io.specs.declared.std_sink.StdSink.{StdSink}

-- how many writes failed
abbrev pub std_faults : {R : Type 0} → StdSink R → ℕ
std_faults sink = sink.faults
