-- What a write counts. Source: this project's own.
use Rattle.std.specs.Prelude.{ℕ, Result, Ok, Err}
use Rattle.job_io.specs.Counts.{next_of}
use Rattle.job_io.specs.declared.sink.SinkFailed.{SinkFailed}

-- a write counts one more fault where it failed
abbrev pub sink_faults_after : Result ℕ SinkFailed → ℕ → ℕ
sink_faults_after (Ok _) count = count
sink_faults_after (Err _) count = next_of count
