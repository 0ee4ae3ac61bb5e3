-- What a sink in memory was given, its room, which writes it fails, and what it has counted.
-- Source: this project's own.
use Rattle.std.specs.Prelude.{ℕ, ◌-◌, List, length}
use Rattle.job_io.specs.declared.mem_sink.MemSink.{MemSink}

-- the bytes that were written
abbrev pub mem_written : MemSink → List ℕ
mem_written sink = sink.bytes.items

-- how many bytes it takes in all
abbrev pub mem_room : MemSink → ℕ
mem_room sink = sink.room

-- how many bytes it still takes
abbrev pub room_left : MemSink → ℕ
room_left sink = mem_room sink - length (mem_written sink)

-- the numbers of the writes that fail
abbrev pub failing_writes : MemSink → List ℕ
failing_writes sink = sink.failing.items

-- how many writes there were
abbrev pub mem_writes : MemSink → ℕ
mem_writes sink = sink.writes

-- how many writes failed
abbrev pub mem_sink_faults : MemSink → ℕ
mem_sink_faults sink = sink.faults
