use Rattle.std.proofs.Common.{◌≡◌, ◌≤◌, ◌+◌, ◌-◌}
use Rattle.verilog_reader.specs.Declares.{bits_from, with_ports}
use Rattle.verilog_reader.proofs.ports.make_bits.Given as goal

-- what is made of the rest is made of the whole
abbrev pub invariant-loop-index : goal.invariant-loop-index
invariant-loop-index l =
    record {
      onward : with_ports l.direction l.fn.maker (bits_from l.name l.low (1 + l.high - l.low)) ≡ with_ports l.direction l.maker (bits_from l.name l.index (1 + l.high - l.index));
      begun : l.low ≤ l.index;
    }
