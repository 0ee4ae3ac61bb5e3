use Rattle.std.proofs.Common.{rules, ◌∙◌, ◌+◌, ◌-◌, ◌<◌}
use Rattle.verilog_reader.specs.Declares.{bits_from, with_ports}
use Rattle.verilog_reader.proofs.PortLemmas.{ports_fault, ports_step}
use Rattle.verilog_reader.proofs.ports.make_bits.Goals as goal

pub returns-in-Err-clause-fault : goal.returns-in-Err-clause-fault
returns-in-Err-clause-fault c =
    let less : c.loop-index.index < 1 + c.args.high = search rules in
    ports_fault c.args.direction c.loop-index.maker c.args.name.now c.loop-index.index (1 + c.args.high) less (with_ports c.args.direction c.args.maker.now (bits_from c.args.name.now c.args.low (1 + c.args.high - c.args.low))) c.in-Err.fault c.loop-index.invariant.onward c.in-Err.ensures.fault

pub loop-index-preserved : goal.loop-index-preserved
loop-index-preserved c =
    let less : c.loop-index.index < 1 + c.args.high = search rules in
    record {
      onward = c.loop-index.invariant.onward ∙ ports_step c.args.direction c.loop-index.maker c.args.name.now c.loop-index.index (1 + c.args.high) less c.make_bit.new.maker c.in-Ok.ensures.made;
      begun = search rules;
    }
