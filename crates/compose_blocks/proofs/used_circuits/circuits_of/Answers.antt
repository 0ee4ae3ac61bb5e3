use Rattle.std.proofs.Common.{◌<◌, length, get_or, arith}
use Rattle.std.proofs.lemmas.Option.{slice_get-get_or, slice_get_within}
use Rattle.compose_blocks.specs.declared.uses.Found.{Found}
use Rattle.compose_blocks.proofs.CircuitLemmas.{done_more, first_refused, found_model, found_within}
use Rattle.compose_blocks.proofs.used_circuits.circuits_of.Goals as goal

abbrev none : Found
none = record { block = 0; model = 0 }

pub add_circuit-requires-clause-block : goal.add_circuit-requires-clause-block
add_circuit-requires-clause-block c = found_within c.args.design.now c.args.blocks.now c.args.list.now c.loop-i.i (get_or c.args.list.now c.loop-i.i none) c.requires.found (slice_get-get_or c.args.list.now c.loop-i.i none c.loop-i-test.true)

pub add_circuit-requires-clause-model : goal.add_circuit-requires-clause-model
add_circuit-requires-clause-model c = found_model c.args.design.now c.args.blocks.now c.args.list.now c.loop-i.i (get_or c.args.list.now c.loop-i.i none) c.requires.found (slice_get-get_or c.args.list.now c.loop-i.i none c.loop-i-test.true)

pub returns-in-Err-clause-fault : goal.returns-in-Err-clause-fault
returns-in-Err-clause-fault c =
    let refused = c.in-Err.ensures.fault in
    first_refused c.args.design.now c.args.blocks.now c.args.list.now c.requires.found c.loop-i.circuits.items c.loop-i.invariant.are c.loop-i.i (get_or c.args.list.now c.loop-i.i none) refused.0 c.in-Err.fault (slice_get-get_or c.args.list.now c.loop-i.i none c.loop-i-test.true) c.loop-i.invariant.done refused.1 refused.2

pub loop-i-preserved : goal.loop-i-preserved
loop-i-preserved c =
    record {
      are = c.in-Ok-add_circuit.ensures.kept;
      done = done_more c.args.list.now c.loop-i.i (get_or c.args.list.now c.loop-i.i none) c.loop-i.circuits.items c.add_circuit.new.circuits.items (slice_get-get_or c.args.list.now c.loop-i.i none c.loop-i-test.true) c.in-Ok-add_circuit.ensures.keeps c.loop-i.invariant.done c.in-Ok-add_circuit.ensures.has;
    }

pub returns-clause-all : goal.returns-clause-all
returns-clause-all c = λ i found got.
    let less : i < length c.args.list.now = slice_get_within c.args.list.now i found got in
    c.loop-i.invariant.done i found (omega (arith, less)) got
