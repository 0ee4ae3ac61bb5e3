use Rattle.compose_blocks.proofs.OneCircuitLemmas.{made_circuit, one_block, one_circuit}
use Rattle.compose_blocks.proofs.block_laws.blocks_have_one_circuit.Goals as goal

pub returns-clause-made : goal.returns-clause-made
returns-clause-made c = λ h model words netlist is k mul bases. made_circuit k mul h model words bases netlist is

pub returns-clause-one : goal.returns-clause-one
returns-clause-one c = one_circuit

pub returns-clause-block : goal.returns-clause-block
returns-clause-block c = one_block
