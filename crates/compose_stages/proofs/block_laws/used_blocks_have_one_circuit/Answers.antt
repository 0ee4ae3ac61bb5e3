use Rattle.std.proofs.Common.{refl}
use Rattle.compose_stages.proofs.UsedLemmas.{one_number, one_use, one_used}
use Rattle.compose_stages.proofs.block_laws.used_blocks_have_one_circuit.Goals as goal

pub returns-clause-place : goal.returns-clause-place
returns-clause-place c = one_use

pub returns-clause-number : goal.returns-clause-number
returns-clause-number c = λ h b d i x y. one_number h b d i i x y refl

pub returns-clause-circuit : goal.returns-clause-circuit
returns-clause-circuit c = one_used
