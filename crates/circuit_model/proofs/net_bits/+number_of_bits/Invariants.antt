use Rattle.std.proofs.Common.{length}
use Rattle.circuit_model.proofs.net_bits.+number_of_bits.Given as goal

abbrev pub decreases-number_of_bits : goal.decreases-number_of_bits
decreases-number_of_bits l = length l.nets.now
