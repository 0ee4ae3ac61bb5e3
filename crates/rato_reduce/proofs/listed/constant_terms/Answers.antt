use Rattle.rato_reduce.proofs.ConstantLemmas.{no_bits_rise}
use Rattle.rato_reduce.proofs.listed.constant_terms.Goals as goal

pub push_bits-requires : goal.push_bits-requires
push_bits-requires c = no_bits_rise
