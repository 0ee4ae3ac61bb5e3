use Rattle.poly_mixed.proofs.SimpleLemmas.{no_ranks_rise}
use Rattle.poly_mixed.proofs.read.read_parts.Goals as goal

pub new-requires : goal.new-requires
new-requires c = no_ranks_rise
