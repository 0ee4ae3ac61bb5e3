use Rattle.poly_mixed.proofs.SimpleLemmas.{one_rank_rises}
use Rattle.cert_make.proofs.copy.scaled.Goals as goal

pub new-requires : goal.new-requires
new-requires c = one_rank_rises c.args.rank
