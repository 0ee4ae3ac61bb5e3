use Rattle.gf_abs.proofs.RefusalLemmas.{check_in_order}
use Rattle.gf_abs.proofs.refusals.check_is_refused_in_order.Goals as goal

pub returns : goal.returns
returns c = check_in_order
