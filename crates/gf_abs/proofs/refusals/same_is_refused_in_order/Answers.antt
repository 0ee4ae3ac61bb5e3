use Rattle.gf_abs.proofs.RefusalLemmas.{same_in_order}
use Rattle.gf_abs.proofs.refusals.same_is_refused_in_order.Goals as goal

pub returns : goal.returns
returns c = same_in_order
