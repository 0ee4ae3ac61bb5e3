use Rattle.gf_abs.proofs.OtherRefusalLemmas.{verify_in_order}
use Rattle.gf_abs.proofs.refusals.verify_is_refused_in_order.Goals as goal

pub returns : goal.returns
returns c = verify_in_order
