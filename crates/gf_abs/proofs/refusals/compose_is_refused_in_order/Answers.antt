use Rattle.gf_abs.proofs.OtherRefusalLemmas.{compose_in_order}
use Rattle.gf_abs.proofs.refusals.compose_is_refused_in_order.Goals as goal

pub returns : goal.returns
returns c = compose_in_order
