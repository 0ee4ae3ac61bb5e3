use Rattle.gf_abs.proofs.RefusalLemmas.{bits_in_order}
use Rattle.gf_abs.proofs.refusals.bits_is_refused_in_order.Goals as goal

pub returns : goal.returns
returns c = bits_in_order
